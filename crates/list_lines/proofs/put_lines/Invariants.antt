-- What holds as `list_lines::put_lines` puts line behind line. Assumes nothing.
use Rattle.text.specs.Held.{held}
use Rattle.list_lines.specs.laws.Listing.{Listed}
use Rattle.list_lines.proofs.put_lines.Given as goal

abbrev pub invariant-loop-contract : goal.invariant-loop-contract
invariant-loop-contract l = Listed (held l.fn.t) l.answer-items (held l.text) l.contract
