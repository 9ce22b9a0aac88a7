-- `tape::at_last` meets its contract. Assumes nothing.
use Rattle.std.proofs.Common.{rules}
use Rattle.tape.specs.Tape.{at_last}
use Rattle.tape.specs.laws.Measuring.{measured-none}
use Rattle.tape.proofs.at_last.Goals as goal

pub returns : goal.returns
unfolding at_last
returns c = search (measured-none, rules)
