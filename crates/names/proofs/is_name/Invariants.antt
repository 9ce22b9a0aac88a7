-- `names::is_name` meets its contract: the lengths, then byte after byte. Assumes nothing.
use Rattle.names.specs.laws.Finding.{Alike}
use Rattle.names.proofs.is_name.Given as goal

abbrev pub invariant-loop-i : goal.invariant-loop-i
invariant-loop-i l = Alike l.name l.s l.i
