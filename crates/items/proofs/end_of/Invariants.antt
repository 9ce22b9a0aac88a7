-- What holds as `items::end_of` looks for the stop. Assumes nothing.
use Rattle.items.specs.laws.Walk.{Looking}
use Rattle.items.proofs.end_of.Given as goal

abbrev pub invariant-loop-i : goal.invariant-loop-i
invariant-loop-i l = Looking l.stop l.s l.from l.i
