-- `twap::lines_of` meets its contract: at each place the lines are those of the fields before it. Assumes nothing.
use Rattle.sheet.specs.laws.Walk.{left}
use Rattle.twap.specs.laws.Pass.{Passing}
use Rattle.twap.proofs.lines_of.Given as goal

abbrev pub invariant-loop-at : goal.invariant-loop-at
invariant-loop-at l = Passing l.metal l.sheet l.at l.lines

abbrev pub decreases-loop-at : goal.decreases-loop-at
decreases-loop-at l = left l.sheet l.at
