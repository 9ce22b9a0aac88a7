-- `sheet::past_records` meets its contract: each need is a law of the loop. Assumes nothing.
use Rattle.sheet.specs.laws.Walk.{left}
use Rattle.sheet.specs.laws.Past.{Nearly}
use Rattle.sheet.proofs.past_records.Given as goal

abbrev pub invariant-loop-size : goal.invariant-loop-size
invariant-loop-size l = Nearly l.sheet l.at l.progress

abbrev pub decreases-loop-size : goal.decreases-loop-size
decreases-loop-size l = left l.sheet l.at
