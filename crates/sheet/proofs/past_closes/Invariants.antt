-- `sheet::past_closes` meets its contract: each need is a law of the loop. Assumes nothing.
use Rattle.sheet.specs.laws.Walk.{left}
use Rattle.sheet.specs.laws.Past.{Opened}
use Rattle.sheet.proofs.past_closes.Given as goal

abbrev pub invariant-loop-instrument : goal.invariant-loop-instrument
invariant-loop-instrument l = Opened l.sheet l.at l.progress

abbrev pub decreases-loop-instrument : goal.decreases-loop-instrument
decreases-loop-instrument l = left l.sheet l.at
