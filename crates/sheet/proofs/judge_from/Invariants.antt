-- `sheet::judge_from` meets its contract: each need is a law of the loop, whose premises `search` finds. Assumes nothing.
use Rattle.sheet.specs.laws.Walk.{left}
use Rattle.sheet.specs.laws.Track.{OnTrack}
use Rattle.sheet.proofs.judge_from.Given as goal

abbrev pub invariant-loop-field : goal.invariant-loop-field
invariant-loop-field l = OnTrack l.sheet l.at l.progress

abbrev pub decreases-loop-field : goal.decreases-loop-field
decreases-loop-field l = left l.sheet l.at
