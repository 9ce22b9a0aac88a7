-- What holds as `tape::judge_tape` walks the lines, and that it ends. Assumes nothing.
use Prim.Native.Nat.{◌-◌}
use lib.ListN.{length}
use Rattle.tape.specs.laws.Track.{OnTape}
use Rattle.tape.proofs.judge_tape.Given as goal

abbrev pub invariant-loop-field : goal.invariant-loop-field
invariant-loop-field l = OnTape l.text l.at l.line l.bytes l.progress

abbrev pub decreases-loop-field : goal.decreases-loop-field
decreases-loop-field l = length l.text - l.at
