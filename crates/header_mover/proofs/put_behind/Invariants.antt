-- `header_mover::put_behind`: what stands before the place reached is the buffer's start and the bytes so far, and the rest is as it was.
use Rattle.header_mover.proofs.Behind.{Reached}
use Rattle.header_mover.proofs.put_behind.Given as goal

abbrev pub invariant-loop-i : goal.invariant-loop-i
invariant-loop-i l = Reached l.initial.out l.out l.s l.at l.i
