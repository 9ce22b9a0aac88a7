-- What holds as `next_line::number_at` walks the digits. Assumes nothing.
use Rattle.next_line.specs.laws.Standing.{OnNumber}
use Rattle.next_line.proofs.number_at.Given as goal

abbrev pub invariant-loop-k : goal.invariant-loop-k
invariant-loop-k l = OnNumber l.s l.at l.n l.k
