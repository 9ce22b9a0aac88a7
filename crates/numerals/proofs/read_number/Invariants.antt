-- What holds as `numerals::read_number` walks the digits. Assumes nothing.
use Rattle.numerals.specs.laws.Walk.{OnDigits}
use Rattle.numerals.proofs.read_number.Given as goal

abbrev pub invariant-loop-b : goal.invariant-loop-b
invariant-loop-b l = OnDigits l.most l.s l.n l.b-index
