-- `six_answers::lots_over` meets its contract: the sum is that of the instruments before i. Assumes nothing.
use Rattle.six_answers.specs.laws.Asking.{Adding}
use Rattle.six_answers.proofs.lots_over.Given as goal

abbrev pub invariant-loop-i : goal.invariant-loop-i
invariant-loop-i l = Adding l.book.totals l.first l.past l.sum l.i
