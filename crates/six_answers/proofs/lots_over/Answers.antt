-- `six_answers::lots_over` meets its contract: the sum is that of the instruments before i. Assumes nothing.
use Rattle.std.proofs.Common.{refl, arith}
use Rattle.six_answers.specs.laws.Asking.{countable, adding-none, adding-more, adding-fits}
use Rattle.six_answers.proofs.lots_over.Goals as goal

pub loop-i-init : goal.loop-i-init
loop-i-init c = adding-none _ _ c.args.past c.requires.0

pub overflow_add-sum : goal.overflow_add-sum
overflow_add-sum c = adding-fits _ _ _ _ _ c.loop-i.invariant (countable _ c.args.book.now.small) c.requires.1

pub loop-i-preserved : goal.loop-i-preserved
loop-i-preserved c = adding-more _ _ _ _ _ c.loop-i.invariant (omega arith) refl
