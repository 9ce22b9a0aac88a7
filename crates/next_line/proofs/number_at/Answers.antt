-- `next_line::number_at` meets its contract. Assumes nothing.
use Rattle.std.proofs.Common.{arith, rules}
use Rattle.next_line.specs.laws.Standing.{number-zero, number-start, number-wide, number_more, number-next}
use Rattle.next_line.proofs.number_at.Goals as goal

pub returns-then-first-eq0 : goal.returns-then-first-eq0
returns-then-first-eq0 c = (number-zero _ _ c.requires _ c.in_ok-first.ensures c.if-first-eq0.true, omega arith)

pub loop-k-init : goal.loop-k-init
loop-k-init c = number-start _ _ c.requires _ c.in_ok-first.ensures c.if-first-eq0.false

pub overflow_mul-n : goal.overflow_mul-n
overflow_mul-n c = search (number-wide, rules)

pub overflow_add-n : goal.overflow_add-n
overflow_add-n c = number_more _ _ c.requires _ _ c.loop-k.invariant (omega arith) _ c.in-Some.ensures.small

pub loop-k-preserved : goal.loop-k-preserved
loop-k-preserved c = number-next _ _ c.requires _ _ c.loop-k.invariant (omega arith) _ c.in-Some.ensures
