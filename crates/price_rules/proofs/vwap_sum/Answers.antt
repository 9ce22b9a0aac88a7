-- `price_rules::vwap_sum` meets its contract: the sum over the instruments so far, within its bound. Assumes nothing.
use Rattle.std.proofs.Common.{◌≡◌, ◌+◌, ◌-◌, refl, arith, add-one}
use Rattle.price_rules.specs.laws.Adding.{sum_by, sum-next, within_none, within_more}
use Rattle.price_rules.proofs.vwap_sum.Goals as goal

pub loop-i-init : goal.loop-i-init
unfolding sum_by
loop-i-init c = let none : c.args.first - c.args.first ≡ 0 = omega arith in rw none (refl, within_none)

pub loop-i-preserved : goal.loop-i-preserved
loop-i-preserved c =
    let a = c.args in
    let l = c.loop-i in
    let n = l.i - a.first in
    let next : l.i + 1 - a.first ≡ n + 1 = omega (arith, l.auto.i) in
    let place : a.first + n ≡ l.i = omega (arith, l.auto.i) in (
      rw next (sum-next _ _ _ _ n l.invariant.0 (rw place c.with_instrument-sum.ensures)),
      rw (next, c.with_instrument-sum.ensures, add-one) (within_more a.book.now.marks a.closes.now.bounded n l.sum l.i _ (a.book.now.small l.i) l.invariant.1),
    )
