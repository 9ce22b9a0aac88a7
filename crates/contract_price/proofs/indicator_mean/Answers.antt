-- `contract_price::indicator_mean` meets its contract. Assumes nothing.
use Prim.Native.Nat.{ℕ, ◌≤◌}
use mathlib.Core.Path.{◌≡◌, sym, ap, ◌∙◌}
use native.Mathlib.Omega.{arith}
use lib.IntN.{ℤ, nat_abs}
use mir.Syntax.{w64}
use mir.Val.{to_z, of_z}
use Rattle.std.proofs.Common.{Option, Some}
use Rattle.cents.specs.laws.Whole.{same_at, mag-size, back, known_is}
use Rattle.market.specs.laws.Rows.{window-length}
use Rattle.twap.specs.Span.{span_says}
use Rattle.price_rules.specs.declared.Method.TheVariants.{Twap}
use Rattle.price_rules.specs.Closing.{mean, implied_by, twap_by}
use Rattle.price_rules.specs.laws.Adding.{implied-is, implied-size}
use Rattle.contract_price.specs.laws.Numbers.{summed-small}
use Rattle.contract_price.proofs.indicator_mean.Goals as goal

-- the sum is read as it is
read : (z : ℤ) → nat_abs z ≤ 29999999700000 → to_z w64 (of_z w64 z) ≡ z
read z h = same_at w64 z (omega (arith, mag-size z, h))

pub returns : goal.returns
returns c =
    let a = c.args in
    let total = c.in_ok-total.total in
    let span : a.span ≡ Some total = c.in_ok-total.was in
    let small = summed-small c.requires (sym (ap span_says span)) in
    let size = implied-size a.marks a.closes.now.bounded a.i 300000 total (omega arith) (omega (arith, small)) in
    let part = implied-is a.marks a.closes.now.cents.now a.i 300000 total c.leg_of.ensures c.is_marked.ensures (rw (read total small) at c.implied_price.ensures) in
    ap (λ (z : ℤ). Some (mean Twap z 300000)) (back tt (known_is part size)).known
    ∙ ap (λ (n : ℕ). Some (mean Twap (implied_by a.marks a.closes.now.cents.now a.i n total) n)) (sym window-length)
    ∙ ap (λ (x : Option ℤ). twap_by a.marks a.closes.now.cents.now a.i (span_says x)) (sym span)
