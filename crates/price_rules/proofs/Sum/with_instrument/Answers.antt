-- `price_rules::Sum::with_instrument` meets its contract: no sum leaves 64 bits. Assumes nothing.
use Rattle.std.proofs.Common.{◌≡◌, ℕ, ◌+◌, ◌*◌, ap, List, Bool, ℤ, pos, nat_abs, ◌≤◌, ◌+ℤ◌, w64, to_z, of_z, arith}
use Rattle.market.specs.declared.Leg.{Leg}
use Rattle.market.specs.Market.{leg_of, marked}
use Rattle.cents.specs.laws.Whole.{Known, known_is, fits, back, plus, field, same_at, mag-size}
use Rattle.trades.specs.declared.Total.{Total}
use Rattle.trades.specs.laws.Trades.{Small}
use Rattle.price_rules.specs.Closing.{applied, less_of, base_of, implied_by}
use Rattle.price_rules.specs.laws.Sizes.{Bounded}
use Rattle.price_rules.specs.laws.Adding.{total_at, implied-is, implied-size, total-small}
use Rattle.price_rules.proofs.Sum.with_instrument.Goals as goal

read : (z : ℤ) → nat_abs z ≤ 1048576000000000000 → to_z w64 (of_z w64 z) ≡ z
read z h = same_at w64 z (omega (arith, mag-size z, h))

-- an instrument's part as the machine has it; and the sum with that
part : (marks : ℕ) (closes : List ℕ) (i : ℕ) (t : Total) {leg : Leg} {mark : Bool} {r : ℤ} → Bounded closes → Small 1048576 t → leg ≡ leg_of i → mark ≡ marked marks i
    → r ≡ applied (less_of leg mark) (pos (t.lots * base_of closes leg)) (to_z w64 (of_z w64 t.value)) → Known 2100000000000000000 (to_z w64 (of_z w64 r)) (implied_by marks closes i t.lots t.value)
part marks closes i t b s e f g =
    let small = total-small t s in
    back tt (known_is (implied-is marks closes i t.lots t.value e f (rw (read t.value small.1) at g)) (implied-size marks b i t.lots t.value small.0 small.1))

both : (z r : ℤ) {v : ℤ} → nat_abs z ≤ 6300000000000000000 → Known 2100000000000000000 (to_z w64 (of_z w64 r)) v → Known 8400000000000000000 (to_z w64 (of_z w64 z) +ℤ to_z w64 (of_z w64 r)) (z +ℤ v)
both z r h p = plus (field z (omega (arith, mag-size z, h)) h) p

pub overflow_add-result-2 : goal.overflow_add-result-2
overflow_add-result-2 c =
    let a = c.args in
    fits tt (both a.self.sum c.implied_price.result c.requires.0.sum (part a.book.now.marks a.closes.now.cents.now a.i (total_at a.book.now.totals a.i) a.closes.now.bounded (a.book.now.small a.i) c.leg_of.ensures c.is_marked-mark.ensures c.implied_price.ensures))

pub returns : goal.returns
returns c =
    let a = c.args in
    let t = total_at a.book.now.totals a.i in
    ap (λ (z : ℤ). record { lots = a.self.lots + t.lots; sum = z })
    (back tt (both a.self.sum c.implied_price.result c.requires.0.sum (part a.book.now.marks a.closes.now.cents.now a.i t a.closes.now.bounded (a.book.now.small a.i) c.leg_of.ensures c.is_marked-mark.ensures c.implied_price.ensures))).known
