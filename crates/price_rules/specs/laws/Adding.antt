-- What the code adds up: the totals of the instruments, each applied to the other leg's close as often as it has lots; and that it is the sum
-- of lots times implied price, trade by trade.
--     sum_by      the code's sum;  sum_is    it is the one of RULES 5
--     Within     the sizes that keep every sum within 64 bits
-- Assumes nothing.
use Rattle.std.specs.Prelude.{ℕ, zero, suc, ◌+◌, ◌*◌, ◌≤◌, ◌<◌, ◌≡◌, refl, Bool, true, false, List, [], ◌∷◌, ℤ, pos, nat_abs, ◌+ℤ◌, ◌*ℤ◌, get_or}
use Rattle.std.proofs.Common.{sym, ap, ◌∙◌, add-mul, mul-zero, mul-add, mul-le-mul, add-one, arith}
use Rattle.market.specs.declared.Leg.{Leg}
use Rattle.market.specs.Market.{leg_of, marked}
use Rattle.cents.specs.laws.Whole.{up, down, is, is-+, is--, is-*, is_pos, show-≡, size-+, size--}
use Rattle.trades.specs.declared.Total.{Total}
use Rattle.trades.specs.Trades.{Deal, lots_in, value_in, sums_of, none}
use Rattle.trades.specs.laws.Trades.{Small}
use Rattle.price_rules.specs.declared.Sum.{Sum}
use Rattle.price_rules.specs.laws.Sizes.{Bounded, base-small}
use Rattle.price_rules.specs.Closing.{Figures, applied, less_of, base_of, implied_by, implied, deals_sum, vwap_sum, vwap_lots}

-- an instrument's total; none where there is no such instrument
abbrev pub total_at : List Total → ℕ → Total
total_at totals i = get_or totals i none

-- the totals of which lots and values stand apart
unfoldable pub paired : List ℕ → List ℤ → List Total
paired [] [] = []
paired [] (v ∷ vs) = record { lots = 0; value = v } ∷ paired [] vs
paired (l ∷ ls) [] = record { lots = l; value = pos 0 } ∷ paired ls []
paired (l ∷ ls) (v ∷ vs) = record { lots = l; value = v } ∷ paired ls vs

pub paired_at : (ls : List ℕ) (vs : List ℤ) (i : ℕ) → total_at (paired ls vs) i ≡ record { lots = get_or ls i 0; value = get_or vs i (pos 0) }
unfolding paired
paired_at [] [] i = refl
paired_at [] (v ∷ vs) zero = refl
paired_at [] (v ∷ vs) (suc i) = paired_at [] vs i
paired_at (l ∷ ls) [] zero = refl
paired_at (l ∷ ls) [] (suc i) = paired_at ls [] i
paired_at (l ∷ ls) (v ∷ vs) zero = refl
paired_at (l ∷ ls) (v ∷ vs) (suc i) = paired_at ls vs i

-- a sum with one instrument more
abbrev pub add_instrument : ℕ → List ℕ → Sum → ℕ → Total → Sum
add_instrument marks closes s i t = record { lots = s.lots + t.lots; sum = s.sum +ℤ implied_by marks closes i t.lots t.value }

-- an instrument's part, by its leg and its mark
pub implied-is : (marks : ℕ) (closes : List ℕ) (i times : ℕ) (value : ℤ) {leg : Leg} {mark : Bool} {z : ℤ} → leg ≡ leg_of i → mark ≡ marked marks i → z ≡ applied (less_of leg mark) (pos (times * base_of closes leg)) value → z ≡ implied_by marks closes i times value
unfolding implied_by
implied-is marks closes i times value e f g = g ∙ rw (e, f)

-- the sum over the instruments first, first + 1, ..
unfoldable pub sum_by : ℕ → List ℕ → List Total → ℕ → ℕ → Sum
sum_by marks closes totals first zero = record { lots = 0; sum = pos 0 }
sum_by marks closes totals first (suc n) = add_instrument marks closes (sum_by marks closes totals first n) (first + n) (total_at totals (first + n))

pub sum-next : (marks : ℕ) (closes : List ℕ) (totals : List Total) (first n : ℕ) {s t : Sum} → s ≡ sum_by marks closes totals first n → t ≡ add_instrument marks closes s (first + n) (total_at totals (first + n)) → t ≡ sum_by marks closes totals first (n + 1)
unfolding sum_by
sum-next marks closes totals first n e f = f ∙ rw (e, add-one n)

-- ---- sizes

-- a sum of n instruments' parts is no larger than that
pub record Within (n : ℕ) (s : Sum) : Type 0 where
  pub lots : s.lots ≤ n * 10485760000
  pub sum : nat_abs s.sum ≤ n * 2100000000000000000

applied-size : (less : Bool) (x y : ℤ) → nat_abs (applied less x y) ≤ nat_abs x + nat_abs y
applied-size true x y = size-- x y
applied-size false x y = size-+ x y

pub implied-size : (marks : ℕ) {closes : List ℕ} → Bounded closes → (i times : ℕ) (value : ℤ) → times ≤ 10485760000 → nat_abs value ≤ 1048576000000000000 → nat_abs (implied_by marks closes i times value) ≤ 2100000000000000000
unfolding implied_by
implied-size marks {closes} b i times value h k =
    omega (arith, applied-size (less_of (leg_of i) (marked marks i)) (pos (times * base_of closes (leg_of i))) value, mul-le-mul h (base-small b (leg_of i)))

-- an instrument's total is within its bounds
pub total-small : (t : Total) → Small 1048576 t → (t.lots ≤ 10485760000) × (nat_abs t.value ≤ 1048576000000000000)
total-small t s = (omega (arith, s.lots), omega (arith, s.value))

-- and so are its lots and its value where they stand apart
pub lent-small : (ls : List ℕ) (vs : List ℤ) (i : ℕ) → Small 1048576 (total_at (paired ls vs) i) → (get_or ls i 0 ≤ 10485760000) × (nat_abs (get_or vs i (pos 0)) ≤ 1048576000000000000)
lent-small ls vs i small = let s = rw (paired_at ls vs i) at small in (omega (arith, s.lots), omega (arith, s.value))

pub within_none : Within 0 (record { lots = 0; sum = pos 0 })
within_none = record { lots = omega arith; sum = omega arith }

pub within-up : {m n : ℕ} {s : Sum} → m ≤ n → Within m s → Within n s
within-up {m} {n} h w = record { lots = omega (arith, w.lots); sum = omega (arith, w.sum) }

pub within_more : (marks : ℕ) {closes : List ℕ} → Bounded closes → (n : ℕ) (s : Sum) (i : ℕ) (t : Total) → Small 1048576 t → Within n s → Within (suc n) (add_instrument marks closes s i t)
within_more marks {closes} b n s i t small w =
    let lots : t.lots ≤ 10485760000 = omega (arith, small.lots) in
    let value : nat_abs t.value ≤ 1048576000000000000 = omega (arith, small.value) in
    let part = implied_by marks closes i t.lots t.value in
    record {
      lots = omega (arith, w.lots);
      sum = omega (arith, w.sum, size-+ s.sum part, implied-size marks b i t.lots t.value lots value);
    }

-- ---- trade by trade, and by totals: lots times the other leg's close, with the value, is the sum of lots times implied price

leg-none : (leg : Leg) (mark : Bool) (closes : List ℕ) → applied (less_of leg mark) (pos (0 * base_of closes leg)) (pos 0) ≡ pos 0
leg-none leg mark closes = by (less_of leg mark)
  where
    by : (less : Bool) → applied less (pos (0 * base_of closes leg)) (pos 0) ≡ pos 0
    by true = show-≡ (is-- (is_pos (0 * base_of closes leg)) (is_pos 0)) (is_pos 0) (omega arith)
    by false = show-≡ (is-+ (is_pos (0 * base_of closes leg)) (is_pos 0)) (is_pos 0) (omega arith)

applied-more : (less : Bool) (b l w : ℕ) (p v : ℤ) → applied less (pos ((l + w) * b)) (pos l *ℤ p +ℤ v) ≡ pos l *ℤ applied less (pos (1 * b)) p +ℤ applied less (pos (w * b)) v
applied-more true b l w p v = show-≡
    (is-- (is_pos ((l + w) * b)) (is-+ (is-* l (is p)) (is v)))
    (is-+ (is-* l (is-- (is_pos (1 * b)) (is p))) (is-- (is_pos (w * b)) (is v)))
    (omega (arith, add-mul l w b, mul-add l (1 * b) (down p), mul-add l 0 (up p), mul-zero l))
applied-more false b l w p v = show-≡
    (is-+ (is_pos ((l + w) * b)) (is-+ (is-* l (is p)) (is v)))
    (is-+ (is-* l (is-+ (is_pos (1 * b)) (is p))) (is-+ (is_pos (w * b)) (is v)))
    (omega (arith, add-mul l w b, mul-add l (1 * b) (up p), mul-add l 0 (down p), mul-zero l))

pub deals-are : (marks : ℕ) (closes : List ℕ) (i : ℕ) (ds : List Deal) → deals_sum marks closes i ds ≡ implied_by marks closes i (lots_in ds) (value_in ds)
unfolding deals_sum implied_by lots_in value_in
deals-are marks closes i [] = sym (leg-none (leg_of i) (marked marks i) closes)
deals-are marks closes i (d ∷ ds) =
    ap (λ (z : ℤ). pos d.lots *ℤ implied marks closes i d.price +ℤ z) (deals-are marks closes i ds)
    ∙ sym (applied-more (less_of (leg_of i) (marked marks i)) (base_of closes (leg_of i)) d.lots (lots_in ds) d.price (value_in ds))

-- the totals are the sums of the day's trades
abbrev pub Tallied : Figures → List Total → Type 0
Tallied day totals = (i : ℕ) → i < 12 → total_at totals i ≡ sums_of (day.trades i)

pub sum_is : (day : Figures) (closes : List ℕ) (totals : List Total) → Tallied day totals → (first n : ℕ) → first + n ≤ 12 → sum_by day.marks closes totals first n ≡ record { lots = vwap_lots day first n; sum = vwap_sum day closes first n }
unfolding sum_by vwap_lots vwap_sum
sum_is day closes totals tallied first zero h = refl
sum_is day closes totals tallied first (suc n) h =
    rw (sum_is day closes totals tallied first n (omega arith), tallied (first + n) (omega arith), deals-are day.marks closes (first + n) (day.trades (first + n))) refl
