-- Whether a sum over a window is asked for: by a contract with fewer lots than the minimum, unless 3M is that contract.
--     asks, some_ask         a contract, and some of the first;  unasked    where none does, each has its lots
--     lots_from, lots-are    a contract's lots from the totals;  Adding    the loop that adds them up
--     Provided              the sums where they are asked for, and none else
-- Assumes nothing.
use Prim.Native.Nat.{ℕ, zero, suc, ◌+◌, ◌-◌, ◌*◌, ◌≤◌, ◌<◌}
use Rattle.std.specs.Prelude.{◌≡◌, Bool, cond, List, leb, ℤ, replicate, Option, None}
use Rattle.std.proofs.Math.Path.{refl, sym}
use Rattle.std.proofs.Common.{ap, ◌∙◌, le_refl, add-one, Fits}
use Rattle.std.proofs.Math.Bool.{true, false, not}
use Rattle.std.proofs.Math.Decide.{dec_lt}
use native.Mathlib.Omega.{arith}
use borrow.Author.Tests.{lt-leb, le-leb, lt-ltb, le-ltb, leb-true}
use Rattle.std.proofs.Math.Dec.{ltb}
use Rattle.std.specs.Int.{w64}
use Rattle.field.specs.declared.Field.{Field}
use Rattle.field.specs.laws.Field.{clash}
use Rattle.market.specs.declared.Contract.{Contract}
use Rattle.market.specs.Market.{minimum_lots, contract_of, named}
use Rattle.trades.specs.declared.Total.{Total}
use Rattle.trades.specs.laws.Trades.{AllSmall}
use Rattle.twap.specs.Span.{Sums}
use Rattle.price_rules.specs.laws.Adding.{total_at, total-small, sum_by}

-- ---- a contract's lots

-- the lots of the instruments first, first + 1, ..
unfoldable pub lots_from : List Total → ℕ → ℕ → ℕ
lots_from totals first zero = 0
lots_from totals first (suc n) = lots_from totals first n + (total_at totals (first + n)).lots

pub lots-none : (totals : List Total) (first : ℕ) → 0 ≡ lots_from totals first 0
unfolding lots_from
lots-none totals first = refl

pub lots-more : (totals : List Total) (first n : ℕ) {a b : ℕ} → a ≡ lots_from totals first n → b ≡ a + (total_at totals (first + n)).lots → b ≡ lots_from totals first (n + 1)
unfolding lots_from
lots-more totals first n e f = f ∙ rw (e, add-one n) refl

-- they are those of the sum that prices it
pub lots-are : (marks : ℕ) (closes : List ℕ) (totals : List Total) (first n : ℕ) → (sum_by marks closes totals first n).lots ≡ lots_from totals first n
unfolding sum_by lots_from
lots-are marks closes totals first zero = refl
lots-are marks closes totals first (suc n) = rw (lots-are marks closes totals first n) refl

-- no instrument's lots are more than the totals of a sheet can have
abbrev pub Countable : List Total → Type 0
Countable totals = (i : ℕ) → (total_at totals i).lots ≤ 10485760000

pub countable : (totals : List Total) → AllSmall 1048576 totals → Countable totals
countable totals small i = (total-small (total_at totals i) (small i)).0

pub lots-most : (totals : List Total) → Countable totals → (first n : ℕ) → lots_from totals first n ≤ n * 10485760000
unfolding lots_from
lots-most totals h first zero = omega arith
lots-most totals h first (suc n) = omega (arith, lots-most totals h first n, h (first + n))

-- a loop that adds them up: the sum is that of the instruments before i
pub record Adding (totals : List Total) (first past sum i : ℕ) : Type 0 where
  pub from : first ≤ i
  pub most : i ≤ past
  pub same : sum ≡ lots_from totals first (i - first)

module _ (totals : List Total) (first past : ℕ) where
  pub adding-none : first ≤ past → Adding totals first past 0 first
  adding-none h = let none : first - first ≡ 0 = omega arith in record { from = le_refl first; most = h; same = lots-none totals first ∙ ap (lots_from totals first) (sym none) }

  module _ (sum i : ℕ) (o : Adding totals first past sum i) where
    -- the instrument's place as the loop counts it
    place : first + (i - first) ≡ i
    place = omega (arith, o.from)

    pub adding-more : i < past → {b : ℕ} → b ≡ sum + (total_at totals i).lots → Adding totals first past b (i + 1)
    adding-more h e =
        let next : i + 1 - first ≡ i - first + 1 = omega (arith, o.from) in
        record { from = omega (arith, o.from); most = omega arith; same = rw next (lots-more totals first (i - first) o.same (e ∙ ap (λ (k : ℕ). sum + (total_at totals k).lots) (sym place))) }

    pub adding-fits : Countable totals → past ≤ 12 → Fits w64 (sum + (total_at totals i).lots)
    adding-fits h l = record { fits = omega (arith, o.same, o.from, o.most, lots-most totals h first (i - first), h i) }

    pub adding-all : past ≤ i → sum ≡ lots_from totals first (past - first)
    adding-all h = let end : i ≡ past = omega (arith, o.most) in o.same ∙ ap (λ (k : ℕ). lots_from totals first (k - first)) end

-- ---- who asks

-- a contract's own lots
abbrev pub own_lots : List Total → ℕ → ℕ
own_lots totals c = lots_from totals (contract_of c).first ((contract_of c).past - (contract_of c).first)

unfoldable pub asks : ℕ → List Total → ℕ → Bool
asks third totals c = cond (named third c) false (not (leb minimum_lots (own_lots totals c)))

-- as the code tests it: 3M is the contract; or it isn't, and its lots are held against the minimum
module _ (third : ℕ) (totals : List Total) (c : ℕ) {t : Bool} (e : t ≡ named third c) where
  pub asks-not : t ≡ true → false ≡ asks third totals c
  unfolding asks
  asks-not h = sym (rw (sym e ∙ h) refl)

  pub asks-by : t ≡ false → {row : Contract} {x : ℕ} → row ≡ contract_of c → x ≡ lots_from totals row.first (row.past - row.first) → ltb x 5 ≡ asks third totals c
  unfolding asks
  asks-by h r g = rw (sym e ∙ h, g, r) (below (own_lots totals c) (dec_lt (own_lots totals c) 5))
    where
      below : (n : ℕ) → Dec (n < 5) → ltb n 5 ≡ not (leb 5 n)
      below n (yes l) = rw (lt-ltb n 5 l, lt-leb 5 n l) refl
      below n (no l) = rw (le-ltb n 5 (omega arith), le-leb 5 n (omega arith)) refl

-- one of the first n
unfoldable pub some_ask : ℕ → List Total → ℕ → Bool
some_ask third totals zero = false
some_ask third totals (suc n) = cond (some_ask third totals n) true (asks third totals n)

module _ (third : ℕ) (totals : List Total) where
  pub none-asked : false ≡ some_ask third totals 0
  unfolding some_ask
  none-asked = refl

  -- one that does not ask
  pub asked-not : (c : ℕ) → false ≡ some_ask third totals c → asks third totals c ≡ false → false ≡ some_ask third totals (c + 1)
  unfolding some_ask
  asked-not c e h = sym (rw (add-one c, ← e, h) refl)

  pub asked-all : (c : ℕ) → false ≡ some_ask third totals c → c ≡ 6 → false ≡ some_ask third totals 6
  asked-all c e h = e ∙ ap (some_ask third totals) h

  -- one that asks
  either : (b : Bool) → cond b true true ≡ true
  either true = refl
  either false = refl

  asked_by : (c n : ℕ) → asks third totals c ≡ true → c < suc n → (c < n → some_ask third totals n ≡ true) → Dec (c < n) → cond (some_ask third totals n) true (asks third totals n) ≡ true
  asked_by c n h l next (yes k) = rw (next k) refl
  asked_by c n h l next (no k) = let same : n ≡ c = omega arith in rw (same, h) (either (some_ask third totals c))

  asked-on : (c n : ℕ) → asks third totals c ≡ true → c < n → some_ask third totals n ≡ true
  unfolding some_ask
  asked-on c zero h l = absurd (omega arith)
  asked-on c (suc n) h l = asked_by c n h l (asked-on c n h) (dec_lt c n)

  pub asked_here : (c n : ℕ) → asks third totals c ≡ true → c < n → true ≡ some_ask third totals n
  asked_here c n h l = sym (asked-on c n h l)

  -- where none asks, each has the minimum
  enough : (c : ℕ) (b : Bool) → leb minimum_lots (own_lots totals c) ≡ b → not b ≡ false → minimum_lots ≤ own_lots totals c
  enough c true d f = leb-true minimum_lots (own_lots totals c) d
  enough c false d f = clash cc

  unasked-by : (c n : ℕ) → c < suc n → named third c ≡ false → (some_ask third totals n ≡ false → c < n → minimum_lots ≤ own_lots totals c)
      → (b : Bool) → some_ask third totals n ≡ b → cond b true (asks third totals n) ≡ false → Dec (c < n) → minimum_lots ≤ own_lots totals c
  unfolding asks
  unasked-by c n l h next true d f k = clash cc
  unasked-by c n l h next false d f (yes k) = next d k
  unasked-by c n l h next false d f (no k) =
      let same : n ≡ c = omega arith in
      let g : asks third totals c ≡ false = rw same at f in
      enough c (leb minimum_lots (own_lots totals c)) refl (rw h at g)

  pub unasked : (c n : ℕ) → some_ask third totals n ≡ false → c < n → named third c ≡ false → minimum_lots ≤ own_lots totals c
  unfolding some_ask
  unasked c zero e l h = absurd (omega arith)
  unasked c (suc n) e l h = unasked-by c n l h (λ d k. unasked c n d k h) (some_ask third totals n) refl e (dec_lt c n)

-- ---- the sums where they are asked for

pub record Provided (asked : Bool) (metal : ℕ) (fs : List Field) (r : List (Option ℤ)) : Type 0 where
  pub told : asked ≡ true → Sums metal fs r
  pub none : asked ≡ false → r ≡ replicate 12 None

module _ (metal : ℕ) (fs : List Field) (r : List (Option ℤ)) {asked : Bool} where
  pub provided-told : asked ≡ true → Sums metal fs r → Provided asked metal fs r
  provided-told e h = record { told = λ d. h; none = λ d. clash cc }

  pub provided-none : asked ≡ false → r ≡ replicate 12 None → Provided asked metal fs r
  provided-none e h = record { told = λ d. clash cc; none = λ d. h }
