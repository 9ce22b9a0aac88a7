-- Laws of the trades and of their sums.
--     trades-append, total-append   of two lists of fields, the trades are those of the first and then of the second, and the totals add up
--     trade-other, trade-outside, trade-inside    which trades count
--     total-own                     the total of an instrument goes by its own trades alone
--     total-small                   n fields give at most 10,000 lots each, and a value of at most 10,000 times 99,999,999 each
--     accepted-total                the same of an accepted sheet, where a trade takes 14 bytes
--     totals-at                     an instrument's place among the totals;  told-once    a result is one
-- Assumes nothing.
use Rattle.std.specs.Prelude.{ℕ, zero, suc, ◌+◌, ◌-◌, ◌*◌, ◌≤◌, ◌<◌, ◌≡◌, Bool, ◌&&◌, eqb, ℤ, pos, nat_abs, ◌+ℤ◌, ◌*ℤ◌, get_or, Result, Ok, Err}
use Rattle.std.proofs.Math.Path.{refl, sym, ap, ap₂}
use Rattle.std.proofs.Common.{◌∙◌, mul-le-mul, eq-eqb, ne_eqb, eqb-true}
use Rattle.std.proofs.Math.Bool.{true, false, cond}
use mathlib.Core.List.{List, [], ◌∷◌, ◌++◌, map, append_assoc}
use Rattle.std.proofs.Math.Decide.{dec_lt}
use native.Mathlib.Omega.{arith}
use Rattle.std.proofs.lemmas.Bool.{eqb-false}
use Rattle.std.proofs.Math.IntN.{+ℤ_assoc, +ℤ_idl, +ℤ_idr}
use Rattle.std.proofs.Math.ListN.{length, length-append, get_or-eq_default}
use Rattle.promise.specs.laws.Once.{once}
use Rattle.cents.specs.laws.Whole.{size-+, size-*}
use Rattle.field.specs.declared.Price.{Price}
use Rattle.field.specs.declared.Field.{Field}
use Rattle.field.specs.declared.Field.TheVariants.{Header, PreviousClose, Trade, Quote, End}
use Rattle.field.specs.declared.Refusal.{Refusal}
use Rattle.field.specs.Layout.{size_of, header_of, previous_of, trade_of, quote_of, end_of, long_header_of, field_of}
use Rattle.field.specs.Said.{gives, refuses}
use Rattle.field.specs.Reading.{shape_at}
use Rattle.field.specs.laws.Field.{clash, shaped}
use Rattle.field.specs.laws.Said.{fault_of, fault_back}
use Rattle.field.specs.Judging.{alone}
use Rattle.field.proofs.Sound.{Sound, price-size}
use Rattle.market.specs.Market.{start_of, in_window}
use Rattle.sheet.specs.declared.Day.{Day}
use Rattle.sheet.specs.Fields.{fields_at, fields_of, Each}
use Rattle.sheet.specs.Judgement.{Verdict, accepts, refuses-at, judge_sheet}
use Rattle.sheet.specs.laws.Walk.{shape-grows, fields-gave, fields-stop, walk-ind}
use Rattle.sheet.specs.laws.Accepted.{accepted-sound, accepted-small}
use Rattle.trades.specs.declared.Total.{Total}
use Rattle.trades.specs.declared.Traded.{Traded}
use Rattle.trades.specs.Trades.{Deal, counts, trade_in, trades_in, lots_in, value_in, sums_of, total_of, numbers, totals_of, none, no_trades, judged_by, totals_in, Told}

-- ---- sums of two lists

-- two totals together
abbrev pub join : Total → Total → Total
join t u = record { lots = t.lots + u.lots; value = t.value +ℤ u.value }

-- two totals are one where both their numbers are
pub same_total : {a b : ℕ} {x y : ℤ} → a ≡ b → x ≡ y → ◌≡◌ {A = Total} (record { lots = a; value = x }) (record { lots = b; value = y })
same_total e f = cc

pub join-none : (t : Total) → join t none ≡ t
join-none t = same_total (omega arith) (+ℤ_idr t.value)

pub lots-append : (ds es : List Deal) → lots_in (ds ++ es) ≡ lots_in ds + lots_in es
unfolding lots_in
lots-append [] es = omega arith
lots-append (d ∷ ds) es = omega (arith, lots-append ds es)

pub value-append : (ds es : List Deal) → value_in (ds ++ es) ≡ value_in ds +ℤ value_in es
unfolding value_in
value-append [] es = sym (+ℤ_idl (value_in es))
value-append (d ∷ ds) es =
    ap (λ (z : ℤ). pos d.lots *ℤ d.price +ℤ z) (value-append ds es) ∙ sym (+ℤ_assoc (pos d.lots *ℤ d.price) (value_in ds) (value_in es))

pub sums-append : (ds es : List Deal) → sums_of (ds ++ es) ≡ join (sums_of ds) (sums_of es)
sums-append ds es = same_total (lots-append ds es) (value-append ds es)

module _ (metal i : ℕ) where
  pub trades-append : (fs gs : List Field) → trades_in metal i (fs ++ gs) ≡ trades_in metal i fs ++ trades_in metal i gs
  unfolding trades_in
  trades-append [] gs = refl
  trades-append (f ∷ fs) gs = ap (λ (l : List Deal). trade_in metal i f ++ l) (trades-append fs gs) ∙ sym (append_assoc (trade_in metal i f) (trades_in metal i fs) (trades_in metal i gs))

  pub total-append : (fs gs : List Field) → total_of metal i (fs ++ gs) ≡ join (total_of metal i fs) (total_of metal i gs)
  unfolding total_of
  total-append fs gs = ap sums_of (trades-append fs gs) ∙ sums-append (trades_in metal i fs) (trades_in metal i gs)

-- ---- which trades count

module _ (metal i time instrument : ℕ) (price : Price) (lots : ℕ) where
  -- what such a field is where it counts
  abbrev deal : Deal
  deal = record { price = price.cents; lots = lots }

  pub trade-other : (instrument ≡ i → ⊥) → trade_in metal i (Trade time instrument price lots) ≡ []
  unfolding trade_in counts
  trade-other h = simp (ne_eqb instrument i h)

  pub trade-outside : in_window (start_of metal i) time ≡ false → trade_in metal i (Trade time instrument price lots) ≡ []
  unfolding trade_in counts
  trade-outside h = by-test (eqb instrument i)
    where
      by-test : (b : Bool) → cond (b && in_window (start_of metal i) time) (deal ∷ []) [] ≡ []
      by-test true = simp h
      by-test false = refl

  pub trade-inside : instrument ≡ i → in_window (start_of metal i) time ≡ true → trade_in metal i (Trade time instrument price lots) ≡ deal ∷ []
  unfolding trade_in counts
  trade-inside e h = simp (eq-eqb instrument i e, h)

-- ---- a total goes by its own instrument's trades alone

-- the field is a trade on the instrument
abbrev pub trade_on : ℕ → Field → Bool
trade_on i (Header metal marks form) = false
trade_on i (PreviousClose instrument price) = false
trade_on i (Trade time instrument price lots) = eqb instrument i
trade_on i (Quote time instrument sides bid offer) = false
trade_on i (End count) = false

-- the trades on the instrument, and no other field
unfoldable pub own : ℕ → List Field → List Field
own i [] = []
own i (f ∷ fs) = cond (trade_on i f) (f ∷ own i fs) (own i fs)

module _ (metal i : ℕ) where
  -- a field that is no trade on the instrument does not count
  pub trade-none : (f : Field) → trade_on i f ≡ false → trade_in metal i f ≡ []
  unfolding trade_in
  trade-none (Header m marks form) e = refl
  trade-none (PreviousClose instrument price) e = refl
  trade-none (Trade time instrument price lots) e = trade-other metal i time instrument price lots (eqb-false instrument i e)
  trade-none (Quote time instrument sides bid offer) e = refl
  trade-none (End count) e = refl

  pub trades-own : (fs : List Field) → trades_in metal i (own i fs) ≡ trades_in metal i fs
  unfolding own trades_in
  trades-own [] = refl
  trades-own (f ∷ fs) = by-test (trade_on i f) refl (trades-own fs)
    where
      by-test : (b : Bool) → trade_on i f ≡ b → trades_in metal i (own i fs) ≡ trades_in metal i fs → trades_in metal i (cond b (f ∷ own i fs) (own i fs)) ≡ trade_in metal i f ++ trades_in metal i fs
      by-test true e rest = ap (λ (l : List Deal). trade_in metal i f ++ l) rest
      by-test false e rest = rw (trade-none f e) rest

  pub total-own : (fs : List Field) → total_of metal i (own i fs) ≡ total_of metal i fs
  unfolding total_of
  total-own fs = ap sums_of (trades-own fs)

-- ---- bounds

-- no more than n trades in their ranges can add
pub record Small (n : ℕ) (t : Total) : Type 0 where
  pub lots : t.lots ≤ 10000 * n
  pub value : nat_abs t.value ≤ 999999990000 * n

-- so of every instrument
abbrev pub AllSmall : ℕ → List Total → Type 0
AllSmall n ts = (i : ℕ) → Small n (get_or ts i none)

-- of a list of trades, each in its range
abbrev pub InRange : List Deal → Type 0
InRange [] = Unit {0}
InRange (d ∷ ds) = (d.lots ≤ 10000) × (nat_abs d.price ≤ 99999999) × InRange ds

pub range-append : (ds es : List Deal) → InRange ds → InRange es → InRange (ds ++ es)
range-append [] es h k = k
range-append (d ∷ ds) es h k = (h.0, h.1, range-append ds es h.2 k)

pub lots-most : (ds : List Deal) → InRange ds → lots_in ds ≤ 10000 * length ds
unfolding lots_in
lots-most [] h = omega arith
lots-most (d ∷ ds) h = omega (arith, h.0, lots-most ds h.2)

pub value-most : (ds : List Deal) → InRange ds → nat_abs (value_in ds) ≤ 999999990000 * length ds
unfolding value_in
value-most [] h = omega arith
value-most (d ∷ ds) h =
    omega (arith, value-most ds h.2, size-+ (pos d.lots *ℤ d.price) (value_in ds), size-* (pos d.lots) d.price, mul-le-mul h.0 h.1)

pub sums-small : (ds : List Deal) (n : ℕ) → InRange ds → length ds ≤ n → Small n (sums_of ds)
sums-small ds n h l = record { lots = omega (arith, lots-most ds h); value = omega (arith, value-most ds h) }

module _ (metal i : ℕ) where
  -- a field is at most one trade
  trade-one : (f : Field) → length (trade_in metal i f) ≤ 1
  unfolding trade_in
  trade-one (Header m marks form) = omega arith
  trade-one (PreviousClose instrument price) = omega arith
  trade-one (Trade time instrument price lots) = by-test (counts metal i instrument time)
    where
      by-test : (b : Bool) → length {A = Deal} (cond b (record { price = price.cents; lots = lots } ∷ []) []) ≤ 1
      by-test true = omega arith
      by-test false = omega arith
  trade-one (Quote time instrument sides bid offer) = omega arith
  trade-one (End count) = omega arith

  trade-range : (f : Field) → Sound alone f → InRange (trade_in metal i f)
  unfolding trade_in
  trade-range (Header m marks form) h = tt
  trade-range (PreviousClose instrument price) h = tt
  trade-range (Trade time instrument price lots) h = by-test (counts metal i instrument time)
    where
      by-test : (b : Bool) → InRange (cond b (record { price = price.cents; lots = lots } ∷ []) [])
      by-test true = (h.most, price-size instrument price h.price-in, tt)
      by-test false = tt
  trade-range (Quote time instrument sides bid offer) h = tt
  trade-range (End count) h = tt

  -- there are no more trades than fields
  pub trades-few : (fs : List Field) → length (trades_in metal i fs) ≤ length fs
  unfolding trades_in
  trades-few [] = omega arith
  trades-few (f ∷ fs) = simp length-append (omega (arith, trade-one f, trades-few fs))

  pub trades-range : (fs : List Field) → Each (Sound alone) fs → InRange (trades_in metal i fs)
  unfolding trades_in
  trades-range [] h = tt
  trades-range (f ∷ fs) h = range-append (trade_in metal i f) (trades_in metal i fs) (trade-range f h.0) (trades-range fs h.1)

  pub total-small : (fs : List Field) (n : ℕ) → Each (Sound alone) fs → length fs ≤ n → Small n (total_of metal i fs)
  unfolding total_of
  total-small fs n h l = sums-small (trades_in metal i fs) n (trades-range fs h) (omega (arith, trades-few fs))

-- ---- a trade takes 14 bytes of a sheet

-- the tag of a body that is a trade
pub tag-three : (tag : ℕ) (b : List ℕ) {time instrument : ℕ} {price : Price} {lots : ℕ} → field_of tag b ≡ Trade time instrument price lots → tag ≡ 3
unfolding field_of
tag-three tag b {time} {instrument} {price} {lots} = by_one (eqb tag 1)
  where
    by-five : (x : Bool) → cond x (end_of b) (long_header_of b) ≡ Trade time instrument price lots → tag ≡ 3
    by-five true e = clash cc
    by-five false e = clash cc

    by-four : (x : Bool) → cond x (quote_of b) (cond (eqb tag 5) (end_of b) (long_header_of b)) ≡ Trade time instrument price lots → tag ≡ 3
    by-four true e = clash cc
    by-four false e = by-five (eqb tag 5) e

    by_three : (x : Bool) → eqb tag 3 ≡ x → cond x (trade_of b) (cond (eqb tag 4) (quote_of b) (cond (eqb tag 5) (end_of b) (long_header_of b))) ≡ Trade time instrument price lots → tag ≡ 3
    by_three true k e = eqb-true tag 3 k
    by_three false k e = by-four (eqb tag 4) e

    by_two : (x : Bool) → cond x (previous_of b) (cond (eqb tag 3) (trade_of b) (cond (eqb tag 4) (quote_of b) (cond (eqb tag 5) (end_of b) (long_header_of b)))) ≡ Trade time instrument price lots → tag ≡ 3
    by_two true e = clash cc
    by_two false e = by_three (eqb tag 3) refl e

    by_one : (x : Bool) → cond x (header_of b) (cond (eqb tag 2) (previous_of b) (cond (eqb tag 3) (trade_of b) (cond (eqb tag 4) (quote_of b) (cond (eqb tag 5) (end_of b) (long_header_of b))))) ≡ Trade time instrument price lots → tag ≡ 3
    by_one true e = clash cc
    by_one false e = by_two (eqb tag 2) e

module _ (metal i : ℕ) (s : List ℕ) where
  trade-bytes : (at : ℕ) (f : Field) (next : ℕ) → shape_at s at ≡ gives f next → 14 * length (trade_in metal i f) + at ≤ next
  unfolding trade_in
  trade-bytes at (Header m marks form) next e = omega (arith, (shape-grows s at e).0)
  trade-bytes at (PreviousClose instrument price) next e = omega (arith, (shape-grows s at e).0)
  trade-bytes at (Trade time instrument price lots) next e =
      let g = shaped s at (Trade time instrument price lots) next e in
      let long : at + 14 ≡ next = sym (ap (λ (tag : ℕ). at + size_of tag) (tag-three (get_or s at 0) _ g.values)) ∙ g.behind in
      omega (arith, trade-one metal i (Trade time instrument price lots))
  trade-bytes at (Quote time instrument sides bid offer) next e = omega (arith, (shape-grows s at e).0)
  trade-bytes at (End count) next e = omega (arith, (shape-grows s at e).0)

  -- the trades of an instrument from a place on have so many bytes at least
  pub trades-bytes : (at : ℕ) → 14 * length (trades_in metal i (fields_at s at)) ≤ length s - at
  unfolding trades_in
  trades-bytes = walk-ind s (λ at. 14 * length (trades_in metal i (fields_at s at)) ≤ length s - at) stop more
    where
      stop : (at number place : ℕ) → shape_at s at ≡ refuses number place → 14 * length (trades_in metal i (fields_at s at)) ≤ length s - at
      stop at number place e = rw (fields-stop s at e) (omega arith)

      more : (at : ℕ) (f : Field) (next : ℕ) → shape_at s at ≡ gives f next → 14 * length (trades_in metal i (fields_at s next)) ≤ length s - next → 14 * length (trades_in metal i (fields_at s at)) ≤ length s - at
      more at f next e h = rw (fields-gave s at e) (simp length-append (omega (arith, trade-bytes at f next e, (shape-grows s at e).1)))

  -- so that an accepted sheet, which has 1,048,576 bytes at most, has at most 74,898 of them
  pub accepted-total : (day : Day) → judge_sheet s ≡ accepts day → Small 74898 (total_of metal i (fields_of s))
  unfolding total_of
  accepted-total day h = sums-small (trades_in metal i (fields_of s)) 74898 (trades-range metal i (fields_of s) (accepted-sound s day h)) (omega (arith, trades-bytes 0, accepted-small s day h))

-- ---- an instrument's place among the totals

-- what stands at a place of a list by numbers
pub numbered : {A : Type 0} (f : ℕ → A) (first n k : ℕ) (d : A) → k < n → get_or (map f (numbers first n)) k d ≡ f (first + k)
numbered f first zero k d h = absurd (omega arith)
numbered f first (suc n) zero d h = ap f (omega arith)
numbered f first (suc n) (suc k) d h = numbered f (suc first) n k d (omega arith) ∙ ap f (omega arith)

module _ (metal : ℕ) (fs : List Field) where
  pub totals-length : length (totals_of metal fs) ≡ 12
  unfolding totals_of
  totals-length = refl

  pub totals-at : (i : ℕ) → i < 12 → get_or (totals_of metal fs) i none ≡ total_of metal i fs
  unfolding totals_of
  totals-at i h = numbered (λ i. total_of metal i fs) 0 12 i none h ∙ ap (λ (k : ℕ). total_of metal k fs) (omega arith)

-- the totals of no fields are zeros
pub totals-none : (metal : ℕ) → totals_of metal [] ≡ no_trades
unfolding totals_of total_of trades_in lots_in value_in
totals-none metal = refl

pub totals-small : (metal : ℕ) (fs : List Field) (n : ℕ) → Each (Sound alone) fs → length fs ≤ n → AllSmall n (totals_of metal fs)
totals-small metal fs n h l i = by_place (dec_lt i 12)
  where
    by_place : Dec (i < 12) → Small n (get_or (totals_of metal fs) i none)
    by_place (yes k) = rw (totals-at metal fs i k) (total-small metal i fs n h l)
    by_place (no k) = rw (get_or-eq_default (totals_of metal fs) none {n = i} (omega (arith, totals-length metal fs))) (record { lots = omega arith; value = omega arith })

-- ---- a result is one

same-traded : {d e : Day} {ts us : List Total} → d ≡ e → ts ≡ us → ◌≡◌ {A = Traded} (record { day = d; totals = ts }) (record { day = e; totals = us })
same-traded e f = cc

-- the result that has this judgement and these totals
abbrev traded_of : Verdict → List Total → Result Traded Refusal
traded_of (accepts day) ts = Ok (record { day = day; totals = ts })
traded_of (refuses-at number at) ts = Err (record { fault = fault_of number; at = at })

traded-back : (r : Result Traded Refusal) → traded_of (judged_by r) (totals_in r) ≡ r
traded-back (Ok traded) = refl
traded-back (Err refusal) = simp fault_back

pub told-once : {s : List ℕ} {x y : Result Traded Refusal} → Told s x → Told s y → x ≡ y
told-once {s} {x} {y} p q =
    sym (traded-back x) ∙ ap₂ traded_of (once p.judged q.judged) (once p.totals q.totals) ∙ traded-back y
