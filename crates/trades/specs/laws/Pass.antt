-- The pass over the fields as the code makes it: twelve totals, of which a trade that counts changes its instrument's. What that does to one total
-- stands here, and the pass itself is `sheet`'s pass by instruments.
-- Assumes nothing.
use Rattle.std.specs.Prelude.{ℕ, ◌+◌, ◌≤◌, ◌<◌, ◌≡◌, Bool, true, false, cond, List, [], ◌∷◌, ◌++◌, eqb, ℤ, pos, ◌+ℤ◌, ◌*ℤ◌, length, get_or, set, Option, Some, None, Result, Ok, Err}
use Rattle.std.proofs.Math.Path.{refl, sym, ap}
use Rattle.std.proofs.Common.{subst, ◌∙◌, append-nil, arith, eqb-true, ext_get_or, Fits}
use Rattle.std.proofs.lemmas.Bool.{eqb-false}
use Rattle.std.proofs.Math.IntN.{+ℤ_idr}
use Rattle.std.specs.Int.{w64}
use Rattle.field.specs.declared.Price.{Price}
use Rattle.field.specs.declared.Field.{Field}
use Rattle.field.specs.declared.Refusal.{Refusal}
use Rattle.field.specs.declared.Field.TheVariants.{Header, PreviousClose, Trade, Quote, End}
use Rattle.field.specs.Layout.{size_of, trade_of, field_of}
use Rattle.field.specs.Reading.{body_at}
use Rattle.field.specs.laws.Field.{clash, Headed}
use Rattle.field.specs.Judging.{alone}
use Rattle.field.proofs.Sound.{Sound}
use Rattle.market.specs.declared.Metal.{Metal}
use Rattle.market.specs.Market.{metal_of, start_of, in_window}
use Rattle.market.specs.laws.Rows.{start_in}
use Rattle.sheet.specs.declared.Day.{Day}
use Rattle.sheet.specs.Fields.{fields_of}
use Rattle.sheet.specs.Judgement.{accepts, judge_sheet, judged_says}
use Rattle.sheet.specs.laws.Accepted.{accepted-small}
use Rattle.sheet.specs.laws.ByInstrument.{Filled, accepted-filled, Here, here-headed, here-inside, here-is, size-three, Kept, kept-none, kept-one, pass-first, pass-last, pass-sounds, pass-few, pass-here, pass-right, pass-next}
use Rattle.sheet.specs.laws.ByInstrument as pass
use Rattle.trades.specs.declared.Total.{Total}
use Rattle.trades.specs.declared.Counted.{Counted}
use Rattle.trades.specs.Trades.{Deal, trade_in, trades_in, lots_in, value_in, sums_of, total_of, totals_of, none, no_trades, totals_by, Told}
use Rattle.trades.specs.laws.Trades.{Small, same_total, join, join-none, total-append, trade-other, trade-outside, trade-inside, tag-three, totals-length, totals-at, totals-none, totals-small}

-- a total with one trade more
abbrev pub with_trade : Total → Price → ℕ → Total
with_trade t price lots = record { lots = t.lots + lots; value = t.value +ℤ pos lots *ℤ price.cents }

-- a trade that counts
abbrev pub trade_that : ℕ → Price → ℕ → Counted
trade_that instrument price lots = record { instrument = instrument; price = price; lots = lots }

-- a trade counts inside its instrument's window, and no other field does
unfoldable pub counted_of : ℕ → Field → Option Counted
counted_of metal (Header m marks form) = None
counted_of metal (PreviousClose instrument price) = None
counted_of metal (Trade time instrument price lots) = cond (in_window (start_of metal instrument) time) (Some (trade_that instrument price lots)) None
counted_of metal (Quote time instrument sides bid offer) = None
counted_of metal (End count) = None

-- the same by the row of the metal, which the code has looked up
unfoldable pub counted_in : Metal → Field → Option Counted
counted_in row (Header m marks form) = None
counted_in row (PreviousClose instrument price) = None
counted_in row (Trade time instrument price lots) = cond (in_window (start_in row instrument) time) (Some (trade_that instrument price lots)) None
counted_in row (Quote time instrument sides bid offer) = None
counted_in row (End count) = None

counted-row : (metal : ℕ) (f : Field) → counted_in (metal_of metal) f ≡ counted_of metal f
unfolding counted_in counted_of start_in start_of
counted-row metal (Header m marks form) = refl
counted-row metal (PreviousClose instrument price) = refl
counted-row metal (Trade time instrument price lots) = refl
counted-row metal (Quote time instrument sides bid offer) = refl
counted-row metal (End count) = refl

-- ---- a total with a field more

abbrev in_total : ℕ → ℕ → Total → Field → Total
in_total metal i t f = join t (sums_of (trade_in metal i f))

total-goes : (metal i : ℕ) (fs : List Field) (f : Field) → total_of metal i (fs ++ (f ∷ [])) ≡ in_total metal i (total_of metal i fs) f
unfolding total_of trades_in
total-goes metal i fs f = total-append metal i fs (f ∷ []) ∙ ap (λ (ds : List Deal). join (total_of metal i fs) (sums_of ds)) (append-nil (trade_in metal i f))

module _ (metal i : ℕ) (t : Total) (f : Field) where
  -- one that is no trade that counts, and one that is
  total-same : trade_in metal i f ≡ [] → in_total metal i t f ≡ t
  unfolding lots_in value_in
  total-same e = rw e (join-none t)

  total-more : (price : Price) (lots : ℕ) → trade_in metal i f ≡ record { price = price.cents; lots = lots } ∷ [] → in_total metal i t f ≡ with_trade t price lots
  unfolding lots_in value_in
  total-more price lots e = rw e (same_total (omega arith) (ap (λ (z : ℤ). t.value +ℤ z) (+ℤ_idr (pos lots *ℤ price.cents))))

-- what counts as nothing changes no total
counted_none : (metal : ℕ) (f : Field) → counted_of metal f ≡ None → (i : ℕ) → trade_in metal i f ≡ []
unfolding counted_of trade_in
counted_none metal (Header m marks form) e i = refl
counted_none metal (PreviousClose instrument price) e i = refl
counted_none metal (Trade time instrument price lots) e i = by-own (eqb instrument i) refl
  where
    outside : (b : Bool) → in_window (start_of metal instrument) time ≡ b → cond b (Some (trade_that instrument price lots)) None ≡ None → in_window (start_of metal instrument) time ≡ false
    outside true w d = clash cc
    outside false w d = w

    by-own : (b : Bool) → eqb instrument i ≡ b → trade_in metal i (Trade time instrument price lots) ≡ []
    by-own true d = trade-outside metal i time instrument price lots (sym (ap (λ (j : ℕ). in_window (start_of metal j) time) (eqb-true instrument i d)) ∙ outside (in_window (start_of metal instrument) time) refl e)
    by-own false d = trade-other metal i time instrument price lots (eqb-false instrument i d)
counted_none metal (Quote time instrument sides bid offer) e i = refl
counted_none metal (End count) e i = refl

-- a trade that counts is one of its instrument, and of no other
record Counts (metal j : ℕ) (price : Price) (lots : ℕ) (f : Field) : Type 0 where
  own : trade_in metal j f ≡ record { price = price.cents; lots = lots } ∷ []
  other : (i : ℕ) → (j ≡ i → ⊥) → trade_in metal i f ≡ []

counted-one : (metal : ℕ) (f : Field) (trade : Counted) → counted_of metal f ≡ Some trade → Counts metal trade.instrument trade.price trade.lots f
unfolding counted_of
counted-one metal (Header m marks form) trade e = clash cc
counted-one metal (PreviousClose instrument p) trade e = clash cc
counted-one metal (Trade time instrument p n) trade e = by-window (in_window (start_of metal instrument) time) refl e
  where
    by-window : (b : Bool) → in_window (start_of metal instrument) time ≡ b → cond b (Some (trade_that instrument p n)) None ≡ Some trade → Counts metal trade.instrument trade.price trade.lots (Trade time instrument p n)
    by-window true w d =
        let whole : trade_that instrument p n ≡ trade = cc in
        rw (sym whole) (record {
          own = trade-inside metal instrument time instrument p n refl w;
          other = λ i k. trade-other metal i time instrument p n k;
        })
    by-window false w d = clash cc
counted-one metal (Quote time instrument sides bid offer) trade e = clash cc
counted-one metal (End count) trade e = clash cc

-- ---- at the places of the code

-- a trade inside the window and outside it, as the code tests it
module _ (row : Metal) {f : Field} {time instrument : ℕ} {price : Price} {lots : ℕ} (d : f ≡ Trade time instrument price lots) {start : ℕ} {b : Bool} (e : start ≡ start_in row instrument) (w : b ≡ in_window start time) where
  tested : in_window (start_in row instrument) time ≡ b
  tested = ap (λ (s : ℕ). in_window s time) (sym e) ∙ sym w

  pub counted-in : b ≡ true → Some (trade_that instrument price lots) ≡ counted_in row f
  unfolding counted_in
  counted-in h = sym (rw (d, tested, h) refl)

  pub counted-out : b ≡ false → None ≡ counted_in row f
  unfolding counted_in
  counted-out h = sym (rw (d, tested, h) refl)

-- a field that is no trade
pub counted-by : (row : Metal) {f g : Field} → f ≡ g → counted_in row g ≡ counted_in row f
counted-by row e = sym (ap (counted_in row) e)

-- a trade that counts is on an instrument, where the field's values are in their ranges
on-by : (row : Metal) (f : Field) (trade : Counted) → counted_in row f ≡ Some trade → Sound alone f → trade.instrument < 12
unfolding counted_in
on-by row (Header m marks form) trade e h = clash cc
on-by row (PreviousClose i p) trade e h = clash cc
on-by row (Trade time i p l) trade e h = by-test (in_window (start_in row i) time) e
  where
    by-test : (b : Bool) → cond b (Some (trade_that i p l)) None ≡ Some trade → trade.instrument < 12
    by-test true g =
        let whole : trade_that i p l ≡ trade = cc in
        let same : i ≡ trade.instrument = ap (λ (t : Counted). t.instrument) whole in
        omega (arith, h.stamp.on.in_table)
    by-test false g = clash cc
on-by row (Quote time i sides bid offer) trade e h = clash cc
on-by row (End count) trade e h = clash cc

pub counted-on : (row : Metal) (f : Field) {r : Option Counted} {trade : Counted} → r ≡ counted_in row f → r ≡ Some trade → Sound alone f → trade.instrument < 12
counted-on row f {r} {trade} e d h = on-by row f trade (sym e ∙ d) h

-- ---- the pass over a sheet that fields fill

-- a list of totals is that of the fields
kept-totals : (metal : ℕ) {fs : List Field} {ts : List Total} → Kept (total_of metal) none fs ts → ts ≡ totals_of metal fs
kept-totals metal {fs} {ts} k =
    ext_get_or none ts (totals_of metal fs) (k.long ∙ sym (totals-length metal fs)) (λ i l. let on : i < 12 = omega (arith, k.long) in k.each i on ∙ sym (totals-at metal fs i on))

totals-kept : (metal : ℕ) (fs : List Field) → Kept (total_of metal) none fs (totals_of metal fs)
totals-kept metal fs = record { long = totals-length metal fs; each = totals-at metal fs }

-- at a place of the sheet: the totals are those of the fields before it, and fields stand from there to the end
abbrev pub Passing : ℕ → List ℕ → ℕ → List Total → Type 0
Passing metal s at ts = pass.Passing (total_of metal) none s at ts

pub pass-start : (metal : ℕ) (s : List ℕ) {ts : List Total} → Filled s → ts ≡ no_trades → Passing metal s 0 ts
pass-start metal s f e = rw e (pass-first (total_of metal) none s f (subst (Kept (total_of metal) none []) (totals-none metal) (totals-kept metal [])))

module _ (metal : ℕ) (s : List ℕ) (at : ℕ) (ts : List Total) (o : Passing metal s at ts) where
  -- behind the last field
  pub pass-done : length s ≤ at → ts ≡ totals_of metal (fields_of s)
  pass-done l = kept-totals metal (pass-last (total_of metal) none s at ts o l)

  pub pass-small : Filled s → length s ≤ 1048576 → (i : ℕ) → Small 1048576 (get_or ts i none)
  pass-small f l i =
      let few = pass-few (total_of metal) none s at ts o in
      rw (kept-totals metal o.kept) (totals-small metal o.before 1048576 (pass-sounds (total_of metal) none s at ts o f) (omega (arith, few)) i)

  module _ (l : at < length s) where
    abbrev place : Here s at
    place = pass-here (total_of metal) none s at ts o l

    module _ {tag : ℕ} (k : tag ≡ get_or s at 0) where
      pub pass-inside : {n : ℕ} → n ≡ size_of tag → at + n ≤ length s
      pass-inside e = here-inside s at place k e

      pub pass_fits : {n : ℕ} → n ≡ size_of tag → length s ≤ 1048576 → Fits w64 (at + n)
      pass_fits e h = record { fits = omega (arith, pass-inside e) }

      pub pass-three : tag ≡ 3 → Headed s at 3
      pass-three h = subst (Headed s at) h (here-headed s at place k)

      -- a trade is the one that the code reads there
      trade-is : {f : Field} → tag ≡ 3 → f ≡ trade_of (body_at s at 3) → place.field ≡ f
      unfolding field_of
      trade-is h e = here-is s at place k ∙ ap (λ (x : ℕ). field_of x (body_at s at x)) h ∙ sym e

      pub pass-sound : {f : Field} → tag ≡ 3 → f ≡ trade_of (body_at s at 3) → Filled s → Sound alone f
      pass-sound h e g = subst (Sound alone) (trade-is h e) (pass-right (total_of metal) none s at ts o l g)

      -- behind a field that counts as nothing
      on_none : {n : ℕ} → n ≡ size_of tag → None ≡ counted_of metal place.field → Passing metal s (at + n) ts
      on_none e c =
          pass-next (total_of metal) none s at ts o l k e
          (kept-none (total_of metal) none (in_total metal) (total-goes metal) o.kept place.field (λ i h t. total-same metal i t place.field (counted_none metal place.field (sym c) i)))

      module _ {f : Field} {c : Option Counted} {row : Metal} (three : tag ≡ 3) (d : f ≡ trade_of (body_at s at 3)) (w : row ≡ metal_of metal) (g : c ≡ counted_in row f) where
        found : c ≡ counted_of metal place.field
        found = g ∙ ap (λ (r : Metal). counted_in r f) w ∙ counted-row metal f ∙ ap (counted_of metal) (sym (trade-is three d))

        pub pass-trade : {trade : Counted} {t : Total} → Filled s → c ≡ Some trade → t ≡ with_trade (get_or ts trade.instrument none) trade.price trade.lots → Passing metal s (at + 14) (set ts trade.instrument t)
        pass-trade {trade} filled h u =
            let on = counted-on row f g h (pass-sound three d filled) in
            let q = counted-one metal place.field trade (sym found ∙ h) in
            pass-next (total_of metal) none s at ts o l k (size-three three)
            (kept-one (total_of metal) none (in_total metal) (total-goes metal) o.kept place.field trade.instrument on
            (λ i h t n. total-same metal i t place.field (q.other i n))
            (u ∙ sym (total-more metal trade.instrument (get_or ts trade.instrument none) place.field trade.price trade.lots q.own)))

        pub pass-nothing : c ≡ None → Passing metal s (at + 14) ts
        pass-nothing h = on_none (size-three three) (sym h ∙ found)

      -- a field under another tag is no trade
      pub pass-other : {n : ℕ} → (tag ≡ 3 → ⊥) → n ≡ size_of tag → Passing metal s (at + n) ts
      unfolding counted_of
      pass-other h e = on_none e (no-trade place.field (here-is s at place k))
        where
          no-trade : (f : Field) → f ≡ field_of tag (body_at s at tag) → None ≡ counted_of metal f
          no-trade (Header m marks form) v = refl
          no-trade (PreviousClose instrument price) v = refl
          no-trade (Trade time instrument price lots) v = absurd (h (tag-three tag _ (sym v)))
          no-trade (Quote time instrument sides bid offer) v = refl
          no-trade (End count) v = refl

-- the judgement: what is known where it accepts, and what is told of the sheet
module _ (s : List ℕ) {j : Result Day Refusal} (e : judged_says j ≡ judge_sheet s) where
  module _ {day : Day} (d : j ≡ Ok day) where
    accepted : judge_sheet s ≡ accepts day
    accepted = sym e ∙ ap judged_says d

    pub known-filled : Filled s
    known-filled = accepted-filled s day accepted

    pub known-short : length s ≤ 1048576
    known-short = accepted-small s day accepted

    pub told-accepted : {ts : List Total} → ts ≡ totals_of day.metal (fields_of s) → Told s (Ok (record { day = day; totals = ts }))
    unfolding totals_by
    told-accepted k = record { judged = sym accepted; totals = rw accepted k }

  pub told-refused : {refusal : Refusal} → j ≡ Err refusal → Told s (Err refusal)
  unfolding totals_by
  told-refused d = let refused = sym e ∙ ap judged_says d in record { judged = sym refused; totals = rw refused refl }
