-- The pass over an accepted sheet that keeps twelve lines: its fields rise as the spans ask, and the places of the code are answered from what a
-- field does to one line, by `sheet`'s pass by instruments.
--     accepted-rising      the fields of an accepted sheet rise
--     priced_of, Priced     a field as the pass reads it: what it is, or of no instrument
--     Passing, pass-..     the loop over the sheet's fields
--     Summing, sum-..      the loop over the twelve lines
--     accepted-cover, accepted-by-spans     the spans of an accepted sheet
-- Assumes nothing.
use Rattle.std.specs.Prelude.{ℕ, zero, suc, ◌+◌, ◌≤◌, ◌<◌, ◌≡◌, Bool, cond, List, [], ◌∷◌, eqb, length, get_or, set, ℤ, Option, Some, None}
use Rattle.std.proofs.Math.Path.{refl, sym, subst⁻¹}
use Rattle.std.proofs.Common.{ap, subst, ◌∙◌, arith, length-set, get_or-set_same, get_or-set_other, Fits}
use Rattle.std.proofs.Math.Bool.{true, false}
use Rattle.std.proofs.Math.Decide.{dec_lt}
use borrow.Author.Tests.{eqb-true, ne_eqb}
use Rattle.std.proofs.lemmas.List.{get_or-replicate}
use Rattle.std.specs.Int.{w64}
use Rattle.field.specs.declared.Form.{Form}
use Rattle.field.specs.declared.Field.{Field}
use Rattle.field.specs.declared.Field.TheVariants.{Header, PreviousClose, Trade, Quote, End}
use Rattle.field.specs.Layout.{tag_of, size_of, header_of, previous_of, trade_of, quote_of, end_of, long_header_of, field_of}
use Rattle.field.specs.Reading.{body_at}
use Rattle.field.specs.laws.Field.{clash, Headed}
use Rattle.admit.specs.laws.Admitting.{time_from, Later}
use Rattle.market.specs.declared.Metal.{Metal}
use Rattle.market.specs.Market.{metal_of, start_of, window_length}
use Rattle.market.specs.laws.Rows.{start_in, start-in}
use Rattle.market.specs.laws.Rules.{start-early}
use Rattle.sheet.specs.Fields.{fields_of, Each}
use Rattle.sheet.specs.laws.Accepted.{Without, Closes, accepted-rises, accepted-header, accepted-closes, accepted-small, accepted-sound}
use Rattle.sheet.specs.laws.Accepted as times
use Rattle.sheet.specs.laws.ByInstrument.{Filled, accepted-filled, Here, here-headed, here-inside, here-is, Kept, kept-none, kept-one, pass-first, pass-last, pass-sounds, pass-here, pass-right, pass-next}
use Rattle.sheet.specs.laws.ByInstrument as pass
use Rattle.indicator.specs.Indicator.{cents_at, twap_sum}
use Rattle.indicator.specs.Spans.{spans_of, products_of}
use Rattle.indicator.specs.laws.Indicator.{Rising}
use Rattle.indicator.proofs.Spans.{Covers, spans-cover, by-spans}
use Rattle.twap.specs.declared.Stamp.{Stamp}
use Rattle.twap.specs.declared.Line.{Line}
use Rattle.twap.specs.Span.{Accepted, span_says, span_of, Sums}
use Rattle.twap.specs.laws.Lines.{stamp_of, stamp-on, instrument_in, instrument_of, line_with, new_line, new_lines, line_from, line_of, line_step, line_sum, line-goes, step_other, step-own, line-is, Fair, fair-line}

-- ---- the fields of an accepted sheet rise

-- records alone, behind the previous closes
records-rise : (t : ℕ) (fs : List Field) → times.Rising t fs → Each Later fs → Without 2 fs → Rising t fs
unfolding time_from tag_of
records-rise t [] r h p = tt
records-rise t (Header metal marks form ∷ fs) r h p = absurd h.0
records-rise t (PreviousClose instrument price ∷ fs) r h p = absurd (p.0 refl)
records-rise t (Trade time instrument price lots ∷ fs) r h p = (r.0, records-rise time fs r.1 h.1 p.1)
records-rise t (Quote time instrument sides bid offer ∷ fs) r h p = (r.0, records-rise time fs r.1 h.1 p.1)
records-rise t (End count ∷ fs) r h p = records-rise t fs r.1 h.1 p.1

-- previous closes, then records
closes-rise : (least : ℕ) (fs : List Field) → times.Rising 0 fs → Each Later fs → Closes least fs → Rising 0 fs
unfolding time_from tag_of
closes-rise least [] r h p = tt
closes-rise least (Header metal marks form ∷ fs) r h p = absurd h.0
closes-rise least (PreviousClose instrument price ∷ fs) r h p = (refl, closes-rise (instrument + 1) fs r.1 h.1 p.1)
closes-rise least (Trade time instrument price lots ∷ fs) r h p = (r.0, records-rise time fs r.1 h.1 p)
closes-rise least (Quote time instrument sides bid offer ∷ fs) r h p = (r.0, records-rise time fs r.1 h.1 p)
closes-rise least (End count ∷ fs) r h p = records-rise 0 fs r.1 h.1 p

-- a header, then those
header-rises : (metal marks : ℕ) (form : Form) (fs : List Field) → times.Rising 0 (Header metal marks form ∷ fs) → Each Later fs → Closes 0 (Header metal marks form ∷ fs) → Rising 0 (Header metal marks form ∷ fs)
unfolding time_from
header-rises metal marks form fs r h p = (refl, closes-rise 0 fs r.1 h p)

pub accepted-rising : (s : List ℕ) → Accepted s → Rising 0 (fields_of s)
accepted-rising s a =
    let h = accepted-header s a.day a.judged in
    let r = subst (times.Rising 0) h.is (accepted-rises s a.day a.judged) in
    let p = subst (Closes 0) h.is (accepted-closes s a.day a.judged) in
    subst⁻¹ (Rising 0) h.is (header-rises a.day.metal a.day.marks a.day.form h.rest r h.only p)

-- ---- the loop over the sheet's fields

-- at a place of the sheet: the lines are those of the fields before it, and fields stand from there to the end
abbrev pub Passing : ℕ → List ℕ → ℕ → List Line → Type 0
Passing metal s at ls = pass.Passing (line_of metal) (new_line 0) s at ls

-- before any field
new-at : (metal i : ℕ) → i < 12 → get_or (new_lines (metal_of metal)) i (new_line 0) ≡ line_of metal i []
unfolding line_of line_from start_of
new-at metal zero h = refl
new-at metal (suc i) h = get_or-replicate 11 i (new_line (metal_of metal).spread) (new_line 0) (omega arith) ∙ sym (rw (ne_eqb (suc i) 0 (λ e. omega arith)) refl)

-- ---- the field as the pass reads it

-- a trade, a quote or a previous close, by its tag; none for any other, of which nothing is kept
unfoldable pub priced_of : ℕ → List ℕ → Option Field
priced_of tag b = cond (eqb tag 3) (Some (trade_of b)) (cond (eqb tag 4) (Some (quote_of b)) (cond (eqb tag 2) (Some (previous_of b)) None))

-- its stamp; none where it is none
abbrev pub stamp_in : Option Field → Option Stamp
stamp_in None = None
stamp_in (Some f) = stamp_of f

-- it is the field that stands there, or none, and that is of no instrument
pub data Priced (f : Option Field) (g : Field) : Type 0 where
  same : f ≡ Some g → Priced f g
  none : f ≡ None → instrument_of g ≡ 12 → Priced f g

module _ (tag : ℕ) (b : List ℕ) where
  field-by : (t : ℕ) → tag ≡ t → field_of t b ≡ field_of tag b
  field-by t e = ap (λ (x : ℕ). field_of x b) (sym e)

  -- a header or an end
  other_none : (x y : Bool) → instrument_of (cond x (header_of b) (cond y (end_of b) (long_header_of b))) ≡ 12
  other_none true y = refl
  other_none false true = refl
  other_none false false = refl

  tag-other : eqb tag 2 ≡ false → eqb tag 3 ≡ false → eqb tag 4 ≡ false → instrument_of (field_of tag b) ≡ 12
  unfolding field_of
  tag-other e f g = rw (e, f, g) (other_none (eqb tag 1) (eqb tag 5))

  by_two : (x : Bool) → eqb tag 2 ≡ x → eqb tag 3 ≡ false → eqb tag 4 ≡ false → Priced (cond x (Some (previous_of b)) None) (field_of tag b)
  unfolding field_of
  by_two true e f g = same (ap Some (field-by 2 (eqb-true tag 2 e)))
  by_two false e f g = none refl (tag-other e f g)

  by-four : (x : Bool) → eqb tag 4 ≡ x → eqb tag 3 ≡ false → Priced (cond x (Some (quote_of b)) (cond (eqb tag 2) (Some (previous_of b)) None)) (field_of tag b)
  unfolding field_of
  by-four true e f = same (ap Some (field-by 4 (eqb-true tag 4 e)))
  by-four false e f = by_two (eqb tag 2) refl f e

  by_three : (x : Bool) → eqb tag 3 ≡ x → Priced (cond x (Some (trade_of b)) (cond (eqb tag 4) (Some (quote_of b)) (cond (eqb tag 2) (Some (previous_of b)) None))) (field_of tag b)
  unfolding field_of
  by_three true e = same (ap Some (field-by 3 (eqb-true tag 3 e)))
  by_three false e = by-four (eqb tag 4) refl e

  priced : Priced (priced_of tag b) (field_of tag b)
  unfolding priced_of
  priced = by_three (eqb tag 3) refl

  -- as the code tests the tag
  pub priced-three : tag ≡ 3 → Some (trade_of b) ≡ priced_of tag b
  unfolding priced_of
  priced-three e = rw e refl

  pub priced-four : tag ≡ 4 → Some (quote_of b) ≡ priced_of tag b
  unfolding priced_of
  priced-four e = rw e refl

  pub priced-two : tag ≡ 2 → Some (previous_of b) ≡ priced_of tag b
  unfolding priced_of
  priced-two e = rw e refl

  pub priced-none : (tag ≡ 3 → ⊥) → (tag ≡ 4 → ⊥) → (tag ≡ 2 → ⊥) → None ≡ priced_of tag b
  unfolding priced_of
  priced-none e f g = sym (rw (ne_eqb tag 3 e, ne_eqb tag 4 f, ne_eqb tag 2 g) refl)

pub pass-start : (metal : ℕ) (s : List ℕ) {ls : List Line} {row : Metal} → Filled s → row ≡ metal_of metal → ls ≡ new_lines row → Passing metal s 0 ls
pass-start metal s f w e = rw (e, w) (pass-first (line_of metal) (new_line 0) s f (record { long = refl; each = new-at metal }))

-- an instrument's window starts early enough for its end to be a time
pub start_small : (metal i : ℕ) {row : Metal} {x : ℕ} → row ≡ metal_of metal → x ≡ start_in row i → x ≤ 60900000
start_small metal i w e = rw (e, w, start-in metal i) (start-early metal i)

module _ (metal : ℕ) (s : List ℕ) (at : ℕ) (ls : List Line) (o : Passing metal s at ls) where
  pub pass-done : length s ≤ at → Kept (line_of metal) (new_line 0) (fields_of s) ls
  pass-done l = pass-last (line_of metal) (new_line 0) s at ls o l

  -- each line is within its sizes
  pub pass-fair : (i : ℕ) {row : Metal} {x : ℕ} → Filled s → i < 12 → row ≡ metal_of metal → x ≡ start_in row i → Fair x (get_or ls i (new_line 0))
  pass-fair i f h w e = rw (e, w, start-in metal i, o.kept.each i h) (fair-line metal i o.before (pass-sounds (line_of metal) (new_line 0) s at ls o f))

  module _ (l : at < length s) {tag : ℕ} (k : tag ≡ get_or s at 0) where
    abbrev place : Here s at
    place = pass-here (line_of metal) (new_line 0) s at ls o l

    pub pass-headed : Headed s at tag
    pass-headed = here-headed s at place k

    pub pass-inside : {n : ℕ} → n ≡ size_of tag → at + n ≤ length s
    pass-inside e = here-inside s at place k e

    pub pass_fits : {n : ℕ} → n ≡ size_of tag → length s ≤ 1048576 → Fits w64 (at + n)
    pass_fits e h = record { fits = omega (arith, pass-inside e) }

    module _ {f : Option Field} (d : f ≡ priced_of tag (body_at s at tag)) where
      is : Priced f place.field
      is = rw (d, here-is s at place k) (priced tag (body_at s at tag))

      -- a field that is read is the one that stands there
      read : {g : Field} → f ≡ Some g → Priced f place.field → g ≡ place.field
      read h (same p) = cc
      read h (none p q) = clash cc

      module _ {g : Field} (h : f ≡ Some g) where
        pub pass-on : {x : Stamp} → Filled s → stamp_of g ≡ Some x → x.instrument < 12
        pass-on filled m = stamp-on g m (rw (read h is) (pass-right (line_of metal) (new_line 0) s at ls o l filled))

        module _ {x : Stamp} (m : stamp_of g ≡ Some x) {n : ℕ} (e : n ≡ size_of tag) where
          -- behind a field of an instrument
          own-by : {row : Metal} {start : ℕ} {y : Line} → x.instrument < 12 → row ≡ metal_of metal → start ≡ start_in row x.instrument → y ≡ line_with x.instrument start (get_or ls x.instrument (new_line 0)) g → Priced f place.field → Passing metal s (at + n) (set ls x.instrument y)
          own-by {start = start} on w b c p =
              let j = x.instrument in
              let of : instrument_of place.field ≡ j = ap instrument_of (sym (read h p)) ∙ ap instrument_in m in
              let from : start ≡ start_of metal j = b ∙ ap (λ (r : Metal). start_in r j) w ∙ start-in metal j in
              pass-next (line_of metal) (new_line 0) s at ls o l k e
              (kept-one (line_of metal) (new_line 0) (line_step metal) (line-goes metal) o.kept place.field j on
              (λ i m y q. step_other metal i y place.field m (λ r. q (sym of ∙ r)))
              (c ∙ rw (from, read h p) (sym (step-own metal j (get_or ls j (new_line 0)) place.field on of))))

          pub pass-own : {row : Metal} {start : ℕ} {y : Line} → x.instrument < 12 → row ≡ metal_of metal → start ≡ start_in row x.instrument → y ≡ line_with x.instrument start (get_or ls x.instrument (new_line 0)) g → Passing metal s (at + n) (set ls x.instrument y)
          pass-own on w b c = own-by on w b c is

      -- behind a field of none
      module _ {x : Option Stamp} (g : x ≡ stamp_in f) {n : ℕ} (e : n ≡ size_of tag) where
        above : 12 ≤ instrument_in x → Priced f place.field → 12 ≤ instrument_of place.field
        above h (same p) = omega (arith, h, ap instrument_in (g ∙ ap stamp_in p))
        above h (none p q) = omega (arith, q)

        pub pass-none : 12 ≤ instrument_in x → Passing metal s (at + n) ls
        pass-none h =
            pass-next (line_of metal) (new_line 0) s at ls o l k e
            (kept-none (line_of metal) (new_line 0) (line_step metal) (line-goes metal) o.kept place.field
            (λ i m y. step_other metal i y place.field m (λ p. omega (arith, above h is, p))))

      pub pass-unstamped : {g : Field} {x : Option Stamp} {n : ℕ} → f ≡ Some g → x ≡ stamp_of g → x ≡ None → n ≡ size_of tag → Passing metal s (at + n) ls
      pass-unstamped {x = x} h y m e = pass-none {x = x} (y ∙ sym (ap stamp_in h)) e (omega (arith, ap instrument_in m))

      pub pass-unread : {n : ℕ} → f ≡ None → n ≡ size_of tag → Passing metal s (at + n) ls
      pass-unread h e = pass-none {x = None} (sym (ap stamp_in h)) e (omega arith)

-- ---- the loop over the lines

-- the first k sums are told
pub record Summing (metal : ℕ) (fs : List Field) (r : List (Option ℤ)) (k : ℕ) : Type 0 where
  pub long : length r ≡ 12
  pub each : (i : ℕ) → i < k → span_says (get_or r i None) ≡ span_of i (start_of metal i) fs

-- what the pass asks of the sheet
pub lines-ready : (s : List ℕ) → Accepted s → Filled s × (length s ≤ 1048576)
lines-ready s a = (accepted-filled s a.day a.judged, accepted-small s a.day a.judged)

pub sum-start : (metal : ℕ) (fs : List Field) (r : List (Option ℤ)) → length r ≡ 12 → Summing metal fs r 0
sum-start metal fs r e = record { long = e; each = λ i h. absurd (omega arith) }

pub sum_done : (metal : ℕ) (fs : List Field) (r : List (Option ℤ)) (k : ℕ) → Summing metal fs r k → 12 ≤ k → Sums metal fs r
sum_done metal fs r k o l = record { long = o.long; each = λ i h. o.each i (omega arith) }

module _ (metal : ℕ) (s : List ℕ) (a : Accepted s) (ls : List Line) (kept : Kept (line_of metal) (new_line 0) (fields_of s) ls) (k : ℕ) (h : k < 12) {row : Metal} {x : ℕ} (w : row ≡ metal_of metal) (e : x ≡ start_in row k) where
  -- the line's start is the instrument's
  starts : x ≡ start_of metal k
  starts = e ∙ ap (λ (r : Metal). start_in r k) w ∙ start-in metal k

  pub sum-fair : Fair x (get_or ls k (new_line 0))
  sum-fair = rw (starts, kept.each k h) (fair-line metal k (fields_of s) (accepted-sound s a.day a.judged))

  -- one more
  pub sum-next : (r : List (Option ℤ)) → Summing metal (fields_of s) r k → (v : Option ℤ) → span_says v ≡ line_sum x (get_or ls k (new_line 0)) → Summing metal (fields_of s) (set r k v) (k + 1)
  sum-next r o v g = record { long = length-set r k v ∙ o.long; each = λ i l. by_place i l (dec_lt i k) }
    where
      told : span_says v ≡ span_of k (start_of metal k) (fields_of s)
      told = g ∙ rw (starts, kept.each k h) (line-is metal k (fields_of s) (accepted-rising s a))

      by_place : (i : ℕ) → i < k + 1 → Dec (i < k) → span_says (get_or (set r k v) i None) ≡ span_of i (start_of metal i) (fields_of s)
      by_place i l (yes m) = ap span_says (get_or-set_other r k i v None (λ p. omega arith)) ∙ o.each i m
      by_place i l (no m) = let same : i ≡ k = omega arith in rw same (ap span_says (get_or-set_same r k v None (omega (arith, o.long))) ∙ told)

-- ---- an accepted sheet's spans

module _ (s : List ℕ) (a : Accepted s) (i start : ℕ) where
  -- they follow one another without gap, begin at the window's start, end at its end, and each has the indicator of all its milliseconds
  pub accepted-cover : Covers (cents_at i (fields_of s)) start (start + window_length) (spans_of i start (fields_of s))
  accepted-cover = spans-cover i start (fields_of s) (accepted-rising s a)

  -- price times length over them is the sum over the window's milliseconds
  pub accepted-by-spans : products_of (spans_of i start (fields_of s)) ≡ twap_sum i start (fields_of s)
  accepted-by-spans = by-spans i start (fields_of s) (accepted-rising s a)
