-- An instrument's line as the code keeps it, field by field, and that it comes to the sum over the window.
--     line_with, line_of      a line with a field more, and behind all fields;  line-goes    one field more at the end
--     line-products         its total with the last span is price times length over the instrument's spans
--     line-told             it is told of a reference as 13's words have it
--     line-is               what it comes to is the sum over the window's milliseconds, or missing
--     Fair, fair-line       the sizes that keep every total within 64 bits
-- Assumes nothing.
use Rattle.std.specs.Prelude.{ℕ, ◌+◌, ◌-◌, ◌*◌, ◌≤◌, ◌<◌, ◌≡◌, Bool, leb, eqb, ℤ, pos, nat_abs, ◌+ℤ◌, ◌*ℤ◌, replicate, max, min, Option, Some, None}
use Rattle.std.proofs.Common.{zero-le, sym, ◌∙◌, le_refl, arith}
use Rattle.std.proofs.Math.Path.{refl, ap}
use Rattle.std.proofs.Math.Bool.{true, false, cond}
use mathlib.Core.List.{List, [], ◌∷◌, ◌++◌}
use Rattle.std.proofs.Math.Nat.{mul-le-mul}
use Rattle.std.proofs.Math.Decide.{dec_lt}
use borrow.Author.Tests.{le-leb, lt-leb, ne_eqb, eq-eqb}
use Rattle.std.proofs.Math.IntN.{+ℤ_idl, +ℤ_idr, +ℤ_assoc, zero-*ℤ, *ℤ-zero}
use Rattle.cents.specs.laws.Whole.{size-+, size-*}
use Rattle.field.specs.declared.Price.{Price}
use Rattle.field.specs.declared.Field.{Field}
use Rattle.field.specs.declared.Field.TheVariants.{Header, PreviousClose, Trade, Quote, End}
use Rattle.field.specs.laws.Field.{clash}
use Rattle.field.specs.Judging.{alone}
use Rattle.field.proofs.Sound.{Sound}
use Rattle.market.specs.declared.Metal.{Metal}
use Rattle.market.specs.Market.{start_of, window_length}
use Rattle.market.specs.laws.Rows.{window-length}
use Rattle.sheet.specs.Fields.{Each}
use Rattle.indicator.specs.declared.Indicator.{Indicator}
use Rattle.indicator.specs.Indicator.{cents_of, empty, value_of, taken, stamp}
use Rattle.indicator.specs.Spans.{PricedSpan, is_of, spans_from, spans_of, products_of}
use Rattle.indicator.specs.laws.Indicator.{Rising, told_by}
use Rattle.indicator.proofs.Spans.{Meets, other, early, behind, cut, meets, spans-other, spans-early, spans-behind, spans-cut, by-spans}
use Rattle.twap.specs.declared.Stamp.{Stamp}
use Rattle.twap.specs.declared.Line.{Line}
use Rattle.twap.specs.Span.{Span, missing, sum, span_of}
use Rattle.twap.specs.laws.Span.{span-told}
use Rattle.twap.specs.laws.Sizes.{SmallState, small-empty, small-taken, small-value}

-- ---- what a field does to a line

-- the instrument that a field is of, the millisecond from which it counts, and whether it gives a reference then; none of a header and an end
abbrev pub stamp_of : Field → Option Stamp
stamp_of (Header metal marks form) = None
stamp_of (PreviousClose instrument price) = Some (record { instrument = instrument; time = 0; refers = true })
stamp_of (Trade time instrument price lots) = Some (record { instrument = instrument; time = time; refers = true })
stamp_of (Quote time instrument sides bid offer) = Some (record { instrument = instrument; time = time; refers = false })
stamp_of (End count) = None

-- its instrument; 12, which is none, where it has no stamp
abbrev pub instrument_in : Option Stamp → ℕ
instrument_in None = 12
instrument_in (Some x) = x.instrument

abbrev pub instrument_of : Field → ℕ
instrument_of f = instrument_in (stamp_of f)

-- the millisecond from which it counts; 0 where it has no stamp
abbrev pub time_in : Option Stamp → ℕ
time_in None = 0
time_in (Some x) = x.time

pub stamp-is : (f : Field) → time_in (stamp_of f) ≡ stamp f
stamp-is (Header metal marks form) = refl
stamp-is (PreviousClose instrument price) = refl
stamp-is (Trade time instrument price lots) = refl
stamp-is (Quote time instrument sides bid offer) = refl
stamp-is (End count) = refl

-- a field in its ranges is on an instrument of the twelve, where it is on one
pub stamp-on : (f : Field) {x : Stamp} → stamp_of f ≡ Some x → Sound alone f → x.instrument < 12
stamp-on (Header metal marks form) e h = clash cc
stamp-on (PreviousClose instrument price) e h = omega (arith, h.0.in_table, ap instrument_in e)
stamp-on (Trade time instrument price lots) e h = omega (arith, h.stamp.on.in_table, ap instrument_in e)
stamp-on (Quote time instrument sides bid offer) e h = omega (arith, h.stamp.on.in_table, ap instrument_in e)
stamp-on (End count) e h = clash cc

-- a previous close gives a reference, and so does a trade by the start
abbrev pub tells : ℕ → Stamp → Bool
tells start x = cond x.refers (leb x.time start) false

-- so does a field with such a stamp
abbrev pub field_tells : ℕ → Option Stamp → Bool
field_tells start None = false
field_tells start (Some x) = tells start x

-- where the open span ends for a record of a time: not before it began, and not behind the window
unfoldable pub cut_at : ℕ → ℕ → ℕ → ℕ
cut_at since until time = cond (leb time since) since (cond (leb until time) until time)

-- a total with a span more
abbrev pub with_span : ℤ → Option Price → ℕ → ℤ
with_span total side n = total +ℤ pos n *ℤ cents_of side

-- a side that is absent counts 0
pub nothing-absent : (total : ℤ) (n : ℕ) → total ≡ with_span total None n
nothing-absent total n = sym (ap (λ (z : ℤ). total +ℤ z) (*ℤ-zero (pos n)) ∙ +ℤ_idr total)

-- the line with a field of its instrument, whose window starts at start
unfoldable pub line_with : ℕ → ℕ → Line → Field → Line
line_with i start l f =
    let to = cut_at l.since (start + window_length) (stamp f) in
    record {
      state = taken i l.state f;
      told = cond l.told true (field_tells start (stamp_of f));
      since = to;
      total = with_span l.total (value_of l.state) (to - l.since);
    }

-- with any field
unfoldable pub line_after : ℕ → ℕ → Line → Field → Line
line_after i start l f = cond (is_of i f) (line_with i start l f) l

-- with the fields of a list
unfoldable pub line_from : ℕ → ℕ → Line → List Field → Line
line_from i start l [] = l
line_from i start l (f ∷ fs) = line_from i start (line_after i start l f) fs

-- before any field; and of a sheet's fields
abbrev pub new_line : ℕ → Line
new_line start = record { state = empty; told = false; since = start; total = pos 0 }

abbrev pub new_lines : Metal → List Line
new_lines row = new_line row.anchor ∷ replicate 11 (new_line row.spread)

unfoldable pub line_of : ℕ → ℕ → List Field → Line
line_of metal i fs = line_from i (start_of metal i) (new_line (start_of metal i)) fs

-- the cents of the total with the last span, up to the window's end
abbrev closing : ℕ → Line → ℤ
closing start l = with_span l.total (value_of l.state) (start + window_length - l.since)

-- what a line comes to
unfoldable pub line_sum : ℕ → Line → Span
line_sum start l = cond l.told (sum (closing start l)) missing

-- ---- one field more

module _ (i start : ℕ) where
  from-append : (l : Line) (fs : List Field) (f : Field) → line_from i start l (fs ++ (f ∷ [])) ≡ line_after i start (line_from i start l fs) f
  unfolding line_from
  from-append l [] f = refl
  from-append l (g ∷ fs) f = from-append (line_after i start l g) fs f

-- a sheet's line with a field more
abbrev pub line_step : ℕ → ℕ → Line → Field → Line
line_step metal i l f = line_after i (start_of metal i) l f

pub line-goes : (metal i : ℕ) (fs : List Field) (f : Field) → line_of metal i (fs ++ (f ∷ [])) ≡ line_step metal i (line_of metal i fs) f
unfolding line_of
line-goes metal i fs f = from-append i (start_of metal i) (new_line (start_of metal i)) fs f

-- a field is of an instrument where its number says so
is-of : (i : ℕ) (f : Field) → i < 12 → is_of i f ≡ eqb (instrument_of f) i
is-of i (Header metal marks form) h = sym (ne_eqb 12 i (λ e. omega arith))
is-of i (PreviousClose instrument price) h = refl
is-of i (Trade time instrument price lots) h = refl
is-of i (Quote time instrument sides bid offer) h = refl
is-of i (End count) h = sym (ne_eqb 12 i (λ e. omega arith))

pub step_other : (metal i : ℕ) (l : Line) (f : Field) → i < 12 → (instrument_of f ≡ i → ⊥) → line_step metal i l f ≡ l
unfolding line_after
step_other metal i l f h k = rw (is-of i f h, ne_eqb (instrument_of f) i k) refl

pub step-own : (metal i : ℕ) (l : Line) (f : Field) → i < 12 → instrument_of f ≡ i → line_step metal i l f ≡ line_with i (start_of metal i) l f
unfolding line_after
step-own metal i l f h e = rw (is-of i f h, eq-eqb (instrument_of f) i e) refl

-- ---- the total is price times length of span

module _ (since until time : ℕ) where
  pub cut-early : time ≤ since → cut_at since until time ≡ since
  unfolding cut_at
  cut-early h = rw (le-leb time since h) refl

  pub cut-behind : since < time → until ≤ time → cut_at since until time ≡ until
  unfolding cut_at
  cut-behind h k = rw (lt-leb time since h, le-leb until time k) refl

  pub cut_inside : since < time → time < until → cut_at since until time ≡ time
  unfolding cut_at
  cut_inside h k = rw (lt-leb time since h, lt-leb until time k) refl

-- as the code cuts it, where the span begins by the window's end
pub cut-clamp : (since until time : ℕ) → since ≤ until → max since (min time until) ≡ cut_at since until time
cut-clamp since until time h = by-time (dec_lt since time)
  where
    by_end : since < time → Dec (time < until) → max since (min time until) ≡ cut_at since until time
    by_end k (yes l) = let same : max since (min time until) ≡ time = omega arith in same ∙ sym (cut_inside since until time k l)
    by_end k (no l) = let same : max since (min time until) ≡ until = omega arith in same ∙ sym (cut-behind since until time k (omega arith))

    by-time : Dec (since < time) → max since (min time until) ≡ cut_at since until time
    by-time (yes k) = by_end k (dec_lt time until)
    by-time (no k) = let same : max since (min time until) ≡ since = omega arith in same ∙ sym (cut-early since until time (omega arith))

-- no milliseconds add nothing
add_nothing : (z v : ℤ) (n : ℕ) → n ≡ 0 → z +ℤ pos n *ℤ v ≡ z
add_nothing z v n e = rw e (ap (λ (x : ℤ). z +ℤ x) (zero-*ℤ v) ∙ +ℤ_idr z)

-- the line with a field of its instrument, whose span ends at `to`
abbrev moved : ℕ → ℕ → Line → Field → ℕ → Line
moved i start l f to = record {
  state = taken i l.state f;
  told = cond l.told true (field_tells start (stamp_of f));
  since = to;
  total = with_span l.total (value_of l.state) (to - l.since);
}

module _ (i start : ℕ) where
  -- the window's end
  abbrev until : ℕ
  until = start + window_length

  after-other : (l : Line) (f : Field) → is_of i f ≡ false → line_after i start l f ≡ l
  unfolding line_after
  after-other l f e = rw e refl

  after-own : (l : Line) (f : Field) {to : ℕ} → is_of i f ≡ true → cut_at l.since until (stamp f) ≡ to → line_after i start l f ≡ moved i start l f to
  unfolding line_after line_with
  after-own l f e c = rw (e, c) refl

  -- a span that ended with the window stays so, and adds nothing
  to_end : (l : Line) (f : Field) → l.since ≡ until → Dec (l.since < stamp f) → cut_at l.since until (stamp f) ≡ until
  to_end l f e (yes h) = cut-behind l.since until (stamp f) h (omega (arith, e))
  to_end l f e (no h) = cut-early l.since until (stamp f) (omega arith) ∙ e

  ended_by : (l : Line) (f : Field) (fs : List Field) → l.since ≡ until → ((x : Line) → x.since ≡ until → closing start (line_from i start x fs) ≡ x.total)
      → (b : Bool) → is_of i f ≡ b → closing start (line_from i start (line_after i start l f) fs) ≡ l.total
  ended_by l f fs e next true d =
      ap (λ (x : Line). closing start (line_from i start x fs)) (after-own l f d (to_end l f e (dec_lt l.since (stamp f))))
      ∙ next (moved i start l f until) refl
      ∙ add_nothing l.total (cents_of (value_of l.state)) (until - l.since) (omega (arith, e))
  ended_by l f fs e next false d = ap (λ (x : Line). closing start (line_from i start x fs)) (after-other l f d) ∙ next l e

  ended : (fs : List Field) (l : Line) → l.since ≡ until → closing start (line_from i start l fs) ≡ l.total
  unfolding line_from
  ended [] l e = add_nothing l.total (cents_of (value_of l.state)) (until - l.since) (omega (arith, e))
  ended (f ∷ fs) l e = ended_by l f fs e (ended fs) (is_of i f) refl

  -- what a line comes to is its total, and price times length over the spans that are left
  abbrev Comes : List Field → Type 0
  Comes fs = (l : Line) → l.since ≤ until → closing start (line_from i start l fs) ≡ l.total +ℤ products_of (spans_from i until l.since l.state fs)

  module _ (f : Field) (fs : List Field) (next : Comes fs) (l : Line) (h : l.since ≤ until) where
    -- the total before, and the indicator
    abbrev z : ℤ
    z = l.total

    abbrev v : ℤ
    v = cents_of (value_of l.state)

    goes : {x : Line} → line_after i start l f ≡ x → closing start (line_from i start (line_after i start l f) fs) ≡ closing start (line_from i start x fs)
    goes e = ap (λ (x : Line). closing start (line_from i start x fs)) e

    from-spans : {xs : List PricedSpan} → spans_from i until l.since l.state (f ∷ fs) ≡ xs → z +ℤ products_of xs ≡ z +ℤ products_of (spans_from i until l.since l.state (f ∷ fs))
    from-spans e = sym (ap (λ (xs : List PricedSpan). z +ℤ products_of xs) e)

    one_more : Meets i until l.since f → closing start (line_from i start (line_after i start l f) fs) ≡ z +ℤ products_of (spans_from i until l.since l.state (f ∷ fs))
    unfolding products_of
    one_more (other e) = goes (after-other l f e) ∙ next l h ∙ from-spans (spans-other i until l.since f l.state fs e)
    one_more (early e k) =
        goes (after-own l f e (cut-early l.since until (stamp f) k))
        ∙ next (moved i start l f l.since) h
        ∙ ap (λ (x : ℤ). x +ℤ products_of (spans_from i until l.since (taken i l.state f) fs)) (add_nothing z v (l.since - l.since) (omega arith))
        ∙ from-spans (spans-early i until l.since f l.state fs e k)
    one_more (behind e k g) =
        goes (after-own l f e (cut-behind l.since until (stamp f) k g))
        ∙ ended fs (moved i start l f until) refl
        ∙ ap (λ (x : ℤ). z +ℤ x) (sym (+ℤ_idr (pos (until - l.since) *ℤ v)))
        ∙ from-spans (spans-behind i until l.since f l.state fs e k g)
    one_more (cut e k g) =
        goes (after-own l f e (cut_inside l.since until (stamp f) k g))
        ∙ next (moved i start l f (stamp f)) (omega arith)
        ∙ +ℤ_assoc z (pos (stamp f - l.since) *ℤ v) (products_of (spans_from i until (stamp f) (taken i l.state f) fs))
        ∙ from-spans (spans-cut i until l.since f l.state fs e k g)

  line-products : (fs : List Field) → Comes fs
  unfolding line_from spans_from products_of
  line-products [] l h = ap (λ (z : ℤ). l.total +ℤ z) (sym (+ℤ_idr (pos (until - l.since) *ℤ cents_of (value_of l.state))))
  line-products (f ∷ fs) l h = one_more f fs (line-products fs) l h (meets i until l.since f)

  -- ---- the reference

  or-false : (a : Bool) → a ≡ cond a true false
  or-false true = refl
  or-false false = refl

  or-or : (a b c : Bool) → cond (cond a true b) true c ≡ cond a true (cond b true c)
  or-or true b c = refl
  or-or false b c = refl

  -- a field of the instrument, or of another
  told-by : (b : Bool) (l : Line) (f : Field) (fs : List Field) → ((x : Line) → (line_from i start x fs).told ≡ cond x.told true (told_by i start fs))
      → (line_from i start (cond b (line_with i start l f) l) fs).told ≡ cond l.told true (cond b (cond (field_tells start (stamp_of f)) true (told_by i start fs)) (told_by i start fs))
  unfolding line_with
  told-by true l f fs next = next (line_with i start l f) ∙ or-or l.told (field_tells start (stamp_of f)) (told_by i start fs)
  told-by false l f fs next = next l

  either : (b : Bool) (a c : Bool) → cond a true (cond b c c) ≡ cond a true c
  either true a c = refl
  either false a c = refl

  line-told : (fs : List Field) (l : Line) → (line_from i start l fs).told ≡ cond l.told true (told_by i start fs)
  unfolding line_from line_after told_by
  line-told [] l = or-false l.told
  line-told (Header metal marks form ∷ fs) l = line-told fs l
  line-told (PreviousClose instrument price ∷ fs) l =
      told-by (eqb instrument i) l (PreviousClose instrument price) fs (line-told fs) ∙ ap (λ (b : Bool). cond l.told true (cond (eqb instrument i) (cond b true (told_by i start fs)) (told_by i start fs))) (le-leb 0 start zero-le)
  line-told (Trade time instrument price lots ∷ fs) l = told-by (eqb instrument i) l (Trade time instrument price lots) fs (line-told fs)
  line-told (Quote time instrument sides bid offer ∷ fs) l = told-by (eqb instrument i) l (Quote time instrument sides bid offer) fs (line-told fs) ∙ either (eqb instrument i) l.told (told_by i start fs)
  line-told (End count ∷ fs) l = line-told fs l

-- ---- what a line comes to

pub line-is : (metal i : ℕ) (fs : List Field) → Rising 0 fs → line_sum (start_of metal i) (line_of metal i fs) ≡ span_of i (start_of metal i) fs
unfolding line_sum line_of
line-is metal i fs r =
    let start = start_of metal i in
    let total = line-products i start fs (new_line start) (omega arith) ∙ +ℤ_idl (products_of (spans_of i start fs)) ∙ by-spans i start fs r in
    rw (line-told i start fs (new_line start)) (ap (λ (x : ℤ). cond (told_by i start fs) (sum x) missing) total) ∙ sym (span-told i start fs)

-- ---- sizes

-- the open span begins within the window, and every millisecond before it added at most 99,999,999
pub record Fair (start : ℕ) (l : Line) : Type 0 where
  pub small : SmallState l.state
  pub from : start ≤ l.since
  pub to : l.since ≤ start + 300000
  pub size : nat_abs l.total ≤ (l.since - start) * 99999999

pub fair-new : (start : ℕ) → Fair start (new_line start)
fair-new start = record { small = small-empty; from = le_refl start; to = omega arith; size = omega arith }

-- a span ends neither before it began nor behind the window
pub record Inside (since until to : ℕ) : Type 0 where
  pub from : since ≤ to
  pub most : to ≤ until

pub cut-between : (since until time : ℕ) → since ≤ until → Inside since until (cut_at since until time)
cut-between since until time h = by-time (dec_lt since time)
  where
    by_end : since < time → Dec (time < until) → Inside since until (cut_at since until time)
    by_end k (yes l) = rw (cut_inside since until time k l) (record { from = omega arith; most = omega arith })
    by_end k (no l) = rw (cut-behind since until time k (omega arith)) (record { from = h; most = le_refl until })

    by-time : Dec (since < time) → Inside since until (cut_at since until time)
    by-time (yes k) = by_end k (dec_lt time until)
    by-time (no k) = rw (cut-early since until time (omega arith)) (record { from = le_refl since; most = h })

module _ (i start : ℕ) where
  pub fair-with : (l : Line) (f : Field) → Fair start l → Sound alone f → Fair start (line_with i start l f)
  unfolding line_with
  fair-with l f o s =
      let to = cut_at l.since (start + window_length) (stamp f) in
      let v = cents_of (value_of l.state) in
      let c = cut-between l.since (start + window_length) (stamp f) (omega (arith, o.to, window-length)) in
      record {
        small = small-taken i l.state f o.small s;
        from = omega (arith, o.from, c.from);
        to = omega (arith, c.most, window-length);
        size = omega (arith, o.size, o.from, c.from, size-+ l.total (pos (to - l.since) *ℤ v), size-* (pos (to - l.since)) v, mul-le-mul (le_refl (to - l.since)) (small-value l.state o.small));
      }

  fair-after : (l : Line) (f : Field) → Fair start l → Sound alone f → Fair start (line_after i start l f)
  unfolding line_after
  fair-after l f o s = by-own (is_of i f)
    where
      by-own : (b : Bool) → Fair start (cond b (line_with i start l f) l)
      by-own true = fair-with l f o s
      by-own false = o

  fair-from : (l : Line) (fs : List Field) → Fair start l → Each (Sound alone) fs → Fair start (line_from i start l fs)
  unfolding line_from
  fair-from l [] o s = o
  fair-from l (f ∷ fs) o s = fair-from (line_after i start l f) fs (fair-after l f o s.0) s.1

pub fair-line : (metal i : ℕ) (fs : List Field) → Each (Sound alone) fs → Fair (start_of metal i) (line_of metal i fs)
unfolding line_of
fair-line metal i fs s = fair-from i (start_of metal i) (new_line (start_of metal i)) fs (fair-new (start_of metal i)) s

-- ---- at the places of the code

module _ (start : ℕ) (l : Line) (o : Fair start l) where
  -- the total is far from the limits of its type
  pub fair-total : nat_abs l.total ≤ 29999999700000
  fair-total = omega (arith, o.size, o.from, o.to)

  -- where the span is cut
  pub fair-cut : (time : ℕ) {to : ℕ} → to ≡ cut_at l.since (start + 300000) time → Inside l.since (start + 300000) to
  fair-cut time e = rw e (cut-between l.since (start + 300000) time o.to)

-- a reference told before, and one that the field tells or doesn't
pub told-before : {a : Bool} (b : Bool) → a ≡ true → a ≡ cond a true b
told-before b e = rw e refl

pub told-now : {a b x : Bool} → a ≡ false → x ≡ b → x ≡ cond a true b
told-now e f = rw (e, f) refl

-- the line as the code puts it together
pub line-built : (i start : ℕ) (l : Line) (f : Field) {next : Indicator} {x : Option Stamp} {to : ℕ} {v : Option Price} {total : ℤ} {told : Bool} → x ≡ stamp_of f → next ≡ taken i l.state f → to ≡ cut_at l.since (start + 300000) (time_in x)
    → v ≡ value_of l.state → total ≡ with_span l.total v (to - l.since) → told ≡ cond l.told true (field_tells start x) → ◌≡◌ {A = Line} (record { state = next; told = told; since = to; total = total }) (line_with i start l f)
unfolding line_with
line-built i start l f e d c g h k = rw (d, k, h, g, c, e, stamp-is f, window-length) refl

-- what it comes to, as the code tells it
pub sum_told : (start : ℕ) (l : Line) {v : Option Price} {total : ℤ} → l.told ≡ true → v ≡ value_of l.state → total ≡ with_span l.total v (start + 300000 - l.since) → sum total ≡ line_sum start l
unfolding line_sum
sum_told start l e g h = rw (e, h, g, window-length) refl

pub sum-missing : (start : ℕ) (l : Line) → l.told ≡ false → missing ≡ line_sum start l
unfolding line_sum
sum-missing start l e = rw e refl
