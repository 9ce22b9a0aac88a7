-- Laws of the spans.
--     Meets, meets      how a field meets the open span: of another instrument, in time for it, behind the window, or ending it
--     spans-..          the spans that are left, by that
--     Covers            spans that follow one another without gap, each with the right price at each of its milliseconds
--     spans-cover       a window's spans do, from its start to its end
--     by-spans          price times length over them is the sum over the window's milliseconds
-- Assumes nothing.
use Rattle.std.specs.Prelude.{ℕ, ◌+◌, ◌-◌, ◌≤◌, ◌<◌, ◌≡◌, Bool, true, false, cond, leb, ℤ, ◌+ℤ◌}
use Rattle.std.proofs.Math.Path.{refl, subst⁻¹}
use Rattle.std.proofs.Common.{sym, ap, ap₂, ◌∙◌, le_refl, le_trans, arith}
use mathlib.Core.List.{List, [], ◌∷◌}
use Rattle.std.proofs.Math.Decide.{dec_lt}
use borrow.Author.Tests.{le-leb, lt-leb}
use Rattle.field.specs.declared.Field.{Field}
use Rattle.field.specs.declared.Field.TheVariants.{Header, PreviousClose, Trade, Quote, End}
use Rattle.market.specs.Market.{window_length}
use Rattle.market.specs.laws.Rows.{window-length}
use Rattle.indicator.specs.declared.Indicator.{Indicator}
use Rattle.indicator.specs.Indicator.{cents_of, empty, value_of, taken, stamp, after_from, after, cents_at, sum_from, twap_sum}
use Rattle.indicator.specs.Spans.{PricedSpan, standing, is_of, spans_from, spans_of, products_of}
use Rattle.indicator.specs.laws.Sums.{sum-none, sum-append, sum-const}
use Rattle.indicator.specs.laws.Indicator.{Rising}
use Rattle.indicator.proofs.State.{rest-rises, stamp-rises, due, late}

-- ---- how a field meets the open span

pub data Meets (i until since : ℕ) (f : Field) : Type 0 where
  other : is_of i f ≡ false → Meets i until since f
  early : is_of i f ≡ true → stamp f ≤ since → Meets i until since f
  behind : is_of i f ≡ true → since < stamp f → until ≤ stamp f → Meets i until since f
  cut : is_of i f ≡ true → since < stamp f → stamp f < until → Meets i until since f

module _ (i until since : ℕ) (f : Field) where
  by_end : is_of i f ≡ true → since < stamp f → Dec (stamp f < until) → Meets i until since f
  by_end e l (yes h) = cut e l h
  by_end e l (no h) = behind e l (omega arith)

  by-time : is_of i f ≡ true → Dec (since < stamp f) → Meets i until since f
  by-time e (yes l) = by_end e l (dec_lt (stamp f) until)
  by-time e (no l) = early e (omega arith)

  by-own : (b : Bool) → is_of i f ≡ b → Meets i until since f
  by-own true e = by-time e (dec_lt since (stamp f))
  by-own false e = other e

  pub meets : Meets i until since f
  meets = by-own (is_of i f) refl

  -- the spans that are left behind it
  module _ (s : Indicator) (fs : List Field) where
    pub spans-other : is_of i f ≡ false → spans_from i until since s (f ∷ fs) ≡ spans_from i until since s fs
    unfolding spans_from
    spans-other e = rw e refl

    pub spans-early : is_of i f ≡ true → stamp f ≤ since → spans_from i until since s (f ∷ fs) ≡ spans_from i until since (taken i s f) fs
    unfolding spans_from
    spans-early e l = rw (e, le-leb (stamp f) since l) refl

    pub spans-behind : is_of i f ≡ true → since < stamp f → until ≤ stamp f → spans_from i until since s (f ∷ fs) ≡ standing s since until ∷ []
    unfolding spans_from
    spans-behind e l h = rw (e, lt-leb (stamp f) since l, le-leb until (stamp f) h) refl

    pub spans-cut : is_of i f ≡ true → since < stamp f → stamp f < until → spans_from i until since s (f ∷ fs) ≡ standing s since (stamp f) ∷ spans_from i until (stamp f) (taken i s f) fs
    unfolding spans_from
    spans-cut e l h = rw (e, lt-leb (stamp f) since l, lt-leb until (stamp f) h) refl

-- a field of another instrument changes nothing, whenever it counts
pub taken-other : (i : ℕ) (s : Indicator) (f : Field) → is_of i f ≡ false → taken i s f ≡ s
unfolding taken
taken-other i s (Header metal marks form) e = refl
taken-other i s (PreviousClose instrument price) e = rw e refl
taken-other i s (Trade time instrument price lots) e = rw e refl
taken-other i s (Quote time instrument sides bid offer) e = rw e refl
taken-other i s (End count) e = refl

after-other : (i t : ℕ) (s : Indicator) (f : Field) (fs : List Field) → is_of i f ≡ false → after_from i t s (f ∷ fs) ≡ after_from i t s fs
unfolding after_from
after-other i t s f fs e = ap (λ (x : Indicator). after_from i t x fs) (rw (taken-other i s f e) (either (leb (stamp f) t)))
  where
    either : (b : Bool) → cond b s s ≡ s
    either true = refl
    either false = refl

-- ---- spans that follow one another

-- the span begins at a millisecond, has one or more, and its price is the term at each of them
pub record Right (term : ℕ → ℤ) (from : ℕ) (x : PricedSpan) : Type 0 where
  pub begins : x.from ≡ from
  pub some : x.from < x.to
  pub price : (t : ℕ) → x.from ≤ t → t < x.to → term t ≡ x.price

-- each begins where the one before it ends, from a millisecond to another
abbrev pub Covers : (ℕ → ℤ) → ℕ → ℕ → List PricedSpan → Type 0
Covers term from until [] = from ≡ until
Covers term from until (x ∷ xs) = Right term from x × Covers term x.to until xs

covers-order : (term : ℕ → ℤ) (from until : ℕ) (xs : List PricedSpan) → Covers term from until xs → from ≤ until
covers-order term from until [] h = omega (arith, h)
covers-order term from until (x ∷ xs) h = omega (arith, h.0.begins, h.0.some, covers-order term x.to until xs h.1)

-- price times length over them is the sum over the milliseconds
pub covers-sum : (term : ℕ → ℤ) (from until : ℕ) (xs : List PricedSpan) → Covers term from until xs → products_of xs ≡ sum_from term from (until - from)
unfolding products_of
covers-sum term from until [] h =
    let none : until - from ≡ 0 = omega (arith, h) in
    sym (ap (sum_from term from) none ∙ sum-none term from)
covers-sum term from until (x ∷ xs) h =
    let l = covers-order term x.to until xs h.1 in
    let split : until - from ≡ (x.to - x.from) + (until - x.to) = omega (arith, h.0.begins, h.0.some) in
    let next : x.from + (x.to - x.from) ≡ x.to = omega (arith, h.0.some) in
    let first = sum-const term x.from (x.to - x.from) x.price (λ t a b. h.0.price t a (omega (arith, next))) in
    let rest = covers-sum term x.to until xs h.1 ∙ ap (λ (t : ℕ). sum_from term t (until - x.to)) (sym next) in
    ap₂ ◌+ℤ◌ (sym first) rest
    ∙ sym (sum-append term x.from (x.to - x.from) (until - x.to))
    ∙ ap₂ (sum_from term) h.0.begins (sym split)

-- ---- a window's spans

-- what is left of the fields says the state from `since` on
abbrev Left : ℕ → ℕ → List Field → ℕ → Indicator → List Field → Type 0
Left i until all since s fs = (t : ℕ) → since ≤ t → t < until → after i t all ≡ after_from i t s fs

module _ (i until : ℕ) (all : List Field) where
  -- up to a millisecond behind which all that is left comes, the state is s
  right : (since to : ℕ) (s : Indicator) (fs : List Field) → Left i until all since s fs → since < to → to ≤ until → ((t : ℕ) → t < to → after_from i t s fs ≡ s) → Right (cents_at i all) since (standing s since to)
  right since to s fs h l k same = record {
    begins = refl;
    some = l;
    price = λ t a b. ap (λ (x : Indicator). cents_of (value_of x)) (h t a (omega arith) ∙ same t b);
  }

  -- from any millisecond and state on the spans of these fields cover what is left of the window
  abbrev AllCover : List Field → Type 0
  AllCover fs = (since : ℕ) (s : Indicator) → since < until → Left i until all since s fs → Covers (cents_at i all) since until (spans_from i until since s fs)

  module _ (f : Field) (fs : List Field) (r : Rising 0 (f ∷ fs)) (next : AllCover fs) (since : ℕ) (s : Indicator) (l : since < until) (h : Left i until all since s (f ∷ fs)) where
    -- before the field counts, the state stays
    before : (t : ℕ) → t < stamp f → after_from i t s (f ∷ fs) ≡ s
    before t b = late i t (stamp f) s (f ∷ fs) b (stamp-rises f fs r)

    one_more : Meets i until since f → Covers (cents_at i all) since until (spans_from i until since s (f ∷ fs))
    one_more (other e) = subst⁻¹ (Covers (cents_at i all) since until) (spans-other i until since f s fs e) (next since s l (λ t a b. h t a b ∙ after-other i t s f fs e))
    one_more (early e k) = subst⁻¹ (Covers (cents_at i all) since until) (spans-early i until since f s fs e k) (next since (taken i s f) l (λ t a b. h t a b ∙ due i t s f fs (le_trans k a)))
    one_more (behind e k g) =
        subst⁻¹ (Covers (cents_at i all) since until) (spans-behind i until since f s fs e k g) (right since until s (f ∷ fs) h l (le_refl until) (λ t b. before t (omega arith)), refl)
    one_more (cut e k g) =
        subst⁻¹ (Covers (cents_at i all) since until) (spans-cut i until since f s fs e k g)
        (right since (stamp f) s (f ∷ fs) h k (omega arith) before, next (stamp f) (taken i s f) g (λ t a b. h t (omega arith) b ∙ due i t s f fs a))

  covering : (fs : List Field) → Rising 0 fs → AllCover fs
  unfolding spans_from after_from
  covering [] r since s l h = (right since until s [] h l (le_refl until) (λ t b. refl), refl)
  covering (f ∷ fs) r since s l h = one_more f fs r (covering fs (rest-rises f fs r)) since s l h (meets i until since f)

module _ (i start : ℕ) (fs : List Field) (r : Rising 0 fs) where
  -- they follow one another without gap, begin at the window's start and end at its end
  pub spans-cover : Covers (cents_at i fs) start (start + window_length) (spans_of i start fs)
  spans-cover = covering i (start + window_length) fs fs r start empty (omega (arith, window-length)) (λ t a b. refl)

  pub by-spans : products_of (spans_of i start fs) ≡ twap_sum i start fs
  by-spans =
      let all : (start + window_length) - start ≡ window_length = omega arith in
      covers-sum (cents_at i fs) start (start + window_length) (spans_of i start fs) spans-cover ∙ ap (sum_from (cents_at i fs) start) all
