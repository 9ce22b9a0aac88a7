-- Laws of the state over a list of fields: what a pass over a sheet goes by, and when there is a reference.
--     due, late        a field that counts is taken; fields that all come later change nothing
--     parted           the fields that count at t stand before those that come later, and the state at t is the one after them
--     whole-window     where all fields come by the window's start or behind the window, one indicator throughout
--     reference-told   13's words: a previous close, or a trade of the instrument by then
--     book-latest      the book's words: the latest quote record by then, and empty where there is none
-- Assumes nothing.
use Rattle.std.specs.Prelude.{ℕ, suc, ◌+◌, ◌≤◌, ◌<◌, ◌≡◌, Bool, false, T, leb, eqb, pos, ◌*ℤ◌, Option, Some, None}
use Rattle.std.proofs.Common.{zero-le, sym, subst, ◌∙◌, le_trans, le_refl, arith, le-leb, leb→le, le→leb}
use Rattle.std.proofs.Math.Path.{refl, ap}
use Rattle.std.proofs.Math.Bool.{true, cond}
use mathlib.Core.List.{List, [], ◌∷◌, ◌++◌}
use Rattle.std.proofs.Math.Decide.{dec_lt}
use Rattle.std.proofs.lemmas.Bool.{lt-leb}
use Rattle.field.specs.declared.Price.{Price}
use Rattle.field.specs.declared.Field.{Field}
use Rattle.field.specs.declared.Field.TheVariants.{Header, PreviousClose, Trade, Quote, End}
use Rattle.market.specs.Market.{window_length}
use Rattle.indicator.specs.declared.Indicator.{Indicator}
use Rattle.indicator.specs.Indicator.{empty, present, cents_of, after_trade, after_close, after_quote, else_at, value_of, taken, stamp, after_from, after, cents_at, twap_sum, has_reference}
use Rattle.indicator.specs.laws.Sums.{sum-const}
use Rattle.indicator.specs.laws.Indicator.{Rising, Counted, all_taken, told_by, Latest, none, quoted, later_of, latest_quote, Book, book_of, book_by, Parted}

-- an earlier time before them serves too
pub rising-low : (t u : ℕ) (fs : List Field) → t ≤ u → Rising u fs → Rising t fs
rising-low t u [] l h = tt
rising-low t u (Header metal marks form ∷ fs) l h = (omega (arith, h.0), rising-low t u fs l h.1)
rising-low t u (PreviousClose instrument price ∷ fs) l h = (omega (arith, h.0), rising-low t u fs l h.1)
rising-low t u (Trade time instrument price lots ∷ fs) l h = (le_trans l h.0, h.1)
rising-low t u (Quote time instrument sides bid offer ∷ fs) l h = (le_trans l h.0, h.1)
rising-low t u (End count ∷ fs) l h = rising-low t u fs l h

-- behind a field the rest rises
pub rest-rises : (f : Field) (fs : List Field) → Rising 0 (f ∷ fs) → Rising 0 fs
rest-rises (Header metal marks form) fs r = r.1
rest-rises (PreviousClose instrument price) fs r = r.1
rest-rises (Trade time instrument price lots) fs r = rising-low 0 time fs zero-le r.1
rest-rises (Quote time instrument sides bid offer) fs r = rising-low 0 time fs zero-le r.1
rest-rises (End count) fs r = r

-- from a field on none counts before it
pub stamp-rises : (f : Field) (fs : List Field) → Rising 0 (f ∷ fs) → Rising (stamp f) (f ∷ fs)
stamp-rises (Header metal marks form) fs r = r
stamp-rises (PreviousClose instrument price) fs r = r
stamp-rises (Trade time instrument price lots) fs r = (le_refl time, r.1)
stamp-rises (Quote time instrument sides bid offer) fs r = (le_refl time, r.1)
stamp-rises (End count) fs r = r

module _ (i t : ℕ) where
  -- the fields of one list, then those of another
  pub after-append : (s : Indicator) (fs gs : List Field) → after_from i t s (fs ++ gs) ≡ after_from i t (after_from i t s fs) gs
  unfolding after_from
  after-append s [] gs = refl
  after-append s (f ∷ fs) gs = after-append (cond (leb (stamp f) t) (taken i s f) s) fs gs

  -- a field that counts is taken, and one that comes later isn't
  pub due : (s : Indicator) (f : Field) (fs : List Field) → stamp f ≤ t → after_from i t s (f ∷ fs) ≡ after_from i t (taken i s f) fs
  unfolding after_from
  due s f fs h = ap (λ (b : Bool). after_from i t (cond b (taken i s f) s) fs) (le-leb (stamp f) t h)

  pub not-due : (s : Indicator) (f : Field) (fs : List Field) → t < stamp f → after_from i t s (f ∷ fs) ≡ after_from i t s fs
  unfolding after_from
  not-due s f fs h = ap (λ (b : Bool). after_from i t (cond b (taken i s f) s) fs) (lt-leb (stamp f) t h)

  -- one field more, behind the others
  pub one_more : (fs : List Field) (f : Field) → stamp f ≤ t → after i t (fs ++ (f ∷ [])) ≡ taken i (after i t fs) f
  unfolding after_from
  one_more fs f h = after-append empty fs (f ∷ []) ∙ due (after i t fs) f [] h

  -- fields that all come later change nothing
  pub late : (m : ℕ) (s : Indicator) (fs : List Field) → t < m → Rising m fs → after_from i t s fs ≡ s
  unfolding after_from taken
  late m s [] l h = refl
  late m s (Header metal marks form ∷ fs) l h = absurd (omega (arith, h.0))
  late m s (PreviousClose instrument price ∷ fs) l h = absurd (omega (arith, h.0))
  late m s (Trade time instrument price lots ∷ fs) l h = not-due s (Trade time instrument price lots) fs (omega (arith, h.0)) ∙ late time s fs (omega (arith, h.0)) h.1
  late m s (Quote time instrument sides bid offer ∷ fs) l h = not-due s (Quote time instrument sides bid offer) fs (omega (arith, h.0)) ∙ late time s fs (omega (arith, h.0)) h.1
  late m s (End count ∷ fs) l h = due s (End count) fs (omega arith) ∙ late m s fs l h

-- ---- fields with rising times part at t

first-early : (t : ℕ) (f : Field) (fs : List Field) → stamp f ≤ t → Parted t fs → Parted t (f ∷ fs)
first-early t f fs l p = record {
  early = f ∷ p.early;
  later = p.later;
  whole = ap (λ (gs : List Field). f ∷ gs) p.whole;
  counted = (l, p.counted);
  rising = p.rising;
}

all-later : (t : ℕ) (fs : List Field) → Rising (suc t) fs → Parted t fs
all-later t fs h = record { early = []; later = fs; whole = refl; counted = tt; rising = h }

by-time : (t time : ℕ) (f : Field) (fs : List Field) → stamp f ≡ time → (time ≤ t → Parted t fs) → (t < time → Rising (suc t) (f ∷ fs)) → Dec (t < time) → Parted t (f ∷ fs)
by-time t time f fs e early later (yes l) = all-later t (f ∷ fs) (later l)
by-time t time f fs e early later (no l) = first-early t f fs (omega arith) (early (omega arith))

pub parted : (t u : ℕ) (fs : List Field) → Rising u fs → Parted t fs
parted t u [] h = all-later t [] tt
parted t u (Header metal marks form ∷ fs) h = first-early t (Header metal marks form) fs (omega arith) (parted t u fs h.1)
parted t u (PreviousClose instrument price ∷ fs) h = first-early t (PreviousClose instrument price) fs (omega arith) (parted t u fs h.1)
parted t u (Trade time instrument price lots ∷ fs) h = by-time t time (Trade time instrument price lots) fs refl (λ l. parted t time fs h.1) (λ l. (l, h.1)) (dec_lt t time)
parted t u (Quote time instrument sides bid offer ∷ fs) h = by-time t time (Quote time instrument sides bid offer) fs refl (λ l. parted t time fs h.1) (λ l. (l, h.1)) (dec_lt t time)
parted t u (End count ∷ fs) h = first-early t (End count) fs (omega arith) (parted t u fs h)

counted-all : (i t : ℕ) (s : Indicator) (fs : List Field) → Counted t fs → after_from i t s fs ≡ all_taken i s fs
unfolding all_taken after_from
counted-all i t s [] h = refl
counted-all i t s (f ∷ fs) h = due i t s f fs h.0 ∙ counted-all i t (taken i s f) fs h.1

-- the state at t is the one after the fields of the first part, in sheet order
pub parted-state : (i t : ℕ) (fs : List Field) (p : Parted t fs) → after i t fs ≡ all_taken i empty p.early
parted-state i t fs p =
    ap (after i t) p.whole
    ∙ after-append i t empty p.early p.later
    ∙ late i t (suc t) (after i t p.early) p.later (le_refl (suc t)) p.rising
    ∙ counted-all i t empty p.early p.counted

-- what counts at t counts later
counted-later : (t u : ℕ) (fs : List Field) → t ≤ u → Counted t fs → Counted u fs
counted-later t u [] l h = tt
counted-later t u (f ∷ fs) l h = (le_trans h.0 l, counted-later t u fs l h.1)

-- fields that count from the window's start on, and fields that come behind the window
pub whole-window : (i start : ℕ) (early later : List Field) → Counted start early → Rising (start + window_length) later
    → twap_sum i start (early ++ later) ≡ pos window_length *ℤ cents_of (value_of (all_taken i empty early))
whole-window i start early later c r =
    sum-const (cents_at i (early ++ later)) start window_length (cents_of (value_of (all_taken i empty early))) (λ t l h.
    ap (λ (s : Indicator). cents_of (value_of s))
    (after-append i t empty early later ∙ late i t (start + window_length) (after i t early) later h r ∙ counted-all i t empty early (counted-later start t early l c)))

-- ---- the reference

or-false : (b : Bool) → b ≡ cond b true false
or-false true = refl
or-false false = refl

close-told : (mine rest : Bool) (s : Indicator) (price : Price) → cond (present (cond mine (after_close s price) s).reference) true rest ≡ cond (present s.reference) true (cond mine true rest)
close-told false rest s price = refl
close-told true rest s price = by_side s.reference
  where
    by_side : (r : Option Price) → cond (present (else_at r price)) true rest ≡ cond (present r) true true
    by_side None = refl
    by_side (Some p) = refl

trade-told : (counts mine rest : Bool) (s : Indicator) (price : Price) → cond (present (cond counts (cond mine (after_trade s price) s) s).reference) true rest ≡ cond (present s.reference) true (cond mine (cond counts true rest) rest)
trade-told true true rest s price = by-test (present s.reference)
  where
    by-test : (b : Bool) → true ≡ cond b true true
    by-test true = refl
    by-test false = refl
trade-told true false rest s price = refl
trade-told false true rest s price = refl
trade-told false false rest s price = refl

quote-told : (counts mine : Bool) (s : Indicator) (sides : ℕ) (bid offer : Price) → (cond counts (cond mine (after_quote s sides bid offer) s) s).reference ≡ s.reference
quote-told false mine s sides bid offer = refl
quote-told true false s sides bid offer = refl
quote-told true true s sides bid offer = refl

module _ (i t : ℕ) where
  reference-from : (s : Indicator) (fs : List Field) → present (after_from i t s fs).reference ≡ cond (present s.reference) true (told_by i t fs)
  unfolding after_from taken told_by
  reference-from s [] = or-false (present s.reference)
  reference-from s (Header metal marks form ∷ fs) = ap (λ (x : Indicator). present x.reference) (due i t s (Header metal marks form) fs (omega arith)) ∙ reference-from s fs
  reference-from s (PreviousClose instrument price ∷ fs) =
      ap (λ (x : Indicator). present x.reference) (due i t s (PreviousClose instrument price) fs (omega arith))
      ∙ reference-from (cond (eqb instrument i) (after_close s price) s) fs
      ∙ close-told (eqb instrument i) (told_by i t fs) s price
  reference-from s (Trade time instrument price lots ∷ fs) =
      reference-from (cond (leb time t) (cond (eqb instrument i) (after_trade s price) s) s) fs
      ∙ trade-told (leb time t) (eqb instrument i) (told_by i t fs) s price
  reference-from s (Quote time instrument sides bid offer ∷ fs) =
      reference-from (cond (leb time t) (cond (eqb instrument i) (after_quote s sides bid offer) s) s) fs
      ∙ ap (λ (x : Option Price). cond (present x) true (told_by i t fs)) (quote-told (leb time t) (eqb instrument i) s sides bid offer)
  reference-from s (End count ∷ fs) = ap (λ (x : Indicator). present x.reference) (due i t s (End count) fs (omega arith)) ∙ reference-from s fs

  -- there is a reference exactly where there was a previous close, or a trade by then
  pub reference-told : (fs : List Field) → present (after i t fs).reference ≡ told_by i t fs
  reference-told fs = reference-from empty fs

pick-mono : (which a b c d : Bool) → (T a → T c) → (T b → T d) → T (cond which a b) → T (cond which c d)
pick-mono true a b c d f g h = f h
pick-mono false a b c d f g h = g h

or_mono : (a b c d : Bool) → (T a → T c) → (T b → T d) → T (cond a true b) → T (cond c true d)
or_mono a b true d f g h = tt
or_mono true b false d f g h = absurd (f tt)
or_mono false b false d f g h = g h

told-later : (i t u : ℕ) (fs : List Field) → t ≤ u → T (told_by i t fs) → T (told_by i u fs)
unfolding told_by
told-later i t u [] l h = h
told-later i t u (Header metal marks form ∷ fs) l h = told-later i t u fs l h
told-later i t u (PreviousClose instrument price ∷ fs) l h = pick-mono (eqb instrument i) true (told_by i t fs) true (told_by i u fs) (λ x. x) (told-later i t u fs l) h
told-later i t u (Trade time instrument price lots ∷ fs) l h =
    pick-mono (eqb instrument i) (cond (leb time t) true (told_by i t fs)) (told_by i t fs) (cond (leb time u) true (told_by i u fs)) (told_by i u fs)
    (or_mono (leb time t) (told_by i t fs) (leb time u) (told_by i u fs) (λ x. le→leb time u (le_trans (leb→le time t x) l)) (told-later i t u fs l))
    (told-later i t u fs l) h
told-later i t u (Quote time instrument sides bid offer ∷ fs) l h = told-later i t u fs l h
told-later i t u (End count ∷ fs) l h = told-later i t u fs l h

-- a reference at the window's first millisecond is there at each later one
pub reference-stays : (i start t : ℕ) (fs : List Field) → start ≤ t → T (has_reference i start fs) → T (present (after i t fs).reference)
reference-stays i start t fs l h = subst T (sym (reference-told i t fs)) (told-later i start t fs l (subst T (reference-told i start fs) h))

-- ---- the book

book-stays : (counts mine : Bool) (new s : Indicator) → book_of new ≡ book_of s → book_of (cond counts (cond mine new s) s) ≡ book_of s
book-stays false mine new s e = refl
book-stays true false new s e = refl
book-stays true true new s e = e

book-quoted : (counts mine : Bool) (s : Indicator) (sides : ℕ) (bid offer : Price) (rest : Latest)
    → book_by (book_of (cond counts (cond mine (after_quote s sides bid offer) s) s)) rest ≡ book_by (book_of s) (later_of (cond mine (cond counts (quoted sides bid offer) none) none) rest)
book-quoted counts mine s sides bid offer (quoted n b o) = refl
book-quoted true true s sides bid offer none = refl
book-quoted true false s sides bid offer none = refl
book-quoted false true s sides bid offer none = refl
book-quoted false false s sides bid offer none = refl

module _ (i t : ℕ) where
  book-from : (s : Indicator) (fs : List Field) → book_of (after_from i t s fs) ≡ book_by (book_of s) (latest_quote i t fs)
  unfolding after_from taken latest_quote
  book-from s [] = refl
  book-from s (Header metal marks form ∷ fs) = ap book_of (due i t s (Header metal marks form) fs (omega arith)) ∙ book-from s fs
  book-from s (PreviousClose instrument price ∷ fs) =
      let b = book-stays (leb 0 t) (eqb instrument i) (after_close s price) s refl in
      book-from (cond (leb 0 t) (cond (eqb instrument i) (after_close s price) s) s) fs ∙ ap (λ (before : Book). book_by before (latest_quote i t fs)) b
  book-from s (Trade time instrument price lots ∷ fs) =
      let b = book-stays (leb time t) (eqb instrument i) (after_trade s price) s refl in
      book-from (cond (leb time t) (cond (eqb instrument i) (after_trade s price) s) s) fs ∙ ap (λ (before : Book). book_by before (latest_quote i t fs)) b
  book-from s (Quote time instrument sides bid offer ∷ fs) =
      book-from (cond (leb time t) (cond (eqb instrument i) (after_quote s sides bid offer) s) s) fs ∙ book-quoted (leb time t) (eqb instrument i) s sides bid offer (latest_quote i t fs)
  book-from s (End count ∷ fs) = ap book_of (due i t s (End count) fs (omega arith)) ∙ book-from s fs

  -- the book is the latest quote record's, whatever its time of day, and empty where there is none
  pub book-latest : (fs : List Field) → book_of (after i t fs) ≡ book_by (book_of empty) (latest_quote i t fs)
  book-latest fs = book-from empty fs
