-- The totals with their lots and their values apart.
--     Filled             the first i elements are those of the totals, as they are taken apart
--     ready-apart        put together again they are the totals
-- Assumes nothing.
use Rattle.std.specs.Prelude.{ℕ, ◌+◌, ◌≤◌, ◌<◌, ◌≡◌, refl, List, [], ◌∷◌, map, ℤ, length, take, get_or, set}
use Rattle.std.proofs.Common.{sym, ap, ◌∙◌, add-one, arith, length-set, take_all, take-suc, take-suc-set}
use Rattle.std.proofs.lemmas.List.{map-append}
use Rattle.trades.specs.declared.Total.{Total}
use Rattle.trades.specs.Trades.{none}
use Rattle.trades.specs.laws.Trades.{AllSmall}
use Rattle.price_rules.specs.declared.lent.Book.{Book}
use Rattle.price_rules.specs.laws.Adding.{paired}
use Rattle.six_answers.specs.laws.Ready.{Ready, book_of}

abbrev pub lots_only : Total → ℕ
lots_only t = t.lots

abbrev pub value_only : Total → ℤ
value_only t = t.value

paired-apart : (ts : List Total) → paired (map lots_only ts) (map value_only ts) ≡ ts
unfolding paired
paired-apart [] = refl
paired-apart (t ∷ ts) = ap (λ (us : List Total). t ∷ us) (paired-apart ts)

-- they are as small as they were
pub small-apart : (book : Book) {lots : List ℕ} {values : List ℤ} → lots ≡ map lots_only book.totals → values ≡ map value_only book.totals → AllSmall 1048576 (paired lots values)
small-apart book e f = rw (e, f, paired-apart book.totals) book.small

pub ready-apart : (s : List ℕ) (book : Book) {lots : List ℕ} {values : List ℤ} → Ready s book → (e : lots ≡ map lots_only book.totals) (f : values ≡ map value_only book.totals) → Ready s (book_of book.metal book.marks book.third lots values (small-apart book e f))
ready-apart s book r e f = record { accepted = r.accepted; totals = rw (e, f, paired-apart book.totals) r.totals }

-- ---- as they are taken apart

module _ {A : Type 0} (f : Total → A) (ts : List Total) where
  -- the first i are filled in
  pub record Filled (l : List A) (i : ℕ) : Type 0 where
    pub long : length l ≡ length ts
    pub filled : take i l ≡ map f (take i ts)

  pub filled_none : (l : List A) → length l ≡ length ts → Filled l 0
  filled_none l e = record { long = e; filled = refl }

  pub filled_more : (l : List A) (i : ℕ) {a : A} → i < length ts → a ≡ f (get_or ts i none) → Filled l i → Filled (set l i a) (i + 1)
  filled_more l i {a} h e w =
      let k : i < length l = omega (arith, w.long) in
      record {
        long = length-set l i a ∙ w.long;
        filled = ap (λ (n : ℕ). take n (set l i a)) (add-one i) ∙ take-suc-set l i a k ∙ rw (w.filled, e, add-one i, take-suc ts i none h) (sym (map-append f (take i ts) (get_or ts i none ∷ [])));
      }

  pub filled-all : (l : List A) (i : ℕ) → length ts ≤ i → Filled l i → l ≡ map f ts
  filled-all l i h w = sym (take_all i l (omega (arith, w.long))) ∙ w.filled ∙ ap (map f) (take_all i ts h)
