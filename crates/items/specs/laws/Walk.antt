-- What holds as the code looks for the stop. Assumes nothing.
use Rattle.std.specs.Prelude.{ℕ, ◌+◌, ◌≤◌, ◌<◌, ◌≡◌, refl, List, length, get_or, max}
use Rattle.std.proofs.Common.{◌∙◌, arith, add-one, eq-eqb, ne_eqb}
use Rattle.std.proofs.Math.Decide.{dec_le}
use Rattle.std.proofs.Math.ListN.{drop_of_length-le}
use Rattle.std.proofs.Math.Seq.{drop-cons}
use Rattle.items.specs.Items.{first, end_of}

pub record Looking (stop : ℕ) (s : List ℕ) (from i : ℕ) : Type 0 where
  pub same : end_of stop s from ≡ end_of stop s i

module _ (stop : ℕ) (s : List ℕ) (from : ℕ) where
  pub at-start : Looking stop s from from
  at-start = record { same = refl }

  pub at-stop : (i : ℕ) → Looking stop s from i → i < length s → get_or s i 0 ≡ stop → i ≡ end_of stop s from
  unfolding end_of first
  at-stop i o h e = rw (o.same, drop-cons s i 0 h) (simp (eq-eqb (get_or s i 0) stop e) (omega arith))

  pub at_next : (i : ℕ) → Looking stop s from i → i < length s → (get_or s i 0 ≡ stop → ⊥) → Looking stop s from (i + 1)
  unfolding end_of first
  at_next i o h e = record { same = o.same ∙ rw (drop-cons s i 0 h, add-one) (simp (ne_eqb (get_or s i 0) stop e) (omega arith)) }

  pub at-end : (i : ℕ) → Looking stop s from i → length s ≤ i → i ≡ end_of stop s from
  unfolding end_of first
  at-end i o h = rw (o.same, drop_of_length-le s h) (omega arith)

  -- behind the last byte: the end of all, or the place itself where it stands behind that
  pub at_most : (i : ℕ) → Looking stop s from i → length s ≤ i → (from ≤ length s → i ≤ length s) → max from (length s) ≡ end_of stop s from
  unfolding end_of first
  at_most i o h g = by-test (dec_le from (length s))
    where
      by-test : Dec (from ≤ length s) → max from (length s) ≡ end_of stop s from
      by-test (yes l) = let k = g l in omega arith ∙ at-end i o h
      by-test (no l) = let k : length s ≤ from = omega arith in rw (drop_of_length-le s k) (omega arith)
