-- The cases of the definitions as the code meets them, and what holds as it walks the digits. Assumes nothing.
use Rattle.std.specs.Prelude.{ℕ, ◌+◌, ◌-◌, ◌*◌, ◌≤◌, ◌<◌, Bool, true, false, not, cond, ◌≡◌, List, [], ◌∷◌, leb, ltb, eqb, length, get_or, drop, Some, None}
use Rattle.std.proofs.Math.Path.{refl}
use Rattle.std.proofs.Common.{sym, ◌∙◌, add-one}
use Rattle.std.proofs.Math.Decide.{dec_le}
use native.Mathlib.Omega.{arith}
use Rattle.std.proofs.Math.ListN.{drop_of_length-le}
use Rattle.std.proofs.Math.Seq.{drop-cons}
use borrow.Author.Tests.{not-true, not-false, lt-ltb, le-ltb, le-leb, lt-leb}
use Rattle.numerals.specs.Numerals.{is_digit, risen, number_from, opens, number}

pub digit_low : (b : ℕ) → b < 48 → false ≡ is_digit b
unfolding is_digit
digit_low b h = simp (lt-ltb b 48 h)

pub digit-else : (b : ℕ) → 48 ≤ b → ltb b 58 ≡ is_digit b
unfolding is_digit
digit-else b h = simp (le-ltb b 48 h)

pub risen-low : (most n b d : ℕ) → d ≡ b - 48 → n * 10 + d ≤ most → n * 10 + d ≡ risen most n b
unfolding risen
risen-low most n b d e h = simp (sym e, le-leb (n * 10 + d) most h)

pub risen-high : (most n b d : ℕ) → d ≡ b - 48 → most < n * 10 + d → most ≡ risen most n b
unfolding risen
risen-high most n b d e h = simp (sym e, lt-leb (n * 10 + d) most h)

pub risen-most : (most n b : ℕ) → risen most n b ≤ most
unfolding risen
risen-most most n b = by-test (dec_le (n * 10 + (b - 48)) most)
  where
    by-test : Dec (n * 10 + (b - 48) ≤ most) → cond (leb (n * 10 + (b - 48)) most) (n * 10 + (b - 48)) most ≤ most
    by-test (yes h) = simp (le-leb (n * 10 + (b - 48)) most h) h
    by-test (no h) = simp (lt-leb (n * 10 + (b - 48)) most (omega arith)) (omega arith)

pub opens-none : (s : List ℕ) → length s ≡ 0 → false ≡ opens s
unfolding opens
opens-none [] h = refl
opens-none (b ∷ s) h = absurd (omega arith)

pub opens_one : (s : List ℕ) → length s ≡ 1 → true ≡ opens s
unfolding opens
opens_one [] h = absurd (omega arith)
opens_one (b ∷ []) h = refl
opens_one (b ∷ c ∷ s) h = absurd (omega arith)

pub opens-more : (s : List ℕ) → (length s ≡ 0 → ⊥) → (length s ≡ 1 → ⊥) → not (eqb (get_or s 0 0) 48) ≡ opens s
unfolding opens
opens-more [] h g = absurd (h refl)
opens-more (b ∷ []) h g = absurd (g refl)
opens-more (b ∷ c ∷ s) h g = refl

-- ---- the walk

pub record OnDigits (most : ℕ) (s : List ℕ) (n i : ℕ) : Type 0 where
  pub rest : number most s ≡ number_from most n (drop i s)
  pub inside : i ≤ length s
  pub small : n ≤ most

module _ (most : ℕ) (s : List ℕ) where
  pub shut : (r : Bool) → r ≡ opens s → not r ≡ true → None ≡ number most s
  unfolding number
  shut r q e = simp (sym q, not-true r e)

  pub at-start : (r : Bool) → r ≡ opens s → not r ≡ false → OnDigits most s 0 0
  unfolding number
  at-start r q e = record { rest = simp (sym q, not-false r e); inside = omega arith; small = omega arith }

  pub at-bad : (n i : ℕ) (r : Bool) → OnDigits most s n i → i < length s → r ≡ is_digit (get_or s i 0) → not r ≡ true → None ≡ number most s
  unfolding number_from
  at-bad n i r o h q e = rw (o.rest, drop-cons s i 0 h) (simp (sym q, not-true r e))

  pub at_next : (n i r : ℕ) (t : Bool) → OnDigits most s n i → i < length s → t ≡ is_digit (get_or s i 0) → not t ≡ false → r ≡ risen most n (get_or s i 0) → OnDigits most s r (i + 1)
  unfolding number_from
  at_next n i r t o h d e q = record {
    rest = o.rest ∙ rw (drop-cons s i 0 h) (simp (sym d, not-false t e, q, add-one));
    inside = omega arith;
    small = rw q (risen-most most n (get_or s i 0));
  }

  pub at-end : (n i : ℕ) → OnDigits most s n i → length s ≤ i → Some n ≡ number most s
  unfolding number_from
  at-end n i o h = rw (o.rest, drop_of_length-le s h) refl
