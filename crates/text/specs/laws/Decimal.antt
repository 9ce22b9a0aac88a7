-- How long a decimal can be, and that it is what `io::decimal` writes. Assumes nothing.
use Rattle.std.specs.Prelude.{ℕ, zero, suc, ◌-◌, ◌*◌, ◌/◌, ◌%◌, ◌^◌, ◌≤◌, ◌<◌, ◌≡◌, List, length, take}
use Rattle.std.proofs.Common.{◌∙◌, arith, pow-suc, div-lt_iff_lt-mul, le-div_iff_mul-le, mod-eq_of_lt, mod-lt, length-append, lt-ltb, le-ltb}
use Rattle.std.proofs.Math.Nat.{one-le-pow, pow-le-pow_right}
use Rattle.std.proofs.Math.Decide.{dec_le, dec_lt}
use Rattle.io.specs.Digits.{last_digits, IsDigitCount}
use Rattle.text.specs.Decimal.{decimal_in, decimal}

choose-length : (k n : ℕ) (t : Dec (n < 10)) → length (decimal_in k (n / 10)) ≤ k → length (decimal_in (suc k) n) ≤ suc k
unfolding decimal_in
choose-length k n (yes h) l = simp (lt-ltb n 10 h) (omega arith)
choose-length k n (no h) l = let g : 10 ≤ n = omega arith in simp (le-ltb n 10 g, length-append) (omega arith)

pub decimal-length : (k n : ℕ) → length (decimal_in k n) ≤ k
unfolding decimal_in
decimal-length zero n = omega arith
decimal-length (suc k) n = choose-length k n (dec_lt n 10) (decimal-length k (n / 10))

one-digit : (k n : ℕ) → n < 10 → last_digits 10 1 n ≡ decimal_in (suc k) n
unfolding decimal_in
one-digit k n h = simp (lt-ltb n 10 h, mod-eq_of_lt h)

more-digits : (r k n : ℕ) → 10 ≤ n → last_digits 10 r (n / 10) ≡ decimal_in k (n / 10) → last_digits 10 (suc r) n ≡ decimal_in (suc k) n
unfolding decimal_in
more-digits r k n h e = let m : n % 10 < 10 = mod-lt n (omega arith) in simp (le-ltb n 10 h, e, lt-ltb (n % 10) 10 m)

tenth : (r n : ℕ) → IsDigitCount 10 1 n (suc (suc r)) → (10 ≤ n) × IsDigitCount 10 1 (n / 10) (suc r)
tenth r n (a, b, f) =
    let ten : 0 < 10 = omega arith in
    let e : suc (suc r) - 1 ≡ suc r = omega arith in
    let least : 10 ^ r * 10 ≤ n = rw (e, pow-suc) at (f (omega arith)) in
    let one : 1 ≤ 10 ^ r = one-le-pow r 10 (omega arith) in
    let e' : suc r - 1 ≡ r = omega arith in
    (omega arith, (omega arith, (div-lt_iff_lt-mul ten).1 (rw pow-suc at b), λ g. rw e' ((le-div_iff_mul-le ten).1 least)))

-- what io::decimal writes
pub fewest : (r k n : ℕ) → r ≤ k → IsDigitCount 10 1 n r → last_digits 10 r n ≡ decimal_in k n
fewest zero k n l (a, b, f) = absurd (omega arith)
fewest (suc r) zero n l w = absurd (omega arith)
fewest (suc zero) (suc k) n l (a, b, f) = one-digit k n b
fewest (suc (suc r)) (suc k) n l w = more-digits (suc r) k n (tenth r n w).0 (fewest (suc r) k (n / 10) (omega arith) (tenth r n w).1)

pub at-most-20 : (r n : ℕ) → n < 2 ^ 64 → IsDigitCount 10 1 n r → r ≤ 20
at-most-20 r n h (a, b, f) = few (dec_le r 20)
  where
    few : Dec (r ≤ 20) → r ≤ 20
    few (yes l) = l
    few (no g) =
        let ten : 0 < 10 = omega arith in
        let more : 20 ≤ r - 1 = omega arith in
        absurd (omega (arith, f (omega arith), pow-le-pow_right ten more))

-- what stands in the array that io::decimal was lent
pub spelled : (n r : ℕ) (out : List ℕ) → n < 2 ^ 64 → IsDigitCount 10 1 n r × (take r out ≡ last_digits 10 r n) → take r out ≡ decimal n
spelled n r out h (w, e) = e ∙ fewest r 20 n (at-most-20 r n h w) w
