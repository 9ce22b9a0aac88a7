-- What the code says of a rounded price.
--     answer-means          no two answers say the same
--     close-in, round-..    a law for each return of the code, from what it knows there
-- Assumes nothing.
use Rattle.std.specs.Prelude.{◌≡◌, refl, true, false, ℕ, zero, suc, ◌+◌, ◌*◌, ◌/◌, ◌%◌, ◌≤◌, ◌<◌, ℤ, pos, negsuc, neg_ℤ, nat_abs, ◌*ℤ◌, Option, Some, None}
use Rattle.std.proofs.Common.{sym, ap, ◌∙◌, mul_comm, mul_assoc, mul_left_comm, mul-one, mul-zero, div-mul-le_self, div-add-mod', mod-lt, le-div_iff_mul-le, div-lt_iff_lt-mul, suc-mul, add-mul, arith, le-leb, ltb-true, SFits, to_z, of_z, to_z-of_z}
use Rattle.std.proofs.Math.Nat.{div-zero, div-eq_of_lt, div-div-eq-div-mul, add-mul-div_left, lt-div-mul-add}
use Rattle.std.proofs.lemmas.Bool.{lt-leb}
use Rattle.std.specs.Int.Signed.{lt_z}
use Rattle.std.specs.Int.{w64}
use Rattle.cents.specs.laws.Whole.{Diff, is, is-*, is-+, is_pos, natural}
use Rattle.cents.specs.Round.{floor, limit, round}
use Rattle.cents.specs.Close.{Said, means, close_of, close, refused}

-- the answer that says it, so that no two answers say the same
abbrev pub answer : Said → Option ℕ
answer (close m) = Some m
answer (refused number) = None

pub answer-means : (r : Option ℕ) → answer (means r) ≡ r
answer-means (Some m) = refl
answer-means None = refl

-- ---- which case it is

pub close-in : (m : ℕ) → (m ≡ 0 → ⊥) → m ≤ 99999999 → close m ≡ close_of (pos m)
unfolding close_of
close-in m h k = simp (le-leb 1 m (omega arith), le-leb m 99999999 k)

pub close-above : (m : ℕ) → 99999999 < m → refused 14 ≡ close_of (pos m)
unfolding close_of
close-above m h = simp (le-leb 1 m (omega arith), lt-leb m 99999999 h)

pub close-zero : (m : ℕ) → m ≡ 0 → refused 14 ≡ close_of (pos m)
unfolding close_of
close-zero m e = rw e

close-neg : (m : ℕ) → refused 14 ≡ close_of (neg_ℤ (pos m))
unfolding close_of
close-neg zero = refl
close-neg (suc m) = refl

-- ---- the code's way: 2N/D rounded down, of that the steps, and these times u

-- how many steps of u are nearest to h/2, halves up
abbrev pub nearest : ℕ → ℕ → ℕ
nearest h u = (h + u) / (2 * u)

nearest-is : (h u k : ℕ) → 0 < u → k * (2 * u) ≤ h + u → h + u < k * (2 * u) + 2 * u → k ≡ nearest h u
nearest-is h u k u>0 p q =
    let b : 0 < 2 * u = omega arith in
    let r : h + u < suc k * (2 * u) = omega (arith, suc-mul k (2 * u)) in
    omega (arith, (le-div_iff_mul-le b).1 p, (div-lt_iff_lt-mul b).1 r)

-- the whole steps in h/2, and one more where half a step or more is left
module _ (h u : ℕ) (u>0 : 0 < u) where
  pub nearest-down : h % (2 * u) < u → h / (2 * u) ≡ nearest h u
  nearest-down r = nearest-is h u (h / (2 * u)) u>0 (omega (arith, div-add-mod' h (2 * u))) (omega (arith, div-add-mod' h (2 * u)))

  pub nearest-up : u ≤ h % (2 * u) → h / (2 * u) + 1 ≡ nearest h u
  nearest-up r =
      let b : 0 < 2 * u = omega arith in
      let e = add-mul (h / (2 * u)) 1 (2 * u) in
      nearest-is h u (h / (2 * u) + 1) u>0 (omega (arith, div-add-mod' h (2 * u))) (omega (arith, div-add-mod' h (2 * u), mod-lt h b))

round-nearest : (n d u : ℕ) → 0 < d → round (pos n) d u ≡ pos (nearest (2 * n / d) u * u)
unfolding round
round-nearest n d u d>0 = ap pos (mul_comm u ((2 * n + d * u) / (2 * d * u)) ∙ ap (λ (v : ℕ). v * u)
    (ap (λ (v : ℕ). (2 * n + d * u) / v) (mul_assoc 2 d u ∙ mul_left_comm 2 d u)
    ∙ sym (div-div-eq-div-mul (2 * n + d * u) d (2 * u))
    ∙ ap (λ (v : ℕ). v / (2 * u)) (add-mul-div_left (2 * n) u d>0)))

pub round-steps : (n d u k : ℕ) {x : Said} → (d ≡ 0 → ⊥) → k ≡ nearest (2 * n / d) u → x ≡ close_of (pos (k * u)) → x ≡ close_of (round (pos n) d u)
round-steps n d u k d≢0 e h = h ∙ rw (e, round-nearest n d u (omega arith))

-- steps of 1 cent are the cents themselves
pub round-cents : (n d u k : ℕ) {x : Said} → u ≡ 1 → (d ≡ 0 → ⊥) → k ≡ nearest (2 * n / d) 1 → x ≡ close_of (pos k) → x ≡ close_of (round (pos n) d u)
round-cents n d u k u≡1 d≢0 e h = rw u≡1 (round-steps n d 1 k d≢0 e (rw (mul-one k) h))

-- they are not above h + u, so that the code's product fits
pub steps-le : (h u k : ℕ) → k ≡ nearest h u → k * u ≤ h + u
steps-le h u k e = rw e (omega (arith, div-mul-le_self (h + u) (2 * u), mul_left_comm (nearest h u) 2 u))

-- and twice they are above h − u, so that they are above the range where h is far above it
pub round-above : (n d u : ℕ) → (d ≡ 0 → ⊥) → (u ≡ 0 → ⊥) → 2 * 99999999 + u ≤ 2 * n / d → refused 14 ≡ close_of (round (pos n) d u)
round-above n d u d≢0 u≢0 h = round-steps n d u (nearest (2 * n / d) u) d≢0 refl (close-above _ (omega (arith, above (2 * n / d))))
  where
    above : (h : ℕ) → h < 2 * (nearest h u * u) + u
    above h = omega (arith, lt-div-mul-add {a = h + u} {b = 2 * u} (omega arith), mul_left_comm (nearest h u) 2 u)

-- no close where D or u is 0
pub round-none : (n d u : ℕ) → d * u ≡ 0 → refused 14 ≡ close_of (round (pos n) d u)
unfolding round
round-none n d u e = close-zero _ (simp (mul_assoc, e, div-zero, mul-zero))

-- a sum below zero rounds to no close
low : (z : ℤ) (u m a b : ℕ) → Diff z a b → a ≤ m → 0 < b → refused 14 ≡ close_of (pos u *ℤ floor z m)
low (pos e) u m a b h k p = let n : e < m = omega arith in close-zero _ (simp (div-eq_of_lt n, mul-zero))
low (negsuc e) u m a b h k p = close-neg (u * suc (e / m))

below : (n : ℤ) (d u : ℕ) → lt_z n (pos 0) ≡ true → refused 14 ≡ close_of (round n d u)
unfolding round
below (pos a) d u t = absurd (omega (arith, ltb-true a 0 t))
below (negsuc a) d u t = low (limit (negsuc a) d u) u (2 * d * u) (2 * 0 + d * u) (2 * suc a + 0) (is-+ (is-* 2 (is (negsuc a))) (is_pos (d * u))).diff (omega (arith, mul_assoc 2 d u)) (omega arith)

-- the code's test of the sign, as the machine reads the sum
module _ (n : ℤ) (d u : ℕ) (f : SFits w64 n) where
  pub round-below : lt_z (to_z w64 (of_z w64 n)) (pos 0) ≡ true → refused 14 ≡ close_of (round n d u)
  round-below t = below n d u (rw (to_z-of_z f) at t)

  pub round-natural : {x : Said} → lt_z (to_z w64 (of_z w64 n)) (pos 0) ≡ false → x ≡ close_of (round (pos (nat_abs (to_z w64 (of_z w64 n)))) d u) → x ≡ close_of (round n d u)
  round-natural t h = rw (natural f t).value at h
