-- Laws of rounding.
--     round-greatest     it is what RULES 8 says, and by greatest-unique nothing else is
--     round-shift        N moved by D times a multiple of the step moves it by that multiple
--     round_mono         a greater N gives no smaller number
--     round-near         it is at most half a step from N/D, and half a step only above it
--     round_whole        a sum that D divides is rounded as its quotient
--     rounding-examples  the worked examples of RULES 8
-- Assumes nothing.
use Rattle.std.specs.Prelude.{◌≡◌, refl, List, [], ◌∷◌, ℕ, suc, ◌+◌, ◌*◌, ◌/◌, ◌≤◌, ◌<◌, ℤ, negsuc, neg_ℤ, ◌+ℤ◌, ◌-ℤ◌, ◌*ℤ◌, ◌≤ℤ◌, ◌<ℤ◌}
use Rattle.std.proofs.Math.Path.{ap}
use Rattle.std.proofs.Common.{◌∙◌, subst, mul-add, mul_comm, mul_left_comm, le-div_iff_mul-le, div-lt_iff_lt-mul, mul-pos, lt_of_not-le, add-one, arith, leb→le, le→leb}
use Rattle.std.proofs.Math.Nat.{mul_assoc, mul-div-le, lt-mul-div-succ}
use Rattle.std.proofs.Math.IntN.{pos, -ℤ-+ℤ_cancel}
use Rattle.std.specs.Int.Signed.{≤ℤ_refl}
use Rattle.cents.specs.laws.Whole.{up, down, is, is-+, is--, is-neg, is-*, is_pos, show-≡, show-≤, show-<, read-≤, ≤ℤ-trans, ≤ℤ-antisym, +ℤ-mono, *ℤ-+ℤ, *ℤ-mono, *ℤ-cancel, *ℤ-*ℤ}
use Rattle.cents.specs.Round.{floor, limit, round, Greatest}

-- ---- division rounded down: m·k ≤ z exactly where k ≤ floor z m

floor-le : (z : ℤ) (m : ℕ) → 0 < m → (pos m *ℤ floor z m) ≤ℤ z
floor-le (pos a) m h = record { le = le→leb (m * (a / m)) a (mul-div-le a m) }
floor-le (negsuc a) m h = show-≤ (is-* m (is (negsuc (a / m)))) (is (negsuc a)) (omega (arith, simp add-one at (lt-mul-div-succ a h)))

le-floor : (z k : ℤ) (m : ℕ) → 0 < m → (pos m *ℤ k) ≤ℤ z → k ≤ℤ floor z m
le-floor (pos a) (pos k) m h p = record { le = le→leb k (a / m) ((le-div_iff_mul-le h).1 (omega (arith, mul_comm k m, leb→le (m * k) a p.le))) }
le-floor (pos a) (negsuc k) m h p = record { le = tt }
le-floor (negsuc a) (pos k) m h p = absurd p.le
le-floor (negsuc a) (negsuc k) m h p = record { le = le→leb (a / m) k (omega (arith, (div-lt_iff_lt-mul h).1 (turned (read-≤ (is-* m (is (negsuc k))) (is (negsuc a)) p)))) }
  where
    turned : m * 0 + suc a ≤ 0 + m * suc k → a < suc k * m
    turned e = omega (arith, mul_comm (suc k) m, mul_comm m 0)

floor-shift : (z k : ℤ) (m : ℕ) → 0 < m → floor (z +ℤ pos m *ℤ k) m ≡ floor z m +ℤ k
floor-shift z k m h = ≤ℤ-antisym
    (subst (λ (v : ℤ). v ≤ℤ (floor z m +ℤ k)) (-ℤ-+ℤ_cancel f k) (+ℤ-mono k (le-floor z (f -ℤ k) m h less)))
    (le-floor (z +ℤ pos m *ℤ k) (floor z m +ℤ k) m h (rw (*ℤ-+ℤ m (floor z m) k) (+ℤ-mono (pos m *ℤ k) (floor-le z m h))))
  where
    f : ℤ
    f = floor (z +ℤ pos m *ℤ k) m

    less : (pos m *ℤ (f -ℤ k)) ≤ℤ z
    less = show-≤ (is-* m (is-- (is f) (is k))) (is z) (omega (arith, mul-add m (up f) (down k), mul-add m (down f) (up k), read-≤ (is-* m (is f)) (is-+ (is z) (is-* m (is k))) (floor-le (z +ℤ pos m *ℤ k) m h)))

-- ---- the greatest multiple

greatest-mono : {n n' : ℤ} {d u : ℕ} {m m' : ℤ} → n ≤ℤ n' → Greatest n d u m → Greatest n' d u m' → m ≤ℤ m'
greatest-mono {d = d} {u = u} h g g' = rw g.multiple (g'.most g.steps (≤ℤ-trans (rw g.multiple at g.under) (+ℤ-mono (pos (d * u)) (*ℤ-mono 2 h))))

pub greatest-unique : {n : ℤ} {d u : ℕ} {m m' : ℤ} → Greatest n d u m → Greatest n d u m' → m ≡ m'
greatest-unique {n} g g' = ≤ℤ-antisym (greatest-mono (≤ℤ_refl n) g g') (greatest-mono (≤ℤ_refl n) g' g)

-- a step further is over the limit
next-over : {n : ℤ} {d u : ℕ} {m : ℤ} → 0 < u → Greatest n d u m → (pos (2 * d) *ℤ (m +ℤ pos u)) ≤ℤ limit n d u → ⊥
next-over {u = u} {m = m} u>0 g h = omega (arith, read-≤ (is-+ (is m) (is_pos u)) (is m) (rw next at (g.most (g.steps +ℤ pos 1) (rw next h))))
  where
    next : pos u *ℤ (g.steps +ℤ pos 1) ≡ m +ℤ pos u
    next = rw g.multiple (show-≡ (is-* u (is-+ (is g.steps) (is_pos 1))) (is-+ (is-* u (is g.steps)) (is_pos u)) (omega (arith, mul-add u (up g.steps) 1, mul-add u (down g.steps) 0)))

greatest-near : {n : ℤ} {d u : ℕ} {m : ℤ} → 0 < u → Greatest n d u m → (neg_ℤ (pos (d * u)) <ℤ (pos 2 *ℤ (pos d *ℤ m -ℤ n))) × ((pos 2 *ℤ (pos d *ℤ m -ℤ n)) ≤ℤ pos (d * u))
greatest-near {n} {d} {u} {m} u>0 g =
    let off = is-* 2 (is-- (is-* d (is m)) (is n)) in
    let most = is-+ (is-* 2 (is n)) (is_pos (d * u)) in
    let p = mul_assoc 2 d (up m) in
    let q = mul_assoc 2 d (down m) in
    let over = lt_of_not-le (λ e. next-over u>0 g (show-≤ (is-* (2 * d) (is-+ (is m) (is_pos u))) most e)) in (
      show-< (is-neg (is_pos (d * u))) off (omega (arith, mul-add (2 * d) (up m) u, mul-add (2 * d) (down m) 0, mul_assoc 2 d u)),
      show-≤ off (is_pos (d * u)) (omega (arith, read-≤ (is-* (2 * d) (is m)) most g.under)),
    )

module _ (n : ℤ) (d u : ℕ) (d>0 : 0 < d) (u>0 : 0 < u) where
  2du>0 : 0 < 2 * d * u
  2du>0 = mul-pos (omega arith) u>0

  pub round-greatest : Greatest n d u (round n d u)
  unfolding round
  round-greatest = record {
    steps = floor (limit n d u) (2 * d * u);
    multiple = refl;
    under = rw (*ℤ-*ℤ (2 * d) u (floor (limit n d u) (2 * d * u))) (floor-le (limit n d u) (2 * d * u) 2du>0);
    most = λ k h. *ℤ-mono u (le-floor (limit n d u) k (2 * d * u) 2du>0 (rw (*ℤ-*ℤ (2 * d) u k) at h));
  }

  pub round-shift : (k : ℤ) → round (n +ℤ pos d *ℤ (pos u *ℤ k)) d u ≡ round n d u +ℤ pos u *ℤ k
  unfolding round
  round-shift k = ap (λ (v : ℤ). pos u *ℤ floor v (2 * d * u)) moved ∙ ap (λ (v : ℤ). pos u *ℤ v) (floor-shift (limit n d u) k (2 * d * u) 2du>0) ∙ *ℤ-+ℤ u (floor (limit n d u) (2 * d * u)) k
    where
      same : (x : ℕ) → 2 * (d * (u * x)) ≡ 2 * d * u * x
      same x = simp mul_assoc

      moved : limit (n +ℤ pos d *ℤ (pos u *ℤ k)) d u ≡ limit n d u +ℤ pos (2 * d * u) *ℤ k
      moved = show-≡
          (is-+ (is-* 2 (is-+ (is n) (is-* d (is-* u (is k))))) (is_pos (d * u)))
          (is-+ (is-+ (is-* 2 (is n)) (is_pos (d * u))) (is-* (2 * d * u) (is k)))
          (omega (arith, same (up k), same (down k)))

  -- the same in steps that are t times as wide
  pub round-shift-by : (t : ℕ) (k : ℤ) → round (n +ℤ pos d *ℤ (pos (u * t) *ℤ k)) d u ≡ round n d u +ℤ pos (u * t) *ℤ k
  round-shift-by t k = rw (← *ℤ-*ℤ u t k) (round-shift (pos t *ℤ k))

  -- −Du < 2(rD − N) ≤ Du, where r is the rounded number
  pub round-near : (neg_ℤ (pos (d * u)) <ℤ (pos 2 *ℤ (pos d *ℤ round n d u -ℤ n))) × ((pos 2 *ℤ (pos d *ℤ round n d u -ℤ n)) ≤ℤ pos (d * u))
  round-near = greatest-near u>0 round-greatest

pub round_mono : (n n' : ℤ) (d u : ℕ) → 0 < d → 0 < u → n ≤ℤ n' → round n d u ≤ℤ round n' d u
round_mono n n' d u d>0 u>0 h = greatest-mono h (round-greatest n d u d>0 u>0) (round-greatest n' d u d>0 u>0)

-- both sides of the limit times D
scaled : (d u : ℕ) → 0 < d → {x m : ℤ} → Greatest x 1 u m → Greatest (pos d *ℤ x) d u m
scaled d u d>0 {x} {m} g = record {
  steps = g.steps;
  multiple = g.multiple;
  under = rw (doubled m, raised) (*ℤ-mono d g.under);
  most = λ k h. g.most k (*ℤ-cancel d d>0 (rw (doubled (pos u *ℤ k), raised) at h));
}
  where
    doubled : (m : ℤ) → pos (2 * d) *ℤ m ≡ pos d *ℤ (pos (2 * 1) *ℤ m)
    doubled m = show-≡ (is-* (2 * d) (is m)) (is-* d (is-* (2 * 1) (is m))) (omega (arith, mul_assoc 2 d (up m), mul_assoc 2 d (down m), mul_left_comm d 2 (up m), mul_left_comm d 2 (down m)))

    raised : limit (pos d *ℤ x) d u ≡ pos d *ℤ limit x 1 u
    raised = show-≡
        (is-+ (is-* 2 (is-* d (is x))) (is_pos (d * u)))
        (is-* d (is-+ (is-* 2 (is x)) (is_pos (1 * u))))
        (omega (arith, mul-add d (2 * up x) (1 * u), mul-add d (2 * down x) 0, mul_left_comm d 2 (up x), mul_left_comm d 2 (down x)))

pub round_whole : (x : ℤ) (d u : ℕ) → 0 < d → 0 < u → round (pos d *ℤ x) d u ≡ round x 1 u
round_whole x d u d>0 u>0 = greatest-unique (round-greatest (pos d *ℤ x) d u d>0 u>0) (scaled d u d>0 (round-greatest x 1 u (omega arith) u>0))

-- ---- the worked examples of RULES 8

-- a row of the table: sum, divisor, step, rounded number
pub data Row : Type 0 where
  row : ℤ → ℕ → ℕ → ℤ → Row

-- each row's sum over its divisor, to its step, is its number
abbrev pub Hold : List Row → Type 0
Hold [] = Unit {0}
Hold (row n d u m ∷ rows) = (round n d u ≡ m) × Hold rows

-- the worked examples, and that halves go up below zero too
abbrev pub examples : List Row
examples =
    row (pos 920125) 1 50 (pos 920150) ∷  -- P6
    row (pos 920124) 1 50 (pos 920100) ∷  -- P7
    row (pos 1800049) 1 100 (pos 1800000) ∷  -- P8
    row (neg_ℤ (pos 5)) 2 1 (neg_ℤ (pos 2)) ∷  -- ours: −5/2 is −2
    []

pub rounding-examples : Hold examples
unfolding round
rounding-examples = (refl, (refl, (refl, (refl, tt))))
