-- RULES 8: N/D rounded to a step u, a half up. N is any whole number; D and u are above 0 in every law.
use Rattle.std.specs.Prelude.{◌≡◌, ℕ, ◌*◌, ℤ, pos, ◌+ℤ◌, ◌*ℤ◌, ◌≤ℤ◌}
use Rattle.std.specs.Int.Signed.{shr_z}

-- z / m rounded down, below zero too: the number of whole m in z
abbrev pub floor : ℤ → ℕ → ℤ
floor z m = shr_z z m

-- 2N + Du, which 2Dm may not exceed
abbrev pub limit : ℤ → ℕ → ℕ → ℤ
limit n d u = pos 2 *ℤ n +ℤ pos (d * u)

-- N/D to step u: as many steps as 2Du goes into the limit
unfoldable pub round : ℤ → ℕ → ℕ → ℤ
round n d u = pos u *ℤ floor (limit n d u) (2 * d * u)

-- RULES 8 as it is worded, which `round` is proved to meet: m is the greatest multiple of u for which 2Dm is at most 2N + Du
pub record Greatest (n : ℤ) (d u : ℕ) (m : ℤ) : Type 0 where
  pub steps : ℤ
  pub multiple : m ≡ pos u *ℤ steps
  pub under : (pos (2 * d) *ℤ m) ≤ℤ limit n d u
  pub most : (k : ℤ) → (pos (2 * d) *ℤ (pos u *ℤ k)) ≤ℤ limit n d u → (pos u *ℤ k) ≤ℤ m
