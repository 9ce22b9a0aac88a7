-- A rule of a table, proved at every place by one test that is computed over the whole table.
-- Assumes nothing.
use Rattle.std.specs.Prelude.{ℕ, zero, suc, ◌≤◌, ◌<◌, ◌≡◌, Bool, true, false, T}
use Rattle.std.proofs.Common.{subst, not-suc-le-zero, arith}
use Rattle.std.proofs.Math.Decide.{dec_lt}

abbrev pub both : Bool → Bool → Bool
both true b = b
both false b = false

pub both_left : (a b : Bool) → T (both a b) → T a
both_left true b t = tt
both_left false b t = t

pub both_right : (a b : Bool) → T (both a b) → T b
both_right true b t = t
both_right false b t = absurd t

-- the test passes at each number below n
abbrev pub up_to : (ℕ → Bool) → ℕ → Bool
up_to f zero = true
up_to f (suc n) = both (f n) (up_to f n)

pub below : (f : ℕ → Bool) (n k : ℕ) → T (up_to f n) → k < n → T (f k)
below f zero k t h = absurd (not-suc-le-zero h)
below f (suc n) k t h = by_last (λ l. below f n k (both_right (f n) (up_to f n) t) l) (dec_lt k n)
  where
    by_last : (k < n → T (f k)) → Dec (k < n) → T (f k)
    by_last rest (yes l) = rest l
    by_last rest (no l) = let e : n ≡ k = omega arith in subst (λ (m : ℕ). T (f m)) e (both_left (f n) (up_to f n) t)

-- and so at each number from 1 to n, of a table that is counted from 1
pub from_one : (f : ℕ → Bool) (n k : ℕ) → T (up_to (λ m. f (suc m)) n) → 1 ≤ k → k ≤ n → T (f k)
from_one f n zero t l h = absurd (omega arith)
from_one f n (suc k) t l h = below (λ m. f (suc m)) n k t h
