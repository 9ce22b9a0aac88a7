-- The place behind what was put is in the buffer. Assumes nothing.
use Rattle.std.specs.Prelude.{ℕ, ◌+◌, ◌≤◌, ◌≡◌, refl, Bool, true, false, cond, List, length, Some, None}
use Rattle.std.proofs.Common.{arith, leb-true}
use Rattle.text.specs.Over.{fits, put_place}

-- a place is given only where there is room
next-in : (t : Bool) (m n : ℕ) → cond t (Some m) None ≡ Some n → (t ≡ true) × (m ≡ n)
next-in true m n e = (refl, cc)
next-in false m n e = let z : ◌≡◌ {A = ℕ} 0 1 = cc in absurd (omega arith)

pub next-counts : (b s : List ℕ) (at n : ℕ) → put_place b at s ≡ Some n → n ≤ length b
next-counts b s at n e =
    let k = next-in (fits b at s) (at + length s) n e in
    omega (arith, k.1, leb-true (at + length s) (length b) k.0)
