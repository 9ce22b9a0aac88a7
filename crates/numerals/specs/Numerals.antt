-- TAPE 4, numbers: what bytes say as a number. It stops rising at a given one, so that a number too big for its field is out of its range.
use Rattle.std.specs.Prelude.{ℕ, ◌+◌, ◌-◌, ◌*◌, Bool, true, false, not, cond, List, [], ◌∷◌, leb, ltb, eqb, Option, Some, None}

-- the bytes 48 to 57
unfoldable pub is_digit : ℕ → Bool
is_digit b = cond (ltb b 48) false (ltb b 58)

-- one digit more, stopping at most
unfoldable pub risen : ℕ → ℕ → ℕ → ℕ
risen most n b = cond (leb (n * 10 + (b - 48)) most) (n * 10 + (b - 48)) most

-- digits behind a number
unfoldable pub number_from : ℕ → ℕ → List ℕ → Option ℕ
number_from most n [] = Some n
number_from most n (b ∷ s) = cond (is_digit b) (number_from most (risen most n b) s) None

-- some bytes, and no needless leading zero
unfoldable pub opens : List ℕ → Bool
opens [] = false
opens (b ∷ []) = true
opens (b ∷ c ∷ s) = not (eqb b 48)

unfoldable pub number : ℕ → List ℕ → Option ℕ
number most s = cond (opens s) (number_from most 0 s) None

-- what a number gives, or what stands for none
abbrev pub given : {A : Type 0} → A → Option ℕ → (ℕ → A) → A
given none (Some n) behind = behind n
given none None behind = none
