-- A number in decimal: below 10 its digit, else the decimal of its tenth and then its last digit.
use Rattle.std.specs.Prelude.{ℕ, zero, suc, ◌+◌, ◌/◌, ◌%◌, List, [], ◌∷◌, ◌++◌, ltb, cond}

-- a digit as a byte
abbrev pub digit : ℕ → ℕ
digit d = 48 + d

-- in at most k digits
unfoldable pub decimal_in : ℕ → ℕ → List ℕ
decimal_in zero n = []
decimal_in (suc k) n = cond (ltb n 10) (digit n ∷ []) (decimal_in k (n / 10) ++ digit (n % 10) ∷ [])

-- 20 digits hold every u64
abbrev pub decimal : ℕ → List ℕ
decimal n = decimal_in 20 n
