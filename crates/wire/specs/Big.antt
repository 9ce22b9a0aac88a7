-- SHEET 1, numbers: big-endian, and prices signed 32-bit cents in two's complement.
use Rattle.std.specs.Prelude.{ℕ, ◌+◌, ◌*◌, ◌/◌, ◌%◌, ◌<◌, cond, List, [], ◌∷◌, ◌++◌, leb, ℤ, length, get_or, drop}
use Rattle.std.specs.Int.{w32}
use Rattle.std.proofs.Common.{to_z, of_z}

-- the number of two bytes, and of four: the first byte counts most
abbrev pub be2 : ℕ → ℕ → ℕ
be2 a b = a * 256 + b

abbrev pub be4 : ℕ → ℕ → ℕ → ℕ → ℕ
be4 a b c d = a * 16777216 + b * 65536 + c * 256 + d

-- two's complement at 32 bits: the number of the bits, and the bits of a number
abbrev pub signed : ℕ → ℤ
signed n = to_z w32 n

abbrev pub bits : ℤ → ℕ
bits z = of_z w32 z

-- the numbers that stand at a place of a list of bytes
abbrev pub be2_at : List ℕ → ℕ → ℕ
be2_at s at = be2 (get_or s at 0) (get_or s (at + 1) 0)

abbrev pub be4_at : List ℕ → ℕ → ℕ
be4_at s at = be4 (get_or s at 0) (get_or s (at + 1) 0) (get_or s (at + 2) 0) (get_or s (at + 3) 0)

abbrev pub signed_at : List ℕ → ℕ → ℤ
signed_at s at = signed (be4_at s at)

-- the bytes of a number
abbrev pub bytes2 : ℕ → List ℕ
bytes2 n = n / 256 % 256 ∷ n % 256 ∷ []

abbrev pub bytes4 : ℕ → List ℕ
bytes4 n = n / 16777216 % 256 ∷ n / 65536 % 256 ∷ n / 256 % 256 ∷ n % 256 ∷ []

abbrev pub signed_bytes : ℤ → List ℕ
signed_bytes z = bytes4 (bits z)

-- bytes over the start of a part; a part too short for them stays as it is
unfoldable pub put : List ℕ → List ℕ → List ℕ
put bytes part = cond (leb (length bytes) (length part)) (bytes ++ drop (length bytes) part) part

-- each entry of the list is a byte, as each entry of a slice of bytes is
abbrev pub Bytes : List ℕ → Type 0
Bytes s = (i : ℕ) → get_or s i 0 < 256
