-- Both round trips of a number on the wire: a number's bytes, joined, are the number; bytes that were joined are the number's bytes.
-- Assumes nothing.
use Rattle.std.specs.Prelude.{ℕ, zero, suc, ◌+◌, ◌/◌, ◌%◌, ◌≤◌, ◌<◌, ◌≡◌, refl, List, [], ◌∷◌, ◌++◌, ℤ, length, get_or, take, drop}
use Rattle.std.proofs.Common.{ap, ◌∙◌, zero-add, arith, le-leb, get_or-drop, SFits, to_z-of_z}
use Rattle.std.proofs.Math.Nat.{div-div-eq-div-mul}
use Rattle.std.proofs.lemmas.Bool.{lt-leb}
use Rattle.std.proofs.lemmas.List.Edits.{sets, sets-eq}
use Rattle.std.specs.Int.{w32}
use Rattle.std.proofs.Math.Facts.{of_z-to_z, Fits-of_z}
use Rattle.wire.specs.Big.{be2, be4, signed, bits, be2_at, be4_at, signed_at, bytes2, bytes4, signed_bytes, put, Bytes}

-- ---- value, bytes, value

pub be2-bytes2 : (n : ℕ) → n < 65536 → be2 (n / 256 % 256) (n % 256) ≡ n
be2-bytes2 n h = omega arith

digits : (n a b c : ℕ) → n / 256 ≡ a → a / 256 ≡ b → b / 256 ≡ c → c < 256 → be4 (c % 256) (b % 256) (a % 256) (n % 256) ≡ n
digits n a b c ea eb ec h = omega arith

pub be4-bytes4 : (n : ℕ) → n < 4294967296 → be4 (n / 16777216 % 256) (n / 65536 % 256) (n / 256 % 256) (n % 256) ≡ n
be4-bytes4 n h = digits n (n / 256) (n / 65536) (n / 16777216) refl (div-div-eq-div-mul n 256 256) (div-div-eq-div-mul n 65536 256) (omega arith)

pub signed-signed_bytes : (z : ℤ) → SFits w32 z → signed_at (signed_bytes z) 0 ≡ z
signed-signed_bytes z f = ap signed (be4-bytes4 (bits z) (Fits-of_z {w = w32} {z = z} f).fits) ∙ to_z-of_z f

-- ---- bytes, value, bytes

pub bytes2-be2 : (a b : ℕ) → a < 256 → b < 256 → bytes2 (be2 a b) ≡ a ∷ b ∷ []
bytes2-be2 a b ha hb =
    let e₀ : be2 a b / 256 % 256 ≡ a = omega arith in
    let e₁ : be2 a b % 256 ≡ b = omega arith in
    simp (e₀, e₁)

pub bytes4-be4 : (a b c d : ℕ) → a < 256 → b < 256 → c < 256 → d < 256 → bytes4 (be4 a b c d) ≡ a ∷ b ∷ c ∷ d ∷ []
bytes4-be4 a b c d ha hb hc hd =
    let e₀ : be4 a b c d / 16777216 % 256 ≡ a = omega arith in
    let e₁ : be4 a b c d / 65536 % 256 ≡ b = omega arith in
    let e₂ : be4 a b c d / 256 % 256 ≡ c = omega arith in
    let e₃ : be4 a b c d % 256 ≡ d = omega arith in
    simp (e₀, e₁, e₂, e₃)

-- ---- the same of a list of bytes, at a place

module _ (s : List ℕ) (h : Bytes s) (at : ℕ) where
  pub bytes2-at : bytes2 (be2_at s at) ≡ get_or s at 0 ∷ get_or s (at + 1) 0 ∷ []
  bytes2-at = bytes2-be2 _ _ (h at) (h (at + 1))

  pub bytes4-at : bytes4 (be4_at s at) ≡ get_or s at 0 ∷ get_or s (at + 1) 0 ∷ get_or s (at + 2) 0 ∷ get_or s (at + 3) 0 ∷ []
  bytes4-at = bytes4-be4 _ _ _ _ (h at) (h (at + 1)) (h (at + 2)) (h (at + 3))

  pub signed_bytes-at : signed_bytes (signed_at s at) ≡ get_or s at 0 ∷ get_or s (at + 1) 0 ∷ get_or s (at + 2) 0 ∷ get_or s (at + 3) 0 ∷ []
  signed_bytes-at =
      let f : be4_at s at < 4294967296 = omega (arith, h at, h (at + 1), h (at + 2), h (at + 3)) in
      ap bytes4 (of_z-to_z {w = w32} {n = be4_at s at} (record { fits = f })) ∙ bytes4-at

-- ---- a part of bytes is bytes

bytes_take : (n : ℕ) (l : List ℕ) → Bytes l → Bytes (take n l)
bytes_take zero l h i = omega arith
bytes_take (suc n) [] h i = omega arith
bytes_take (suc n) (x ∷ l) h zero = h 0
bytes_take (suc n) (x ∷ l) h (suc i) = bytes_take n l (λ j. h (suc j)) i

pub bytes-part : (s : List ℕ) → Bytes s → (n at : ℕ) → Bytes (take n (drop at s))
bytes-part s h n at = bytes_take n (drop at s) (λ i. rw get_or-drop (h (at + i)))

-- ---- the two cases of a put

pub put-fits : (bytes part : List ℕ) → length bytes ≤ length part → put bytes part ≡ bytes ++ drop (length bytes) part
unfolding put
put-fits bytes part h = simp (le-leb (length bytes) (length part) h)

-- bytes stored one after the other from the start on
pub put-stored : (bytes part : List ℕ) → length bytes ≤ length part → sets part 0 bytes ≡ put bytes part
put-stored bytes part h = sets-eq bytes part 0 (omega arith) ∙ simp (put-fits bytes part h, zero-add)

pub put-short : (bytes part : List ℕ) → length part < length bytes → put bytes part ≡ part
unfolding put
put-short bytes part h = simp (lt-leb (length bytes) (length part) h)
