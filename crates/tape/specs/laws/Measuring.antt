-- What judging a text finds out before a byte is written: the bytes of its fields, or the first bad line. Assumes nothing.
use Rattle.std.specs.Prelude.{ℕ, ◌+◌, ◌≤◌, ◌<◌, ◌≡◌, refl, List, [], ◌∷◌, ◌++◌, min, length}
use Rattle.std.proofs.Common.{sym, ap, ◌∙◌, append_assoc, append-nil, arith, length-append, Fits}
use Rattle.std.specs.Int.{w64}
use Rattle.field.specs.declared.Form.TheVariants.{Short, Long}
use Rattle.field.specs.declared.Field.{Field}
use Rattle.field.specs.declared.Field.TheVariants as F
use Rattle.field.specs.Layout.{size_of, tag_of, field_bytes, body_bytes}
use Rattle.field.specs.laws.Field.{field-length}
use Rattle.sheet.specs.Fields.{encode}
use Rattle.field.specs.Said.{Said, gives, refuses}
use Rattle.tape.specs.Tape.{LinesSay, tells, bad, with, sheet_of}

-- a number that stops at one above the limit
abbrev pub stop_at : ℕ → ℕ
stop_at n = min n 1048577

-- the bytes with a field more
abbrev pub grown : ℕ → Field → ℕ
grown bytes f = stop_at (bytes + size_of (tag_of f))

-- so many bytes, and those of the fields that lines say
abbrev pub measured : ℕ → LinesSay → Said (Unit {0})
measured bytes (tells fs) = gives tt (stop_at (bytes + length (encode fs)))
measured bytes (bad number line) = refuses number line

-- ---- stopping

pub within : (n : ℕ) → n ≤ 1048577 → stop_at n ≡ n
within n h = omega arith

pub beyond : (n : ℕ) → 1048577 ≤ n → stop_at n ≡ 1048577
beyond n h = omega arith

pub stop-most : (n : ℕ) → stop_at n ≤ 1048577
stop-most n = omega arith

stop-twice : (n k : ℕ) → stop_at (stop_at n + k) ≡ stop_at (n + k)
stop-twice n k = omega arith

-- a field more is its bytes more
pub measured-with : (bytes : ℕ) (f : Field) (t : LinesSay) → measured bytes (with f t) ≡ measured (grown bytes f) t
unfolding encode
measured-with bytes f (tells fs) =
    ap (gives tt) (omega (arith, length-append (field_bytes f) (encode fs), field-length f))
measured-with bytes f (bad number line) = refl

pub measured-none : (bytes : ℕ) → bytes ≤ 1048577 → gives tt bytes ≡ measured bytes (tells [])
unfolding encode
measured-none bytes h = ap (gives tt) (omega arith)

-- ---- as the code adds a field's bytes

size_small : (f : Field) → size_of (tag_of f) ≤ 17
unfolding tag_of
size_small (F.Header metal marks Short) = omega arith
size_small (F.Header metal marks (Long third)) = omega arith
size_small (F.PreviousClose instrument p) = omega arith
size_small (F.Trade time instrument p lots) = omega arith
size_small (F.Quote time instrument sides bid offer) = omega arith
size_small (F.End count) = omega arith

module _ (bytes : ℕ) (f : Field) (t n : ℕ) (e : t ≡ tag_of f) (q : n ≡ size_of t) where
  is-size : n ≡ size_of (tag_of f)
  is-size = q ∙ ap (λ (v : ℕ). size_of v) e

  pub grown-fits : bytes < 4294967296 → Fits w64 (bytes + n)
  grown-fits h = record { fits = omega (arith, is-size, size_small f) }

  pub grown-low : bytes + n ≤ 1048577 → bytes + n ≡ grown bytes f
  grown-low h = omega (arith, is-size)

  pub grown-high : 1048577 < bytes + n → 1048577 ≡ grown bytes f
  grown-high h = omega (arith, is-size)

-- ---- the bytes of fields

-- a field has a byte or more
pub encode-long : (fs : List Field) → length fs ≤ length (encode fs)
unfolding encode
encode-long [] = omega arith
encode-long (f ∷ fs) = omega (arith, length-append (field_bytes f) (encode fs), field-length f, encode-long fs)

pub encode-join : (fs gs : List Field) → encode (fs ++ gs) ≡ encode fs ++ encode gs
unfolding encode
encode-join [] gs = refl
encode-join (f ∷ fs) gs = ap (λ (v : List ℕ). field_bytes f ++ v) (encode-join fs gs) ∙ sym (append_assoc (field_bytes f) (encode fs) (encode gs))

pub encode_one : (fs : List Field) (f : Field) → encode (fs ++ f ∷ []) ≡ encode fs ++ field_bytes f
unfolding encode
encode_one fs f = encode-join fs (f ∷ []) ∙ ap (λ (v : List ℕ). encode fs ++ v) (append-nil (field_bytes f))

-- ---- the whole sheet

pub end-long : (n : ℕ) → length (field_bytes (F.End n)) ≡ 7
unfolding body_bytes tag_of
end-long n = refl

pub sheet-long : (fs : List Field) (n : ℕ) → length (encode (fs ++ F.End n ∷ [])) ≡ length (encode fs) + 7
sheet-long fs n = ap length (encode_one fs (F.End n)) ∙ length-append (encode fs) (field_bytes (F.End n)) ∙ ap (λ (k : ℕ). length (encode fs) + k) (end-long n)

bytes-are : (a b : ℕ) → ◌≡◌ {A = Said (Unit {0})} (gives tt a) (gives tt b) → a ≡ b
bytes-are a b e = cc

-- the bytes that were measured say whether the sheet, its end with it, is within the limit, and how long it is
module _ (fs : List Field) (bytes : ℕ) (e : gives tt bytes ≡ measured 0 (tells fs)) where
  stopped : bytes ≡ stop_at (0 + length (encode fs))
  stopped = bytes-are _ _ e

  pub measured-low : bytes ≤ 1048569 → length (sheet_of fs) ≡ bytes + 7
  measured-low h = omega (arith, stopped, sheet-long fs (length fs))

  pub measured-high : 1048569 < bytes → 1048576 < length (sheet_of fs)
  measured-high h = omega (arith, stopped, sheet-long fs (length fs))
