-- The head of a tag at a place: what is asked of it at once where only a right one is of interest, and what is known where it stands.
--     stands    the bytes of the tag's field are there, the tag stands there, and its length
--     Stood     so the head earns no number, and the field is that of the body
-- Assumes nothing.
use Rattle.std.specs.Prelude.{ℕ, ◌+◌, ◌<◌, ◌≤◌, ◌≡◌, Bool, true, false, List, leb, eqb, length, get_or, take, drop}
use Rattle.std.proofs.Common.{sym, ◌∙◌, arith, get_or-drop, get_or-take}
use borrow.Author.Tests.{leb-true, eqb-true, lt-leb, le-leb, ne_eqb, eq-eqb}
use Rattle.wire.specs.Big.{be2_at, be4_at}
use Rattle.field.specs.declared.Field.{Field}
use Rattle.field.specs.Judging.{both, alone, judge}
use Rattle.field.specs.Layout.{tag_right, length_of, size_of, field_of}
use Rattle.field.specs.Said.{gives, settled}
use Rattle.field.specs.Reading.{remaining, body_at, shape_at, read_field}
use Rattle.field.specs.laws.Field.{both_true, Headed, head-fine, shape-fine, read-judged}

unfoldable pub stands : List ℕ → ℕ → ℕ → Bool
stands s at tag =
    both (leb (size_of tag) (remaining s at))
    (both (eqb (get_or s at 0) tag) (eqb (be2_at s (at + 1)) (length_of tag)))

-- the three tests one after the other, as the code has them
module _ (s : List ℕ) (at tag : ℕ) {rest size : ℕ} (r : rest ≡ remaining s at) (z : size ≡ size_of tag) where
  pub stands-short : rest < size → false ≡ stands s at tag
  unfolding stands both
  stands-short h = simp (lt-leb (size_of tag) (remaining s at) (omega (arith, h, r, z)))

  module _ (h : size ≤ rest) where
    pub stands-other : (get_or s at 0 ≡ tag → ⊥) → false ≡ stands s at tag
    unfolding stands both
    stands-other n = simp (le-leb (size_of tag) (remaining s at) (omega (arith, h, r, z)), ne_eqb (get_or s at 0) tag n)

    pub stands-told : get_or s at 0 ≡ tag → {m n : ℕ} → m ≡ be2_at s (at + 1) → n ≡ length_of tag → eqb m n ≡ stands s at tag
    unfolding stands both
    stands-told t m n = simp (le-leb (size_of tag) (remaining s at) (omega (arith, h, r, z)), eq-eqb (get_or s at 0) tag t, m, n)

-- where it stands, its bytes are in the sheet
pub stands-whole : (s : List ℕ) (at tag : ℕ) {t : Bool} → t ≡ stands s at tag → t ≡ true → at + size_of tag ≤ length s
unfolding stands
stands-whole s at tag e h = omega (arith, leb-true (size_of tag) (remaining s at) (both_true (leb (size_of tag) (remaining s at)) _ (sym e ∙ h)).0)

pub record Stood (s : List ℕ) (at tag : ℕ) : Type 0 where
  pub tagged : get_or s at 0 ≡ tag
  pub head : Headed s at tag

pub stood : (s : List ℕ) (at tag : ℕ) → tag_right tag ≡ true → stands s at tag ≡ true → Stood s at tag
unfolding stands
stood s at tag right e =
    let u = both_true (leb (size_of tag) (remaining s at)) _ e in
    let v = both_true (eqb (get_or s at 0) tag) _ u.1 in
    let room = leb-true (size_of tag) (remaining s at) u.0 in
    record {
      tagged = eqb-true _ tag v.0;
      head = record { some = omega (arith, room); tagged = right; told = eqb-true _ (length_of tag) v.1; whole = omega (arith, room) };
    }

-- the field of a tag's body
abbrev pub field_at : List ℕ → ℕ → ℕ → Field
field_at s at tag = field_of tag (body_at s at tag)

pub stood-shape : (s : List ℕ) (at tag : ℕ) → Stood s at tag → shape_at s at ≡ gives (field_at s at tag) (at + size_of tag)
stood-shape s at tag h = rw h.tagged at (shape-fine s at (rw h.tagged (head-fine s at tag h.head)))

-- the bytes of the body are those behind the head
body-byte : (s : List ℕ) (at n k : ℕ) → k < n → get_or (take n (drop (at + 3) s)) k 0 ≡ get_or s (at + 3 + k) 0
body-byte s at n k l = get_or-take n (drop (at + 3) s) k 0 l ∙ get_or-drop (at + 3) s k 0

-- so is the number of its first four, a record's time or an end's count; its first byte, a header's metal or a close's instrument; a header's marks
-- and third value; and its fifth, a record's instrument
pub body-number : (s : List ℕ) (at n : ℕ) → 4 ≤ n → be4_at (take n (drop (at + 3) s)) 0 ≡ be4_at s (at + 3)
body-number s at n h =
    let none : at + 3 + 0 ≡ at + 3 = omega arith in
    rw (body-byte s at n 0 (omega arith), none, body-byte s at n 1 (omega arith), body-byte s at n 2 (omega arith), body-byte s at n 3 (omega arith))

pub body-first : (s : List ℕ) (at n : ℕ) → 1 ≤ n → get_or (take n (drop (at + 3) s)) 0 0 ≡ get_or s (at + 3) 0
body-first s at n h = let none : at + 3 + 0 ≡ at + 3 = omega arith in body-byte s at n 0 (omega arith) ∙ rw none

pub body-second : (s : List ℕ) (at n : ℕ) → 3 ≤ n → be2_at (take n (drop (at + 3) s)) 1 ≡ be2_at s (at + 4)
body-second s at n h =
    let one : at + 3 + 1 ≡ at + 4 = omega arith in
    let two : at + 3 + 2 ≡ at + 4 + 1 = omega arith in
    rw (body-byte s at n 1 (omega arith), one, body-byte s at n 2 (omega arith), two)

pub body-fourth : (s : List ℕ) (at n : ℕ) → 4 ≤ n → get_or (take n (drop (at + 3) s)) 3 0 ≡ get_or s (at + 6) 0
body-fourth s at n h = let three : at + 3 + 3 ≡ at + 6 = omega arith in body-byte s at n 3 (omega arith) ∙ rw three

pub body-fifth : (s : List ℕ) (at n : ℕ) → 5 ≤ n → get_or (take n (drop (at + 3) s)) 4 0 ≡ get_or s (at + 7) 0
body-fifth s at n h = let four : at + 3 + 4 ≡ at + 7 = omega arith in body-byte s at n 4 (omega arith) ∙ rw four

pub stood-read : (s : List ℕ) (at tag : ℕ) → Stood s at tag → read_field s at ≡ settled (judge alone (field_at s at tag)) at (field_at s at tag) (at + size_of tag)
stood-read s at tag h = read-judged s at _ _ (stood-shape s at tag h)
