-- A field's bytes and its shape, both ways round, at any place of a sheet.
--     shape-there    where a field's bytes stand, its shape is given; body-there: and its body stands
--     shape-stands   where a shape is given, the field's bytes stand
-- Assumes nothing.
use Rattle.std.specs.Prelude.{ℕ, ◌+◌, ◌≤◌, ◌≡◌, refl, true, List, ◌∷◌, ◌++◌, length, get_or, take, drop}
use Rattle.std.proofs.Common.{sym, ap, ◌∙◌, add_assoc, add-one, arith, length-append, get_or-append-add, take_at, drop-drop, take-add}
use Rattle.std.proofs.Math.Seq.{get_or-append_seam, drop-append-add}
use Rattle.wire.specs.Big.{be2_at, bytes2, Bytes}
use Rattle.wire.specs.laws.Trips.{be2-bytes2, bytes2-at, bytes-part}
use Rattle.field.specs.declared.Form.TheVariants.{Short, Long}
use Rattle.field.specs.declared.Field.{Field}
use Rattle.field.specs.declared.Field.TheVariants.{Header, PreviousClose, Trade, Quote, End}
use Rattle.field.specs.Judging.{both}
use Rattle.field.specs.Layout.{tag_right, length_of, tag_of, head_bytes, body_bytes, field_bytes, size_of}
use Rattle.field.specs.Said.{gives}
use Rattle.field.specs.Reading.{body_at, shape_by, shape_at}
use Rattle.field.specs.Writing.{field_size}
use Rattle.field.specs.laws.Field.{Headed, head-fine, settled-fine, shaped, body-long, body-length}
use Rattle.trips.specs.Held.{Held}
use Rattle.trips.specs.laws.Bodies.{values-back, row-part, sized, bytes_back}

-- ---- bytes, then shape

-- a field's tag is one
pub tag-right : (f : Field) → tag_right (tag_of f) ≡ true
unfolding tag_of both
tag-right (Header metal marks Short) = refl
tag-right (Header metal marks (Long third)) = refl
tag-right (PreviousClose instrument price) = refl
tag-right (Trade time instrument price lots) = refl
tag-right (Quote time instrument sides bid offer) = refl
tag-right (End count) = refl

-- where a field's bytes stand behind the bytes p, its body stands behind its head
pub body-there : (p r : List ℕ) (f : Field) → body_at (p ++ (field_bytes f ++ r)) (length p) (tag_of f) ≡ body_bytes f
body-there p r f = simp drop-append-add (take_at (body_bytes f) r _ (body-length f))

-- and its shape is given there: the same values, and the place behind them
pub shape-there : (p r : List ℕ) (f : Field) → Held f → shape_at (p ++ (field_bytes f ++ r)) (length p) ≡ gives f (length p + field_size f)
unfolding shape_at
shape-there p r f h =
    let s = p ++ (field_bytes f ++ r) in
    let at = length p in
    let n : length s ≡ length p + (3 + (length_of (tag_of f) + length r)) = simp (length-append, body-length f) (omega arith) in
    let tag : get_or s at 0 ≡ tag_of f = get_or-append_seam p _ _ 0 in
    let told : be2_at s (at + 1) ≡ length_of (tag_of f) = simp (add_assoc, get_or-append-add) (be2-bytes2 _ (sized (tag_of f) (tag-right f)).small) in
    let head : Headed s at (tag_of f) = record { some = omega arith; tagged = tag-right f; told = told; whole = omega arith } in
    ap (shape_by s at) tag ∙ settled-fine _ at _ _ (head-fine s at (tag_of f) head) ∙ simp (body-there p r f, values-back f h)

-- ---- shape, then bytes

-- a head and the body behind it are the bytes of the sheet from the place on
head-stands : (s : List ℕ) (at : ℕ) → Bytes s → Headed s at (get_or s at 0) → head_bytes (get_or s at 0) ++ body_at s at (get_or s at 0) ≡ take (size_of (get_or s at 0)) (drop at s)
head-stands s at b h =
    let tag = get_or s at 0 in
    let head : head_bytes tag ≡ take 3 (drop at s) =
    ap (λ (n : ℕ). tag ∷ bytes2 n) (sym h.told)
    ∙ ap (λ (l : List ℕ). tag ∷ l) (bytes2-at s b (at + 1))
    ∙ simp add-one (row-part 3 at s (omega (arith, h.some))) in
    ap (λ (l : List ℕ). l ++ body_at s at tag) head
    ∙ ap (λ (l : List ℕ). take 3 (drop at s) ++ take (length_of tag) l) (sym (drop-drop 3 at s))
    ∙ sym (take-add 3 (length_of tag) (drop at s))

-- a field whose bytes stand in a sheet from a place on, up to the next
pub record Stands (s : List ℕ) (at : ℕ) (f : Field) (next : ℕ) : Type 0 where
  pub bytes : field_bytes f ≡ take (field_size f) (drop at s)
  pub behind : at + field_size f ≡ next
  pub inside : next ≤ length s

-- what has its shape stands there byte for byte
pub shape-stands : (s : List ℕ) (at : ℕ) (f : Field) (next : ℕ) → Bytes s → shape_at s at ≡ gives f next → Stands s at f next
shape-stands s at f next b e =
    let tag = get_or s at 0 in
    let h = shaped s at f next e in
    let body = body_at s at tag in
    let back = bytes_back tag body (bytes-part s b (length_of tag) (at + 3)) h.head.tagged (body-long s at tag h.head) in
    let same : tag_of f ≡ tag = ap tag_of (sym h.values) ∙ back.0 in
    let again : body_bytes f ≡ body = ap body_bytes (sym h.values) ∙ back.1 in
    record {
      bytes = simp (same, again) (head-stands s at b h.head);
      behind = ap (λ (t : ℕ). at + size_of t) same ∙ h.behind;
      inside = omega (arith, h.behind, h.head.whole);
    }
