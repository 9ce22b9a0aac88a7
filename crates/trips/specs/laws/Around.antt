-- Demand 2, both ways round: a field that was written is read back, and a field that was read is written as it stood. And the body that is
-- handed back: a field's own bytes, and empty exactly where the field is refused.
--     written_read, written-body   what was written is read back: the values, the place behind them, and the body
--     read-written                 what was read may be written wherever there is room, and puts the bytes that stood there
--     refused-empty, empty-refused an empty part where the field is refused, and nowhere else
-- Assumes nothing.
use Rattle.std.specs.Prelude.{ℕ, ◌+◌, ◌-◌, ◌≤◌, ◌≡◌, refl, List, [], length, get_or, take, drop}
use Rattle.std.proofs.Common.{ap, ◌∙◌, arith, length-drop, take-append-drop, length-take-le, drop-drop}
use Rattle.wire.specs.Big.{Bytes}
use Rattle.field.specs.declared.Field.{Field}
use Rattle.field.specs.Judging.{fine, alone}
use Rattle.field.specs.Layout.{tag_of, body_bytes, field_bytes}
use Rattle.field.specs.Said.{Said, gives, refuses}
use Rattle.field.specs.Reading.{body_at, shape_at, read_field, body_of}
use Rattle.field.specs.Writing.{field_size, write_number, written, over, buffer_after}
use Rattle.field.specs.laws.Field.{settled-fine, read-judged, shaped, read_ok, body-given, body-none, part-is, may_write, write-fine, written-fine}
use Rattle.trips.specs.Held.{Held, Counted}
use Rattle.trips.specs.laws.Held.{held}
use Rattle.trips.specs.laws.Bodies.{sized}
use Rattle.trips.specs.laws.Stands.{body-there, shape-there, shape-stands}

-- ---- written, then read

-- a field's bytes put over a buffer at a place of it: there the field's shape is given, and its body stands
module _ (b : List ℕ) (at : ℕ) (f : Field) (room : at ≤ length b) where
  here : length (take at b) ≡ at
  here = length-take-le at b room

  pub over-shape : Held f → shape_at (over b at (field_bytes f)) at ≡ gives f (at + field_size f)
  over-shape h = rw here at (shape-there (take at b) (drop (at + length (field_bytes f)) b) f h)

  pub over-body : body_at (over b at (field_bytes f)) at (tag_of f) ≡ body_bytes f
  over-body = rw here at (body-there (take at b) (drop (at + length (field_bytes f)) b) f)

-- what was written is read back: the same values, and the place behind them
pub written_read : (b : List ℕ) (at : ℕ) (f : Field) → Counted f → write_number (length b) at f ≡ fine → read_field (buffer_after b at f) at ≡ gives f (at + field_size f)
written_read b at f c e =
    let may = may_write (length b) at f e in
    rw (written-fine b at f e).1
    (read-judged _ at f _ (over-shape b at f (omega (arith, may.room)) (held alone f c may.right))
    ∙ settled-fine _ at f _ may.right)

-- and the body handed back is the field's own
pub written-body : (b : List ℕ) (at : ℕ) (f : Field) → Counted f → write_number (length b) at f ≡ fine → body_of (buffer_after b at f) at ≡ body_bytes f
written-body b at f c e =
    let may = may_write (length b) at f e in
    body-given _ at f _ (written_read b at f c e)
    ∙ part-is _ at (tag_of f)
    ∙ rw (written-fine b at f e).1 (over-body b at f (omega (arith, may.room)))

-- ---- read, then written

-- what stands in a list, put over itself, changes nothing
over-same : (s bytes : List ℕ) (at n : ℕ) → bytes ≡ take n (drop at s) → at + n ≤ length s → over s at bytes ≡ s
over-same s bytes at n e h =
    let size : length bytes ≡ n = ap length e ∙ length-take-le n (drop at s) (rw length-drop (omega arith)) in
    rw (size, e, ← drop-drop n at s, take-append-drop n (drop at s)) (take-append-drop at s)

-- a field's writing where the bytes from at up to next of the sheet s are its own
pub record Again (s : List ℕ) (at : ℕ) (f : Field) (next : ℕ) : Type 0 where
  -- wherever there is room: it is written, and puts the bytes of the sheet
  pub written-any : (b : List ℕ) (p : ℕ) → p + field_size f ≤ length b → written b p f ≡ gives tt (p + field_size f)
  pub bytes-any : (b : List ℕ) (p : ℕ) → p + field_size f ≤ length b → buffer_after b p f ≡ over b p (take (next - at) (drop at s))
  -- where it stood: it is written, and changes nothing
  pub written-here : written s at f ≡ gives tt next
  pub bytes-here : buffer_after s at f ≡ s

-- what was read is written as it stood
pub read-written : (s : List ℕ) (at : ℕ) (f : Field) (next : ℕ) → Bytes s → read_field s at ≡ gives f next → Again s at f next
read-written s at f next b e =
    let ok = read_ok s at f next e in
    let st = shape-stands s at f next b ok.shape in
    let may : (c : List ℕ) (p : ℕ) → p + field_size f ≤ length c → write_number (length c) p f ≡ fine = λ c p h. write-fine (length c) p f (record { right = ok.right; room = h }) in
    let room : at + field_size f ≤ length s = omega (arith, st.behind, st.inside) in
    let size : field_size f ≡ next - at = omega (arith, st.behind) in
    record {
      written-any = λ c p h. (written-fine c p f (may c p h)).0;
      bytes-any = λ c p h. (written-fine c p f (may c p h)).1 ∙ ap (over c p) (st.bytes ∙ ap (λ (n : ℕ). take n (drop at s)) size);
      written-here = (written-fine s at f (may s at room)).0 ∙ ap (λ (n : ℕ). gives tt n) st.behind;
      bytes-here = (written-fine s at f (may s at room)).1 ∙ over-same s (field_bytes f) at (field_size f) st.bytes room;
    }

-- ---- the body that is handed back

-- the field at a place is refused
pub record Refuses (s : List ℕ) (at : ℕ) : Type 0 where
  pub number : ℕ
  pub place : ℕ
  pub says : read_field s at ≡ refuses number place

-- where it is, the part is empty
pub refused-empty : (s : List ℕ) (at : ℕ) → Refuses s at → body_of s at ≡ []
refused-empty s at r = body-none s at r.number r.place r.says

-- where it is not, the part is as long as the body, and no body is empty
pub body-some : (s : List ℕ) (at : ℕ) (f : Field) (next : ℕ) → read_field s at ≡ gives f next → 1 ≤ length (body_of s at)
body-some s at f next e =
    let h = shaped s at f next (read_ok s at f next e).shape in
    let long : length (body_of s at) ≡ next - (at + 3) = ap length (body-given s at f next e) ∙ length-take-le (next - (at + 3)) (drop (at + 3) s) (rw length-drop (omega (arith, h.head.whole, h.behind))) in
    omega (arith, h.behind, (sized (get_or s at 0) h.head.tagged).some)

-- so an empty part says that the field is refused
pub empty-refused : (s : List ℕ) (at : ℕ) → body_of s at ≡ [] → Refuses s at
empty-refused s at e = by_read (read_field s at) refl
  where
    by_read : (x : Said Field) → read_field s at ≡ x → Refuses s at
    by_read (gives f next) r = absurd (omega (arith, body-some s at f next r, ap length e))
    by_read (refuses number place) r = record { number = number; place = place; says = r }
