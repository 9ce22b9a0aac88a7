-- SHEET 8, reading: what stands at a place of a sheet.
use Rattle.std.specs.Prelude.{ℕ, ◌+◌, ◌-◌, List, [], leb, eqb, length, get_or, take, drop}
use Rattle.wire.specs.Big.{be2_at}
use Rattle.field.specs.declared.Field.{Field}
use Rattle.field.specs.Judging.{fine, unless, alone, judge}
use Rattle.field.specs.Layout.{tag_right, length_of, size_of, field_of}
use Rattle.field.specs.Said.{Said, gives, refuses, settled}

-- the bytes from a place on: none past the sheet's end
abbrev pub remaining : List ℕ → ℕ → ℕ
remaining s at = length s - at

-- SHEET 5, the head of a field: 2 where it is not whole; then by its tag (3), the length told (4) and the bytes that remain for the body (2)
abbrev pub tagged_number : ℕ → ℕ → ℕ → ℕ
tagged_number tag told rest =
    unless (tag_right tag) 3
    (unless (eqb told (length_of tag)) 4
    (unless (leb (size_of tag) rest) 2 fine))

unfoldable pub head_number : List ℕ → ℕ → ℕ → ℕ
head_number s at tag = unless (leb 3 (remaining s at)) 2 (tagged_number tag (be2_at s (at + 1)) (remaining s at))

-- the body of a tag's length behind the head of three bytes
abbrev pub body_at : List ℕ → ℕ → ℕ → List ℕ
body_at s at tag = take (length_of tag) (drop (at + 3) s)

-- the field at a place, its values not yet judged
abbrev pub shape_by : List ℕ → ℕ → ℕ → Said Field
shape_by s at tag = settled (head_number s at tag) at (field_of tag (body_at s at tag)) (at + size_of tag)

unfoldable pub shape_at : List ℕ → ℕ → Said Field
shape_at s at = shape_by s at (get_or s at 0)

-- then its values, by themselves
abbrev pub judged : ℕ → Said Field → Said Field
judged at (gives f next) = settled (judge alone f) at f next
judged at (refuses number place) = refuses number place

unfoldable pub read_field : List ℕ → ℕ → Said Field
read_field s at = judged at (shape_at s at)

-- the body as a part of the sheet: from behind the head to the place behind the field; where the field is refused, an empty part
abbrev pub part_of : List ℕ → ℕ → Said Field → List ℕ
part_of s at (gives f next) = take (next - (at + 3)) (drop (at + 3) s)
part_of s at (refuses number place) = []

unfoldable pub body_of : List ℕ → ℕ → List ℕ
body_of s at = part_of s at (read_field s at)
