-- SHEET 8, writing: one field put into the lent buffer from a place on.
use Rattle.std.specs.Prelude.{ℕ, ◌+◌, ◌-◌, cond, List, ◌++◌, leb, eqb, length, take, drop}
use Rattle.field.specs.declared.Field.{Field}
use Rattle.field.specs.Judging.{fine, unless, also, alone, judge}
use Rattle.field.specs.Layout.{tag_of, size_of, field_bytes}
use Rattle.field.specs.Said.{Said, settled}

-- the bytes that the field needs
abbrev pub field_size : Field → ℕ
field_size f = size_of (tag_of f)

-- first the values by themselves, 6 to 11; then the room, 16: len - at bytes are behind the place, none where it is past the buffer
unfoldable pub write_number : ℕ → ℕ → Field → ℕ
write_number len at f = also (judge alone f) (unless (leb (field_size f) (len - at)) 16 fine)

-- the place behind the field; a refusal gives the place as it was
unfoldable pub written : List ℕ → ℕ → Field → Said (Unit {0})
written b at f = settled (write_number (length b) at f) at tt (at + field_size f)

-- the bytes at the place, and all else as it was
abbrev pub over : List ℕ → ℕ → List ℕ → List ℕ
over b at bytes = take at b ++ (bytes ++ drop (at + length bytes) b)

-- the field's own bytes are changed and no others; a refusal changes none
unfoldable pub buffer_after : List ℕ → ℕ → Field → List ℕ
buffer_after b at f = cond (eqb (write_number (length b) at f) fine) (over b at (field_bytes f)) b
