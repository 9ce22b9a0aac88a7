-- SHEET 8, walking: a reader that holds the lent sheet and its place, and goes by what `read_field` says of that place.
use Rattle.std.specs.Prelude.{ℕ, List}
use Rattle.std.specs.Borrow.{Bor}
use Rattle.field.specs.declared.Field.{Field}
use Rattle.field.specs.Said.{Said, gives, refuses}
use Rattle.field.specs.Reading.{read_field, body_of}
use Rattle.field_walker.specs.declared.Walker.{Walker}
use Rattle.field_walker.specs.Said.{Turned, turned}

-- the place behind the field that was read; the place asked for where it was refused
abbrev pub behind : ℕ → Said Field → ℕ
behind at (gives f next) = next
behind at (refuses number place) = at

unfoldable pub place_after : List ℕ → ℕ → ℕ
place_after s at = behind at (read_field s at)

-- a walker at a place, and its place; what it sees there, and the body; and the walker a step further
abbrev pub standing : Bor (List ℕ) → ℕ → Walker
standing sheet at = record { sheet = sheet; at = at }

abbrev pub placed : Walker → ℕ
placed w = w.at

abbrev pub looked : Walker → Said Field
looked w = read_field w.sheet.now w.at

abbrev pub bodied : Walker → List ℕ
bodied w = body_of w.sheet.now w.at

abbrev pub stepped : Walker → Walker
stepped w = standing w.sheet (place_after w.sheet.now w.at)

-- one turn of a walk
abbrev pub turn_at : List ℕ → ℕ → Turned
turn_at s at = turned (read_field s at) (body_of s at) (place_after s at)
