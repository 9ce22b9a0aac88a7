-- What a turn of a walk says: what the reader says, how long the body is, and the place a step further.
use Rattle.std.specs.Prelude.{ℕ, List, length}
use Rattle.field.specs.declared.Field.{Field}
use Rattle.field.specs.Said.{Said, read_says}
use Rattle.field_walker.specs.declared.Turn.{Turn}

pub record Turned : Type 0 where
  pub said : Said Field
  pub length : ℕ
  pub next : ℕ

abbrev pub turn_says : Turn → Turned
turn_says t = record { said = read_says t.read; length = t.length; next = t.next }

abbrev pub turned : Said Field → List ℕ → ℕ → Turned
turned said body next = record { said = said; length = length body; next = next }
