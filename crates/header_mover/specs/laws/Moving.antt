-- Words for a moved sheet as the code makes it: an accepted sheet, how long a header is, that there is room, and the numbers of a move in their order.
-- proofs/Moving has the laws.
use Rattle.std.specs.Prelude.{ℕ, ◌≤◌, Bool, ◌≡◌, leb, length}
use mathlib.Core.List.{List}
use Rattle.wire.specs.Big.{Bytes}
use Rattle.field.specs.declared.Form.{Form}
use Rattle.field.specs.Judging.{fine, unless, also}
use Rattle.field.specs.Layout.{form_tag, size_of}
use Rattle.sheet.specs.declared.Day.{Day}
use Rattle.sheet.specs.Fields.{fields_of}
use Rattle.sheet.specs.Judgement.{accepts, judge_sheet}
use Rattle.header_mover.specs.Moving.{moved_bytes}

-- a sheet that is accepted
pub record Accepted (s : List ℕ) (day : Day) : Type 0 where
  pub bytes : Bytes s
  pub judged : judge_sheet s ≡ accepts day

-- how many bytes a header of a form has
abbrev pub header_size : Form → ℕ
header_size form = size_of (form_tag form)

-- there is room for the moved sheet
pub record Fitting (s b : List ℕ) (day : Day) (wanted : Form) : Type 0 where
  pub accepted : Accepted s day
  pub room : length (moved_bytes wanted (fields_of s)) ≤ length b

-- the numbers of a move in their order
abbrev pub move_number : Bool → ℕ → ℕ → ℕ
move_number can len room = also (unless can 19 fine) (also (unless (leb len 1048576) 1 fine) (unless (leb len room) 16 fine))
