-- SHEET 9, what holds of the two moves, as it is stated. Moved and OldReader prove what stands here.
--     KeepsLaw                   a moved sheet is accepted, and its six answers are the same
--     NewAndBack, OldAndBack     moved there and back, either way, it is the sheet that it was
--     LongerLaw                  1 is given to the new header alone, from the longest sheets
--     judge_old                   what a reader that knows the short header alone says of a sheet
--     ReadLaw                    it accepts what was moved to the old header;  UnreadLaw    and refuses every accepted sheet that has the new one
use Rattle.std.specs.Prelude.{ℕ, zero, suc, ◌≤◌, ◌≡◌, cond, List, [], ◌∷◌, leb, eqb, length, get_or}
use Rattle.wire.specs.Big.{Bytes}
use Rattle.field.specs.declared.Form.{Form}
use Rattle.field.specs.declared.Form.TheVariants.{Short, Long}
use Rattle.field.specs.declared.Field.{Field}
use Rattle.field.specs.Judging.{unless}
use Rattle.field.specs.Said.{Said, refuses}
use Rattle.field.specs.Reading.{remaining, shape_at}
use Rattle.admit.specs.Admitting.{start}
use Rattle.sheet.specs.declared.Day.{Day}
use Rattle.sheet.specs.Fields.{behind, fields_of}
use Rattle.sheet.specs.Judgement.{Verdict, accepts, refuses-at, judge_reads, judge_sheet}
use Rattle.price_rules.specs.Closing.{Told, six, answers_of}
use Rattle.filled_buffer.specs.Filling.{made, refused}
use Rattle.header_mover.specs.Moving.{moved_of, moved, to_new, to_old}

-- ---- a moved sheet

-- what is told of the day, with a header of another form
abbrev pub day_in : Form → Day → Day
day_in form day = record { metal = day.metal; marks = day.marks; form = form; fields = day.fields }

-- both sheets are accepted, and their six answers are the same
pub record Keeps (wanted : Form) (s s' : List ℕ) : Type 0 where
  pub day : Day
  pub was-accepted : judge_sheet s ≡ accepts day
  pub accepted : judge_sheet s' ≡ accepts (day_in wanted day)
  pub answers : List Told
  pub was : answers_of s ≡ six day answers
  pub is-now : answers_of s' ≡ six (day_in wanted day) answers

-- for every move that is made, there or back
abbrev pub KeepsLaw : Type 0
KeepsLaw = (wanted : Form) (s s' : List ℕ) (room : ℕ) → moved wanted room s ≡ made s' → Keeps wanted s s'

-- ---- there and back

-- in a buffer that has room for the first sheet the way back is made, and gives its bytes
abbrev pub NewAndBack : Type 0
NewAndBack = (s s' : List ℕ) (room other : ℕ) → Bytes s → to_new room s ≡ made s' → length s ≤ other → to_old other s' ≡ made s

abbrev pub OldAndBack : Type 0
OldAndBack = (s s' : List ℕ) (room other : ℕ) → Bytes s → to_old room s ≡ made s' → length s ≤ other → to_new other s' ≡ made s

-- ---- the longer sheet

-- 1 behind the sheet's own number: to the new header alone, from a sheet that has as many bytes as a sheet may have
abbrev pub LongerLaw : Type 0
LongerLaw = (wanted : Form) (s : List ℕ) (day : Day) → Bytes s → judge_sheet s ≡ accepts day → moved_of wanted (fields_of s) day ≡ refused 1 0 → (wanted ≡ Long 0) × (length s ≡ 1048576)

-- ---- a reader that knows the short header alone

-- tags 1 to 5: 6 is no tag to it, 3 where the head is whole
abbrev pub old_shape_at : List ℕ → ℕ → Said Field
old_shape_at s at = cond (eqb (get_or s at 0) 6) (refuses (unless (leb 3 (remaining s at)) 2 3) at) (shape_at s at)

-- field after field, as SHEET 5 has it
unfoldable pub old_reads_from : ℕ → List ℕ → ℕ → List (Said Field)
old_reads_from zero s at = []
old_reads_from (suc k) s at = old_shape_at s at ∷ behind (old_shape_at s at) (old_reads_from k s)

unfoldable pub judge_old : List ℕ → Verdict
judge_old s = cond (leb (length s) 1048576) (judge_reads (length s) 0 start (old_reads_from (suc (length s)) s 0)) (refuses-at 1 0)

-- what was moved to the old header it accepts, with the same metal, marks and number of fields
abbrev pub ReadLaw : Type 0
ReadLaw = (s s' : List ℕ) (room : ℕ) → to_old room s ≡ made s' → (day : Day) × (judge_sheet s ≡ accepts day) × (judge_old s' ≡ accepts (day_in Short day))

-- and what has the new one it refuses at its first byte
abbrev pub UnreadLaw : Type 0
UnreadLaw = (s : List ℕ) (day : Day) (third : ℕ) → Bytes s → judge_sheet s ≡ accepts day → day.form ≡ Long third → judge_old s ≡ refuses-at 3 0
