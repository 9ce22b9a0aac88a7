-- TAPE 5 and 6: the sheet of a text, and the text of a sheet.
use Rattle.std.specs.Prelude.{ℕ, ◌+◌, cond, List, [], ◌∷◌, ◌++◌, eqb, leb, length, Option, Some, None}
use Rattle.field.specs.declared.Field.{Field}
use Rattle.field.specs.declared.Field.TheVariants as F
use Rattle.admit.specs.declared.Progress.{Progress}
use Rattle.admit.specs.Admitting.{start, Step, goes, ends, stops, admit}
use Rattle.sheet.specs.Fields.{fields_of, encode}
use Rattle.sheet.specs.Judgement.{Verdict, judge_sheet}
use Rattle.items.specs.Items.{first, rest}
use Rattle.line_reader.specs.Lines.{field_in, line_of}
use Rattle.filled_buffer.specs.Filling.{Made, made, refused, of_sheet, within_limit, in_room}

-- ---- TAPE 5, the lines of a text

-- what lines say: their fields; or that one is bad, with a number of the table and which line it is
pub data LinesSay : Type 0 where
  tells : List Field → LinesSay
  bad : ℕ → ℕ → LinesSay

-- a field before those of the later lines
abbrev pub with : Field → LinesSay → LinesSay
with f (tells fs) = tells (f ∷ fs)
with f (bad number line) = bad number line

-- `admit` gives 1 where its count reaches the limit, and a text has 1 behind all lines: the count that it is asked with stops below. Such a text has no
-- sheet within the limit, so nothing else changes
unfoldable pub capped : Progress → Progress
capped p = cond (leb p.count 1048575) p (record { stage = p.stage; metal = p.metal; marks = p.marks; form = p.form; instrument = p.instrument; time = p.time; count = 1048575 })

-- 5 to 11 and 18 by what `admit` says of the line's field; no line says an end
unfoldable pub onward : ℕ → Field → Step → (Progress → LinesSay) → LinesSay
onward line f (goes q) later = with f (later q)
onward line f ends later = bad 17 line
onward line f (stops number) later = bad number line

-- 17 before all: a line is read wholly, then placed
unfoldable pub say_line : ℕ → Progress → Option Field → (Progress → LinesSay) → LinesSay
say_line line p (Some f) later = onward line f (admit (capped p) f) later
say_line line p None later = bad 17 line

-- what stands behind the last line feed is no line: 17 where it is a byte or more. No METAL line at all: 5 at line 1
unfoldable pub at_last : ℕ → Progress → ℕ → LinesSay
at_last line p size = cond (eqb size 0) (cond (eqb p.stage 0) (bad 5 1) (tells [])) (bad 17 line)

-- line after line, the first that is bad decides; the last piece is what stands behind the last line feed
unfoldable pub say_lines : ℕ → Progress → List ℕ → List (List ℕ) → LinesSay
say_lines line p l [] = at_last line p (length l)
say_lines line p l (m ∷ ls) = say_line line p (field_in l) (λ q. say_lines (line + 1) q m ls)

-- TAPE 1: a line feed behind each line; lines are counted from 1
abbrev pub text_says : List ℕ → LinesSay
text_says text = say_lines 1 start (first 10 text) (rest 10 text)

-- ---- the bytes that are made

-- TAPE 5: the bytes of the fields, and a right end behind them
abbrev pub sheet_of : List Field → List ℕ
sheet_of fs = encode (fs ++ F.End (length fs) ∷ [])

-- behind all lines 1 at place 0, for a sheet over the limit
unfoldable pub sheet_made : LinesSay → Made
sheet_made (tells fs) = within_limit (sheet_of fs)
sheet_made (bad number line) = refused number line

-- TAPE 6: a line for each field, with its line feed; an end has none
unfoldable pub line_text : Field → List ℕ
line_text (F.Header metal marks form) = line_of (F.Header metal marks form) ++ 10 ∷ []
line_text (F.PreviousClose instrument p) = line_of (F.PreviousClose instrument p) ++ 10 ∷ []
line_text (F.Trade time instrument p lots) = line_of (F.Trade time instrument p lots) ++ 10 ∷ []
line_text (F.Quote time instrument sides bid offer) = line_of (F.Quote time instrument sides bid offer) ++ 10 ∷ []
line_text (F.End count) = []

unfoldable pub text_of : List Field → List ℕ
text_of [] = []
text_of (f ∷ fs) = line_text f ++ text_of fs

-- the sheet's own refusal at its byte, else the text of its fields
abbrev pub text_made : List Field → Verdict → Made
text_made fs v = of_sheet v (λ day. made (text_of fs))

-- both directions, into a buffer of so many bytes; behind all else 16 at place 0, where there is no room
abbrev pub tape_to_sheet : ℕ → List ℕ → Made
tape_to_sheet room text = in_room room (sheet_made (text_says text))

abbrev pub sheet_to_tape : ℕ → List ℕ → Made
sheet_to_tape room sheet = in_room room (text_made (fields_of sheet) (judge_sheet sheet))
