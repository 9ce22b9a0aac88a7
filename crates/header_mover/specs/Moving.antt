-- SHEET 9: a sheet with the other header.
use Rattle.std.specs.Prelude.{ℕ, Bool, not, cond, List, map, eqb}
use Rattle.field.specs.declared.Form.{Form}
use Rattle.field.specs.declared.Form.TheVariants.{Short, Long}
use Rattle.field.specs.declared.Field.{Field}
use Rattle.field.specs.declared.Field.TheVariants.{Header, PreviousClose, Trade, Quote, End}
use Rattle.field.specs.Judging.{both, third_of}
use Rattle.field.specs.Layout.{form_tag}
use Rattle.sheet.specs.declared.Day.{Day}
use Rattle.sheet.specs.Fields.{fields_of, encode}
use Rattle.sheet.specs.Judgement.{judge_sheet}
use Rattle.filled_buffer.specs.Filling.{Made, refused, of_sheet, within_limit, in_room}

-- the same field, a header in the wanted form: metal and marks stay, and of all other fields everything, the end's count with it
abbrev pub with_form : Form → Field → Field
with_form wanted (Header metal marks form) = Header metal marks wanted
with_form wanted (PreviousClose instrument price) = PreviousClose instrument price
with_form wanted (Trade time instrument price lots) = Trade time instrument price lots
with_form wanted (Quote time instrument sides bid offer) = Quote time instrument sides bid offer
with_form wanted (End count) = End count

-- the moved sheet: the bytes of the same fields
abbrev pub moved_bytes : Form → List Field → List ℕ
moved_bytes wanted fs = encode (map (with_form wanted) fs)

-- a header can get the wanted form: it has the other tag, and the wanted form says the same of 3M
abbrev pub movable : Form → Form → Bool
movable wanted form = both (not (eqb (form_tag form) (form_tag wanted))) (eqb (third_of form) (third_of wanted))

-- of an accepted sheet 19 at place 0, then 1 for the longer sheet
abbrev pub moved_of : Form → List Field → Day → Made
moved_of wanted fs day = cond (movable wanted day.form) (within_limit (moved_bytes wanted fs)) (refused 19 0)

-- into a buffer of so many bytes: the sheet's own refusal at its byte before these, and 16 behind them
abbrev pub moved : Form → ℕ → List ℕ → Made
moved wanted room s = in_room room (of_sheet (judge_sheet s) (moved_of wanted (fields_of s)))

-- the new header is the long one with the third value 0, the old one the short
abbrev pub to_new : ℕ → List ℕ → Made
to_new room s = moved (Long 0) room s

abbrev pub to_old : ℕ → List ℕ → Made
to_old room s = moved Short room s
