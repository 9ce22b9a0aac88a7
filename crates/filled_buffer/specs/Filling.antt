-- SHEET 9, TAPE 5 and 6: bytes that are made, the limit of a sheet, and the lent buffer.
use Rattle.std.specs.Prelude.{ℕ, cond, List, leb, length}
use Rattle.text.specs.Over.{over}
use Rattle.field.specs.Said.{Said, gives, refuses}
use Rattle.sheet.specs.declared.Day.{Day}
use Rattle.sheet.specs.Judgement.{Verdict, accepts, refuses-at}

-- bytes; or no, with a number of the table and a place
pub data Made : Type 0 where
  made : List ℕ → Made
  refused : ℕ → ℕ → Made

-- what is made of a sheet: its own refusal at its byte, before all else
unfoldable pub of_sheet : Verdict → (Day → Made) → Made
of_sheet (accepts day) make = make day
of_sheet (refuses-at number byte) make = refused number byte

-- a sheet that is made: 1 at place 0, where it is over the limit
abbrev pub within_limit : List ℕ → Made
within_limit s = cond (leb (length s) 1048576) (made s) (refused 1 0)

-- behind all else 16 at place 0, where there is no room
unfoldable pub in_room : ℕ → Made → Made
in_room room (made s) = cond (leb (length s) room) (made s) (refused 16 0)
in_room room (refused number place) = refused number place

-- the bytes at the start of the buffer, all else as it was; a refusal changes nothing
abbrev pub buffer_with : List ℕ → Made → List ℕ
buffer_with b (made s) = over b 0 s
buffer_with b (refused number place) = b

-- ---- what the answer says: the place behind what was put, which starts at 0; or the refusal

abbrev pub filled : Made → Said (Unit {0})
filled (made s) = gives tt (length s)
filled (refused number place) = refuses number place
