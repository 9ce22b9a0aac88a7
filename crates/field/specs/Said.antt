-- What an answer says: a number of SHEET 4 and the place that goes with it; or what is given instead, and the place behind it.
--     Said                     yes, with what is given and the place behind the field; or no, with a number and a place
--     found                    the number that a judge's answer says
--     read_says, written_says    what each case of an answer of the code says
use Rattle.std.specs.Prelude.{ℕ, cond, eqb, Result, Ok, Err}
use Rattle.field.specs.declared.Field.{Field}
use Rattle.field.specs.declared.Fault.{Fault}
use Rattle.field.specs.declared.Fault.TheVariants.{Long, Bytes, Tag, Length, Place, Metal, Instrument, Time, Price, Lots, Sides, Count, Room, Line, Barred, Form}
use Rattle.field.specs.declared.Refusal.{Refusal}
use Rattle.field.specs.Judging.{fine}

pub data Said (A : Type 0) : Type 0 where
  gives : A → ℕ → Said A
  refuses : ℕ → ℕ → Said A

-- a number that was found, with the place at which the field starts; where none was, what is given, with the place behind
unfoldable pub settled : {A : Type 0} → ℕ → ℕ → A → ℕ → Said A
settled number at given next = cond (eqb number fine) (gives given next) (refuses number at)

-- SHEET 4: the number of each fault
abbrev pub fault_number : Fault → ℕ
fault_number Long = 1
fault_number Bytes = 2
fault_number Tag = 3
fault_number Length = 4
fault_number Place = 5
fault_number Metal = 6
fault_number Instrument = 7
fault_number Time = 8
fault_number Price = 9
fault_number Lots = 10
fault_number Sides = 11
fault_number Count = 12
fault_number Room = 16
fault_number Line = 17
fault_number Barred = 18
fault_number Form = 19

-- the number that an answer finds, before the rest decides; with no rest, the number found
abbrev pub found_before : Result (Unit {0}) Fault → ℕ → ℕ
found_before (Ok done) rest = rest
found_before (Err fault) rest = fault_number fault

abbrev pub found : Result (Unit {0}) Fault → ℕ
found answer = found_before answer fine

abbrev pub read_says : Result (Field × ℕ) Refusal → Said Field
read_says (Ok (f, next)) = gives f next
read_says (Err refusal) = refuses (fault_number refusal.fault) refusal.at

abbrev pub written_says : Result ℕ Refusal → Said (Unit {0})
written_says (Ok next) = gives tt next
written_says (Err refusal) = refuses (fault_number refusal.fault) refusal.at
