-- SHEET 4 and 5 over a whole sheet: accepted, or the first number and its byte.
use Rattle.std.specs.Prelude.{ℕ, ◌+◌, cond, List, [], ◌∷◌, leb, eqb, length, Result, Ok, Err}
use Rattle.field.specs.declared.Field.{Field}
use Rattle.field.specs.declared.Refusal.{Refusal}
use Rattle.field.specs.Said.{Said, gives, refuses, fault_number}
use Rattle.admit.specs.declared.Progress.{Progress}
use Rattle.admit.specs.Admitting.{start, Step, goes, ends, stops, admit}
use Rattle.sheet.specs.declared.Day.{Day}
use Rattle.sheet.specs.Fields.{reads_at}

-- what is said of a sheet: accepted, with the header's values and the number of fields; or no, with a number of the table and a byte
pub data Verdict : Type 0 where
  accepts : Day → Verdict
  refuses-at : ℕ → ℕ → Verdict

-- the header's values, and the fields up to the end and with it
abbrev pub day_of : Progress → Day
day_of p = record { metal = p.metal; marks = p.marks; form = p.form; fields = p.count + 1 }

-- SHEET 2: behind a right end nothing follows; else 5 at the first byte of it
unfoldable pub at_end : ℕ → ℕ → Progress → Verdict
at_end length next p = cond (eqb next length) (accepts (day_of p)) (refuses-at 5 next)

-- the field at a place was admitted or not, and the next place is next
unfoldable pub after : ℕ → ℕ → ℕ → Progress → Step → (Progress → Verdict) → Verdict
after length at next p (goes q) rest = rest q
after length at next p ends rest = at_end length next p
after length at next p (stops number) rest = refuses-at number at

-- SHEET 5: field after field, its shape (2, 3, 4, 2), then whether it may come next (5 to 12, and 18). A missing end is 2 at the sheet's length, where
-- no byte remains
unfoldable pub judge_reads : ℕ → ℕ → Progress → List (Said Field) → Verdict
judge_reads length at p [] = refuses-at 2 at
judge_reads length at p (refuses number place ∷ rs) = refuses-at number at
judge_reads length at p (gives f next ∷ rs) = after length at next p (admit p f) (λ q. judge_reads length next q rs)

-- SHEET 5: 1 before all, at byte 0
unfoldable pub judge_sheet : List ℕ → Verdict
judge_sheet s = cond (leb (length s) 1048576) (judge_reads (length s) 0 start (reads_at s 0)) (refuses-at 1 0)

-- ---- what each answer of the code says

abbrev pub judged_says : Result Day Refusal → Verdict
judged_says (Ok day) = accepts day
judged_says (Err refusal) = refuses-at (fault_number refusal.fault) refusal.at
