-- SHEET 2, the order of fields, 5 and 12 of SHEET 4: whether a field may come next, and what is kept behind it.
use Rattle.std.specs.Prelude.{ℕ, ◌+◌, Bool, cond, leb, ltb, eqb, Result, Ok, Err}
use Rattle.field.specs.declared.Form.{Form}
use Rattle.field.specs.declared.Form.TheVariants.{Short}
use Rattle.field.specs.declared.Before.{Before}
use Rattle.field.specs.declared.Field.{Field}
use Rattle.field.specs.declared.Field.TheVariants.{Header, PreviousClose, Trade, Quote, End}
use Rattle.field.specs.declared.Fault.{Fault}
use Rattle.field.specs.Said.{fault_number}
use Rattle.field.specs.Judging.{fine, unless, also, both, third_of, judge}
use Rattle.admit.specs.declared.Progress.{Progress}
use Rattle.admit.specs.declared.Admitted.{Admitted}
use Rattle.admit.specs.declared.Admitted.TheVariants as A

-- before the first field
abbrev pub start : Progress
start = record { stage = 0; metal = 0; marks = 0; form = Short; instrument = 0; time = 0; count = 0 }

-- SHEET 2: one header, first; then previous closes, each with a higher instrument than the one before; then trades and quotes; then one end. Else 5
unfoldable pub previous_placed : Progress → ℕ → Bool
previous_placed p instrument = both (eqb p.stage 1) (leb p.instrument instrument)

unfoldable pub placed : Progress → Field → Bool
placed p (Header metal marks form) = eqb p.stage 0
placed p (PreviousClose instrument price) = previous_placed p instrument
placed p (Trade time instrument price lots) = leb 1 p.stage
placed p (Quote time instrument sides bid offer) = leb 1 p.stage
placed p (End count) = leb 1 p.stage

-- SHEET 2: the end's count is that of the fields before it. Else 12
unfoldable pub count_number : Progress → Field → ℕ
count_number p (Header metal marks form) = fine
count_number p (PreviousClose instrument price) = fine
count_number p (Trade time instrument price lots) = fine
count_number p (Quote time instrument sides bid offer) = fine
count_number p (End count) = unless (eqb count p.count) 12 fine

-- what came before: the header's third value, and the time
abbrev pub before_of : Progress → Before
before_of p = record { third = third_of p.form; time = p.time }

-- SHEET 5: 5, then 6 to 11 and 18 by what came before, then 12. A sheet with as many fields before as it may have bytes is too long: 1, before all
unfoldable pub admit_number : Progress → Field → ℕ
admit_number p f =
    unless (ltb p.count 1048576) 1
    (unless (placed p f) 5
    (also (judge (before_of p) f) (count_number p f)))

-- what is kept behind a header, a previous close, and a record
abbrev pub after_header : Progress → ℕ → ℕ → Form → Progress
after_header p metal marks form = record { stage = 1; metal = metal; marks = marks; form = form; instrument = p.instrument; time = p.time; count = p.count + 1 }

abbrev pub after_previous : Progress → ℕ → Progress
after_previous p instrument = record { stage = 1; metal = p.metal; marks = p.marks; form = p.form; instrument = instrument + 1; time = p.time; count = p.count + 1 }

abbrev pub after_record : Progress → ℕ → Progress
after_record p time = record { stage = 2; metal = p.metal; marks = p.marks; form = p.form; instrument = p.instrument; time = time; count = p.count + 1 }

-- what is said of a field that comes next: on it goes, with what is kept; it is the end; or no, with a number of the table
pub data Step : Type 0 where
  goes : Progress → Step
  ends : Step
  stops : ℕ → Step

unfoldable pub admitted : Progress → Field → Step
admitted p (Header metal marks form) = goes (after_header p metal marks form)
admitted p (PreviousClose instrument price) = goes (after_previous p instrument)
admitted p (Trade time instrument price lots) = goes (after_record p time)
admitted p (Quote time instrument sides bid offer) = goes (after_record p time)
admitted p (End count) = ends

unfoldable pub admit : Progress → Field → Step
admit p f = cond (eqb (admit_number p f) fine) (admitted p f) (stops (admit_number p f))

-- ---- what each answer of the code says

abbrev pub admit_says : Result Admitted Fault → Step
admit_says (Ok (A.Next q)) = goes q
admit_says (Ok A.Ended) = ends
admit_says (Err fault) = stops (fault_number fault)
