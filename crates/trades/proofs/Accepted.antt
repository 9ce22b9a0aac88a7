-- Of an accepted sheet: its metal has a row, and so has the instrument of each of its fields. Assumes nothing.
use Rattle.std.specs.Prelude.{ℕ, ◌≡◌, List, [], ◌∷◌}
use Rattle.field.specs.declared.Field.{Field}
use Rattle.field.specs.declared.Field.TheVariants.{Header, PreviousClose, Trade, Quote, End}
use Rattle.field.specs.Judging.{alone, third_of}
use Rattle.field.proofs.Sound.{Sound}
use Rattle.sheet.specs.declared.Day.{Day}
use Rattle.sheet.specs.Fields.{fields_of, Each}
use Rattle.sheet.specs.Judgement.{accepts, judge_sheet}
use Rattle.sheet.specs.laws.Accepted.{accepted-sound, accepted-right}
use Rattle.trades.specs.laws.Rowed.{Rowed, rowed, Lined, lined}

pub accepted-rowed : (s : List ℕ) (day : Day) → judge_sheet s ≡ accepts day → Rowed day.metal
accepted-rowed s day a = rowed day.metal day.marks (third_of day.form) (accepted-right s day a)

field-lined : (f : Field) → Sound alone f → Lined f
field-lined (Header metal marks form) h = tt
field-lined (PreviousClose instrument price) h = lined instrument h.0.in_table
field-lined (Trade time instrument price lots) h = lined instrument h.stamp.on.in_table
field-lined (Quote time instrument sides bid offer) h = lined instrument h.stamp.on.in_table
field-lined (End count) h = tt

all-lined : (fs : List Field) → Each (Sound alone) fs → Each Lined fs
all-lined [] h = tt
all-lined (f ∷ fs) h = (field-lined f h.0, all-lined fs h.1)

pub accepted-lined : (s : List ℕ) (day : Day) → judge_sheet s ≡ accepts day → Each Lined (fields_of s)
accepted-lined s day a = all-lined (fields_of s) (accepted-sound s day a)
