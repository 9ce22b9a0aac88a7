-- What each answer of the code says, in the numbers and values of RULES 9 and 10.
use Rattle.std.specs.Prelude.{List, [], ◌∷◌, Result, Ok, Err}
use Rattle.field.specs.declared.Refusal.{Refusal}
use Rattle.field.specs.Said.{fault_number}
use Rattle.sheet.specs.declared.Day.{Day}
use Rattle.price_rules.specs.declared.Priced.{Priced}
use Rattle.price_rules.specs.declared.Unpriced.{Unpriced}
use Rattle.price_rules.specs.declared.Unpriced.TheVariants.{NoReference, OutOfRange, NotReached}
use Rattle.price_rules.specs.declared.SixAnswers.{SixAnswers}
use Rattle.price_rules.specs.declared.Known as code
use Rattle.price_rules.specs.Closing.{Told, close, refused, Known, Answers, six, none-priced}

-- a contract's answer: 13 and 14 with the lots, 15 with 0 lots
abbrev pub answer_says : Result Priced Unpriced → Told
answer_says (Ok priced) = close priced.method priced.close priced.lots
answer_says (Err (NoReference lots)) = refused 13 lots
answer_says (Err (OutOfRange lots)) = refused 14 lots
answer_says (Err NotReached) = refused 15 0

-- what is known before a contract
abbrev pub known_says : code.Known → Known
known_says k = record { closes = k.closes.cents; stopped = k.stopped; three = answer_says k.three }

-- the six in pricing order
abbrev pub closings_say : SixAnswers → List Told
closings_say r = answer_says r.three ∷ answer_says r.m3 ∷ answer_says r.m2 ∷ answer_says r.m4 ∷ answer_says r.m1 ∷ answer_says r.cash ∷ []

-- a sheet's
abbrev pub closed_says : Result (Day × SixAnswers) Refusal → Answers
closed_says (Ok (day, r)) = six day (closings_say r)
closed_says (Err refusal) = none-priced (fault_number refusal.fault) refusal.at
