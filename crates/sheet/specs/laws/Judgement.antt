-- No two judgements say the same. Assumes nothing.
use Rattle.std.specs.Prelude.{◌≡◌, refl, Result, Ok, Err}
use Rattle.promise.specs.laws.Once.{through}
use Rattle.field.specs.declared.Refusal.{Refusal}
use Rattle.field.specs.laws.Said.{fault_of, fault_back}
use Rattle.sheet.specs.declared.Day.{Day}
use Rattle.sheet.specs.Judgement.{Verdict, judged_says, accepts, refuses-at}

abbrev judged-of : Verdict → Result Day Refusal
judged-of (accepts day) = Ok day
judged-of (refuses-at number at) = Err (record { fault = fault_of number; at = at })

judged-back : (r : Result Day Refusal) → judged-of (judged_says r) ≡ r
judged-back (Ok day) = refl
judged-back (Err refusal) = simp fault_back

pub judged-once : {d : Verdict} {x y : Result Day Refusal} → judged_says x ≡ d → judged_says y ≡ d → x ≡ y
judged-once p q = through judged_says judged-of judged-back p q
