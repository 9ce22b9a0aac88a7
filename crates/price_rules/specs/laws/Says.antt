-- No two answers of the code say the same, and neither do two values of what is known. Assumes nothing.
use Rattle.std.specs.Prelude.{ℕ, ◌≡◌, refl, cond, List, eqb, get_or, Result, Ok, Err}
use Rattle.std.proofs.Common.{sym, ap, ◌∙◌}
use Rattle.promise.specs.laws.Once.{through}
use Rattle.field.specs.declared.Refusal.{Refusal}
use Rattle.field.specs.laws.Said.{fault_of, fault_back}
use Rattle.sheet.specs.declared.Day.{Day}
use Rattle.price_rules.specs.declared.Priced.{Priced}
use Rattle.price_rules.specs.declared.Unpriced.{Unpriced}
use Rattle.price_rules.specs.declared.Unpriced.TheVariants.{NoReference, OutOfRange, NotReached}
use Rattle.price_rules.specs.declared.SixAnswers.{SixAnswers}
use Rattle.price_rules.specs.declared.Known as code
use Rattle.price_rules.specs.Closing.{Told, close, refused, Known, Answers, six, none-priced}
use Rattle.price_rules.specs.Says.{answer_says, known_says, closings_say, closed_says}

-- an answer, read off what it says

abbrev answer-of : Told → Result Priced Unpriced
answer-of (close method m lots) = Ok (record { method = method; close = m; lots = lots })
answer-of (refused number lots) = Err (cond (eqb number 13) (NoReference lots) (cond (eqb number 14) (OutOfRange lots) NotReached))

answer_back : (a : Result Priced Unpriced) → answer-of (answer_says a) ≡ a
answer_back (Ok priced) = refl
answer_back (Err (NoReference lots)) = refl
answer_back (Err (OutOfRange lots)) = refl
answer_back (Err NotReached) = refl

pub answer-once : {d : Told} {x y : Result Priced Unpriced} → answer_says x ≡ d → answer_says y ≡ d → x ≡ y
answer-once p q = through answer_says answer-of answer_back p q

-- of two that say the same, each field that is kept when the program runs is the same
pub known-once : {d : Known} (x y : code.Known) → known_says x ≡ d → known_says y ≡ d → (x.closes.cents ≡ y.closes.cents) × (x.stopped ≡ y.stopped) × (x.three ≡ y.three)
known-once x y p q =
    let same : known_says x ≡ known_says y = p ∙ sym q in
    (ap (λ (k : Known). k.closes) same, ap (λ (k : Known). k.stopped) same, answer-once (ap (λ (k : Known). k.three) p) (ap (λ (k : Known). k.three) q))

abbrev at : List Told → ℕ → Result Priced Unpriced
at ts c = answer-of (get_or ts c (refused 15 0))

abbrev closings-of : List Told → SixAnswers
closings-of ts = record { three = at ts 0; m3 = at ts 1; m2 = at ts 2; m4 = at ts 3; m1 = at ts 4; cash = at ts 5 }

closings-back : (r : SixAnswers) → closings-of (closings_say r) ≡ r
closings-back r = simp (answer_back r.three, answer_back r.m3, answer_back r.m2, answer_back r.m4, answer_back r.m1, answer_back r.cash)

abbrev closed_of : Answers → Result (Day × SixAnswers) Refusal
closed_of (six day ts) = Ok (day, closings-of ts)
closed_of (none-priced number at) = Err (record { fault = fault_of number; at = at })

closed-back : (r : Result (Day × SixAnswers) Refusal) → closed_of (closed_says r) ≡ r
closed-back (Ok (day, r)) = ap (λ (k : SixAnswers). Ok (day, k)) (closings-back r)
closed-back (Err refusal) = simp fault_back

pub closed-once : {d : Answers} {x y : Result (Day × SixAnswers) Refusal} → closed_says x ≡ d → closed_says y ≡ d → x ≡ y
closed-once p q = through closed_says closed_of closed-back p q
