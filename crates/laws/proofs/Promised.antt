-- The laws of what `closings` promises: they hold of any results that its own contract permits, whatever its code.
--     Closes           what the contract of `closings` permits, as the compiler generated it
--     closings-lift    `closings` of a sheet and of the sheet with 3M lifted
--     closings-turn    `closings` of a sheet and of the sheet with one spread turned round
--     closings-named   `closings` of a sheet whose header says that 3M is a monthly contract
-- Assumes nothing. Every entry of a slice of bytes is a byte: `Bytes` says so.
use Prim.Native.Nat.{ℕ, ◌≤◌, ◌<◌}
use mathlib.Core.Path.{◌≡◌, refl, sym, ap, subst, ◌∙◌}
use mathlib.Core.Bool.{true}
use mathlib.Core.List.{List}
use mathlib.Core.Logic.{◌⊎◌}
use lib.IntN.{ℤ}
use Rattle.std.specs.Prelude.{Result, Ok, Err}
use borrow.Fn.Kinds.{ended_of}
use contract.Lifetimes.{Lfts}
use denote.Bor.{Bor}
use denote.Triple.Clauses.{AtExit}
use Rattle.wire.specs.Big.{Bytes}
use Rattle.field.specs.laws.Field.{clash}
use Rattle.field.specs.declared.Refusal.{Refusal}
use Rattle.sheet.specs.declared.Day.{Day}
use Rattle.sheet.specs.Fields.{fields_of, Each}
use Rattle.sheet.specs.Judgement.{Verdict, accepts, refuses-at, judge_sheet}
use Rattle.price_rules.specs.declared.SixAnswers.{SixAnswers}
use Rattle.price_rules.specs.Closing.{Told, refused, six, none-priced, answers_by, answers_of}
use Rattle.price_rules.specs.Says.{closings_say, closed_says}
use Rattle.price_rules.specs.laws.Says.{closed-once}
use Rattle.six_answers.proofs.closings.Reads as closings
use Rattle.six_answers.proofs.closings.Kinds as closingsK
use Rattle.field.specs.Judging.{third_of}
use Rattle.market.specs.Market.{3M, named}
use Rattle.laws.specs.Demand.{steps, lifted, Liftable, answer_at, Moves, turned, turned_day}
use Rattle.laws.proofs.Lift.{shifts}
use Rattle.laws.proofs.Turning.{turns}
use Rattle.laws.proofs.Named.{named-agrees}

-- `closings`, lent a sheet that holds s, may answer x
pub record Closes (s : List ℕ) (x : Result (Day × SixAnswers) Refusal) : Type 0 where
  pub κs : Lfts 1
  pub sheet : Bor (List ℕ)
  pub exit : AtExit (ended_of 1 closingsK.ps closingsK.r) κs
  pub permits : closings.Post κs (sheet, tt) x exit
  pub holds : sheet.now ≡ s

-- the answer is the definition's
pub says : {s : List ℕ} {x : Result (Day × SixAnswers) Refusal} → Closes s x → closed_says x ≡ answers_of s
says {s} c = c.permits ∙ ap answers_of c.holds

-- ---- six answers are those of an accepted sheet

pub six-day : (day other : Day) (ts us : List Told) → six day ts ≡ six other us → day ≡ other
six-day day other ts us e = cc

pub six-answers : (day other : Day) (ts us : List Told) → six day ts ≡ six other us → ts ≡ us
six-answers day other ts us e = cc

accepted : (s : List ℕ) (day : Day) (ts : List Told) → answers_of s ≡ six day ts → judge_sheet s ≡ accepts day
unfolding answers_of
accepted s day ts e = by (judge_sheet s) refl
  where
    by : (v : Verdict) → judge_sheet s ≡ v → judge_sheet s ≡ accepts day
    by (accepts other) k = k ∙ ap accepts (six-day other day _ ts (sym (ap (answers_by (fields_of s)) k) ∙ e))
    by (refuses-at number at) k = let z : none-priced number at ≡ six day ts = sym (ap (answers_by (fields_of s)) k) ∙ e in clash cc

-- a result that says six answers has them
pub record HasSix (y : Result (Day × SixAnswers) Refusal) (day : Day) (ts : List Told) : Type 0 where
  pub answers : SixAnswers
  pub is : y ≡ Ok (day, answers)
  pub say : closings_say answers ≡ ts

has-six : (y : Result (Day × SixAnswers) Refusal) (day : Day) (ts : List Told) → closed_says y ≡ six day ts → HasSix y day ts
has-six (Ok (other, r)) day ts e = record { answers = r; is = ap (λ (d : Day). Ok (d, r)) (six-day other day (closings_say r) ts e); say = six-answers other day (closings_say r) ts e }
has-six (Err refusal) day ts e = clash cc

-- ---- the laws

-- the second result has six answers too, those of the first lifted by δ
pub record LiftedTo (δ : ℤ) (day : Day) (r : SixAnswers) (y : Result (Day × SixAnswers) Refusal) : Type 0 where
  pub answers : SixAnswers
  pub is : y ≡ Ok (day, answers)
  pub moves : Moves δ (closings_say r) (closings_say answers)

pub closings-lift : {s : List ℕ} {day : Day} {r : SixAnswers} {y : Result (Day × SixAnswers) Refusal} (k : ℤ) → Bytes s → Each (Liftable (steps day k)) (fields_of s)
    → Closes s (Ok (day, r)) → Closes (lifted (steps day k) s) y → LiftedTo (steps day k) day r y
closings-lift {s} {day} {r} {y} k b l before after =
    let was = sym (says before) in
    let law = shifts s day k b (accepted s day (closings_say r) was) l in
    let to = has-six y day law.after (says after ∙ law.is-now) in
    let from : law.before ≡ closings_say r = six-answers day day law.before (closings_say r) (sym law.was ∙ was) in
    record { answers = to.answers; is = to.is; moves = subst (λ (ts : List Told). Moves (steps day k) ts (closings_say to.answers)) from (subst (Moves (steps day k) law.before) (sym to.say) law.moves) }

-- the second result has the same six answers
pub closings-turn : {s : List ℕ} {day : Day} {r : SixAnswers} {y : Result (Day × SixAnswers) Refusal} (i : ℕ) → Bytes s → 1 ≤ i → i ≤ 11
    → Closes s (Ok (day, r)) → Closes (turned i s) y → y ≡ Ok (turned_day i day, r)
closings-turn {s} {day} {r} {y} i b low high before after =
    let was = sym (says before) in
    let law = turns s day i b (accepted s day (closings_say r) was) low high in
    let same : law.answers ≡ closings_say r = six-answers day day law.answers (closings_say r) (sym law.was ∙ was) in
    closed-once (says after ∙ law.is-now) (ap (six (turned_day i day)) (sym same))

-- the contract that 3M is has 3M's answer, or is not reached
pub closings-named : {s : List ℕ} {day : Day} {r : SixAnswers} (c : ℕ) → c < 6 → named (third_of day.form) c ≡ true → Closes s (Ok (day, r))
    → (answer_at (closings_say r) c ≡ answer_at (closings_say r) 3M) ⊎ (answer_at (closings_say r) c ≡ refused 15 0)
closings-named {s} {day} {r} c low n told = named-agrees s day (closings_say r) c low (sym (says told)) n
