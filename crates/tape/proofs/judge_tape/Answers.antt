-- `tape::judge_tape` meets its contract. Assumes nothing.
use Rattle.std.specs.Prelude.{◌≡◌, Ok, Some}
use Rattle.std.proofs.Common.{ap, ◌∙◌, rules}
use Rattle.tape.specs.laws.Track.{t-last, t-bad, placed-stop, placed-next, t-less}
use Rattle.tape.proofs.judge_tape.Goals as goal
use Rattle.tape.proofs.judge_tape.Goals.{In-Ok-Some}

-- the field that was read, and the place behind its line
read : (c : In-Ok-Some) → c.next_line.result ≡ Ok (Some (c.in-Ok-Some.field, c.in-Ok-Some.next))
read c = c.in-Ok-Some.is ∙ ap Ok c.in-Ok-Some.field-0-is

pub returns-in-Ok-None : goal.returns-in-Ok-None
returns-in-Ok-None c =
    t-last _ _ _ _ _ c.loop-field.invariant _ c.next_line.ensures (c.in-Ok-None.is ∙ ap Ok c.in-Ok-None.field-0-is) _ c.at_last.ensures

pub returns-in-Err : goal.returns-in-Err
returns-in-Err c = t-bad _ _ _ _ _ c.loop-field.invariant _ c.next_line.ensures _ c.in-Err.is

pub returns-in_err-progress-in-Ok-Some : goal.returns-in_err-progress-in-Ok-Some
returns-in_err-progress-in-Ok-Some c =
    placed-stop _ _ _ _ _ c.loop-field.invariant _ c.next_line.ensures _ _ (read (goal.at.returns-in_err-progress-in-Ok-Some c).In-Ok-Some) _ c.placed.ensures _ c.in_err-progress-in-Ok-Some.was _ (search rules)

pub loop-field-smaller : goal.loop-field-smaller
loop-field-smaller c =
    t-less _ _ _ _ _ c.loop-field.invariant _ c.next_line.ensures _ _ (read (goal.at.loop-field-smaller c).In-Ok-Some)

pub loop-field-preserved : goal.loop-field-preserved
loop-field-preserved c =
    placed-next _ _ _ _ _ c.loop-field.invariant _ c.next_line.ensures _ _ (read (goal.at.loop-field-preserved c).In-Ok-Some) _ c.placed.ensures _ _ c.in_ok-progress-in-Ok-Some.was c.grown_by-bytes.ensures
