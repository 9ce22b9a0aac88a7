-- `sheet::judge_from` meets its contract: each need is a law of the loop. Assumes nothing.
use borrow.Author.Rules.{rules}
use Rattle.sheet.specs.laws.Walk.{less-read}
use Rattle.sheet.specs.laws.Track.{told-refusal, at_room, at-stop, at_last, at_next}
use Rattle.sheet.proofs.judge_from.Goals as goal

pub returns-in_err-field : goal.returns-in_err-field
returns-in_err-field c = search (told-refusal, rules)

pub returns-in-Err : goal.returns-in-Err
returns-in-Err c = at-stop _ _ _ c.loop-field.invariant c.shape_at.ensures c.in_ok-field.was c.admit.ensures c.in-Err.is

pub at_end-requires : goal.at_end-requires
at_end-requires c = at_room _ _ _ c.loop-field.invariant c.shape_at.ensures c.in_ok-field.was

pub returns-in-Ok-Ended : goal.returns-in-Ok-Ended
returns-in-Ok-Ended c = at_last _ _ _ c.loop-field.invariant c.shape_at.ensures c.in_ok-field.was c.admit.ensures (rw c.in-Ok-Ended.field-0-is at c.in-Ok-Ended.is) c.at_end.ensures

pub loop-field-smaller : goal.loop-field-smaller
loop-field-smaller c = less-read _ _ c.shape_at.ensures c.in_ok-field.was

pub loop-field-preserved : goal.loop-field-preserved
loop-field-preserved c = at_next _ _ _ c.loop-field.invariant c.shape_at.ensures c.in_ok-field.was c.admit.ensures (rw c.in-Ok-Next.field-0-is at c.in-Ok-Next.is)
