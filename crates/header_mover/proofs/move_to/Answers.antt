-- `header_mover::move_to` meets its contract: the sheet's own refusal, or what is made of an accepted one. Assumes nothing.
use borrow.Author.Rules.{rules}
use Rattle.sheet.specs.Fields.{fields_of}
use Rattle.filled_buffer.specs.laws.Filling.{judged-made, judged-refused}
use Rattle.header_mover.specs.Moving.{moved_of}
use Rattle.header_mover.proofs.move_to.Goals as goal

pub returns-in_err-judge_sheet : goal.returns-in_err-judge_sheet
returns-in_err-judge_sheet c =
    let a = c.args in
    judged-refused a.out.now (moved_of a.wanted (fields_of a.sheet.now)) c.judge_sheet.ensures c.in_err-judge_sheet.was _ (search rules)

pub returns : goal.returns
returns c =
    let a = c.args in
    judged-made a.out.now (moved_of a.wanted (fields_of a.sheet.now)) c.judge_sheet.ensures c.in_ok-judge_sheet.was _ c.move_accepted.ensures
