-- `tape_writer::sheet_to_tape` meets its contract: the sheet's own refusal, no room, or the text. Assumes nothing.
use borrow.Author.Rules.{rules}
use Rattle.sheet.specs.Fields.{fields_of}
use Rattle.filled_buffer.specs.Filling.{made}
use Rattle.filled_buffer.specs.laws.Filling.{judged-made, judged-refused}
use Rattle.tape.specs.Tape.{text_of}
use Rattle.tape_writer.specs.laws.Lining.{sheet-readable}
use Rattle.tape_writer.proofs.sheet_to_tape.Goals as goal

pub returns-in_err-judge_sheet : goal.returns-in_err-judge_sheet
returns-in_err-judge_sheet c =
    let a = c.args in
    judged-refused a.tape.now (λ day. made (text_of (fields_of a.sheet.now))) c.judge_sheet.ensures c.in_err-judge_sheet.was _ (search rules)

pub put_text-requires : goal.put_text-requires
put_text-requires c =
    let a = c.args in
    sheet-readable a.sheet.now c.judge_sheet.ensures (λ i. (c.type_inv.sheet i).fits) c.in_ok-judge_sheet.was

pub returns : goal.returns
returns c =
    let a = c.args in
    judged-made a.tape.now (λ day. made (text_of (fields_of a.sheet.now))) c.judge_sheet.ensures c.in_ok-judge_sheet.was _ c.put_text.ensures
