-- `tape_reader::tape_to_sheet` meets its contract: a bad line, a sheet too long, no room, or the sheet. Assumes nothing.
use borrow.Author.Rules.{rules}
use Rattle.tape_reader.specs.laws.Laying.{line_refused, long-refused, room-refused, fitting, whole}
use Rattle.tape_reader.proofs.tape_to_sheet.Goals as goal

pub returns-then-bytes-gt1048569 : goal.returns-then-bytes-gt1048569
returns-then-bytes-gt1048569 c =
    let a = c.args in
    long-refused a.text.now a.sheet.now c.judge_tape.ensures _ c.in_ok-bytes.was c.if-bytes-gt1048569.true

pub returns-then-sheet-len : goal.returns-then-sheet-len
returns-then-sheet-len c =
    let a = c.args in
    room-refused a.text.now a.sheet.now c.judge_tape.ensures _ c.in_ok-bytes.was c.if-bytes-gt1048569.false c.if-sheet-len.true

pub returns-in_err-bytes : goal.returns-in_err-bytes
returns-in_err-bytes c =
    let a = c.args in
    line_refused a.text.now a.sheet.now c.judge_tape.ensures c.in_err-bytes.was _ (search rules)

pub put_sheet-requires : goal.put_sheet-requires
put_sheet-requires c =
    let a = c.args in
    fitting a.text.now a.sheet.now c.judge_tape.ensures _ c.in_ok-bytes.was c.if-bytes-gt1048569.false c.if-sheet-len.false

pub returns : goal.returns
returns c =
    let a = c.args in
    whole a.text.now a.sheet.now c.judge_tape.ensures _ c.in_ok-bytes.was c.if-bytes-gt1048569.false c.if-sheet-len.false c.put_sheet.ensures
