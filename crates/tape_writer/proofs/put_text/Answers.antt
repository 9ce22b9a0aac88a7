-- `tape_writer::put_text` meets its contract. Assumes nothing.
use Rattle.tape_writer.specs.laws.Lining.{text-put, text-not}
use Rattle.tape_writer.proofs.put_text.Goals as goal

pub returns-then-has_room : goal.returns-then-has_room
returns-then-has_room c =
    let a = c.args in
    text-put a.sheet.now a.tape.now c.has_room.ensures c.if-has_room.true c.put_lines.ensures

pub returns : goal.returns
returns c =
    let a = c.args in
    text-not a.sheet.now a.tape.now c.has_room.ensures c.if-has_room.false
