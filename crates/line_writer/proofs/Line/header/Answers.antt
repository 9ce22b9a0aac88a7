-- `line_writer::Line::header` meets its contract. Assumes nothing.
use Rattle.line_writer.specs.laws.Laying.{then_lays, same_lays}
use Rattle.line_reader.specs.laws.Pieces.{header-line}
use Rattle.tape.specs.Tape.{line_text}
use Rattle.line_writer.proofs.Line.header.Goals as goal

pub returns : goal.returns
unfolding line_text
returns c = let a = c.args in same_lays (header-line a.metal a.marks a.form) (then_lays c.put.ensures (then_lays c.metal.ensures (then_lays c.put-2.ensures (then_lays c.number.ensures (then_lays c.form.ensures c.put-3.ensures)))))
