-- `line_writer::Line::previous` meets its contract. Assumes nothing.
use Rattle.line_writer.specs.laws.Laying.{then_lays, same_lays}
use Rattle.line_reader.specs.laws.Pieces.{previous-line}
use Rattle.tape.specs.Tape.{line_text}
use Rattle.line_writer.proofs.Line.previous.Goals as goal

pub returns : goal.returns
unfolding line_text
returns c = let a = c.args in same_lays (previous-line a.instrument a.price) (then_lays c.put.ensures (then_lays c.instrument.ensures (then_lays c.put-2.ensures (then_lays c.price.ensures c.put-3.ensures))))
