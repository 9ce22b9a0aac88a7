-- `line_writer::Line::trade` meets its contract. Assumes nothing.
use Rattle.line_writer.specs.laws.Laying.{then_lays, same_lays}
use Rattle.line_reader.specs.laws.Pieces.{trade-line}
use Rattle.tape.specs.Tape.{line_text}
use Rattle.line_writer.proofs.Line.trade.Goals as goal

pub returns : goal.returns
unfolding line_text
returns c = let a = c.args in same_lays (trade-line a.time a.instrument a.price a.lots) (then_lays c.stamp.ensures (then_lays c.put.ensures (then_lays c.price.ensures (then_lays c.put-2.ensures (then_lays c.number.ensures c.put-3.ensures)))))
