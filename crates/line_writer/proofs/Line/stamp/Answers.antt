-- `line_writer::Line::stamp` meets its contract. Assumes nothing.
use Rattle.line_writer.specs.laws.Laying.{then_lays}
use Rattle.line_writer.proofs.Line.stamp.Goals as goal

pub returns : goal.returns
returns c = then_lays c.number.ensures (then_lays c.put.ensures c.instrument.ensures)
