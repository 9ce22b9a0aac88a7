-- `line_writer::Line::quote` meets its contract. Assumes nothing.
use Rattle.line_writer.specs.laws.Laying.{then_lays, same_lays}
use Rattle.line_reader.specs.laws.Pieces.{quote-line}
use Rattle.tape.specs.Tape.{line_text}
use Rattle.line_writer.proofs.Line.quote.Goals as goal

pub returns : goal.returns
unfolding line_text
returns c = let a = c.args in same_lays (quote-line a.time a.instrument a.sides a.bid a.offer) (then_lays c.stamp.ensures (then_lays c.put.ensures (then_lays c.side.ensures (then_lays c.put-2.ensures (then_lays c.side-2.ensures c.put-3.ensures)))))
