-- `line_writer::Line::side` meets its contract. Assumes nothing.
use Rattle.line_writer.specs.laws.Laying.{same_lays}
use Rattle.line_writer.specs.laws.Pieces.{side-there, side-absent}
use Rattle.line_writer.proofs.Line.side.Goals as goal

pub returns-then-present : goal.returns-then-present
returns-then-present c = same_lays (side-there _ _ c.if-present.true) c.price.ensures

pub returns-else-present : goal.returns-else-present
returns-else-present c = same_lays (side-absent _ _ c.if-present.false) c.put.ensures
