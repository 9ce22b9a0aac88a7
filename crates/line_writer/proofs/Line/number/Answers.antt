-- `line_writer::Line::number` meets its contract. Assumes nothing.
use native.Mathlib.Omega.{arith}
use Rattle.text.specs.laws.Decimal.{spelled}
use Rattle.line_writer.specs.laws.Laying.{same_lays}
use Rattle.line_writer.proofs.Line.number.Goals as goal

pub returns : goal.returns
returns c =
    same_lays (spelled _ _ _ (omega arith) (c.decimal-k.ensures.len, c.decimal-k.ensures.digits)) c.put.ensures
