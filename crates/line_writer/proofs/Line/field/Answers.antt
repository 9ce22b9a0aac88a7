-- `line_writer::Line::field` meets its contract. Assumes nothing.
use Rattle.std.proofs.Math.Path.{refl}
use Rattle.line_writer.specs.laws.Pieces.{line-none}
use Rattle.line_writer.proofs.Line.field.Goals as goal

pub returns-in-End : goal.returns-in-End
returns-in-End c = record { same_loan = refl; puts = line-none _ c.in-End.is }
