-- `line_writer::Line::sign` meets its contract: a number of 32 bits, as the machine reads it, is that number. Assumes nothing.
use mathlib.Core.Path.{◌≡◌}
use borrow.Author.Rules.{rules}
use mir.Syntax.{w32}
use mir.Val.{to_z, of_z}
use Rattle.line_writer.specs.laws.Laying.{same_lays}
use Rattle.std.proofs.Math.Path.{refl}
use Rattle.line_writer.specs.laws.Pieces.{sign-down, sign-up}
use Rattle.line_writer.proofs.Line.sign.Goals as goal

pub returns-then-cents-lt0 : goal.returns-then-cents-lt0
returns-then-cents-lt0 c =
    let cents : to_z w32 (of_z w32 c.args.cents) ≡ c.args.cents = search rules in
    same_lays (sign-down c.args.cents (rw cents at c.if-cents-lt0.true)) c.put.ensures

pub returns-else-cents-lt0 : goal.returns-else-cents-lt0
returns-else-cents-lt0 c =
    let cents : to_z w32 (of_z w32 c.args.cents) ≡ c.args.cents = search rules in
    record { same_loan = refl; puts = sign-up c.args.cents (rw cents at c.if-cents-lt0.false) }
