-- `line_writer::Line::price` meets its contract: a price of 32 bits, as the machine reads it, is that price. Assumes nothing.
use mathlib.Core.Path.{◌≡◌}
use borrow.Author.Rules.{rules}
use mir.Syntax.{w32}
use mir.Val.{to_z, of_z}
use Rattle.line_writer.specs.laws.Laying.{then_lays}
use Rattle.line_writer.proofs.Line.price.Goals as goal

pub returns : goal.returns
returns c =
    let cents : to_z w32 (of_z w32 c.args.price.cents) ≡ c.args.price.cents = search rules in
    let sign = rw cents at c.sign.ensures in
    let amount = rw (c.unsigned_abs.ensures.value, cents) at c.amount.ensures in
    then_lays sign amount
