-- `twap::field_here` meets its contract: head and body are in the sheet. Assumes nothing.
use mathlib.Core.Path.{ap, ◌∙◌}
use Rattle.std.proofs.Common.{Some, arith}
use Rattle.field.specs.declared.Field.{Field}
use Rattle.field.specs.Layout.{previous_of, trade_of, quote_of}
use Rattle.field.specs.laws.Field.{part-is}
use Rattle.twap.specs.laws.Pass.{priced-three, priced-four, priced-two, priced-none}
use Rattle.twap.proofs.field_here.Goals as goal

pub returns-in-3 : goal.returns-in-3
returns-in-3 c = ap (λ (f : Field). Some f) (c.trade_of.ensures ∙ rw c.bytes_of.ensures (ap trade_of (part-is c.args.sheet.now c.args.at c.args.tag))) ∙ priced-three _ _ c.in-3.is

pub returns-in-4 : goal.returns-in-4
returns-in-4 c = ap (λ (f : Field). Some f) (c.quote_of.ensures ∙ rw c.bytes_of.ensures (ap quote_of (part-is c.args.sheet.now c.args.at c.args.tag))) ∙ priced-four _ _ c.in-4.is

pub returns-in-2 : goal.returns-in-2
returns-in-2 c = ap (λ (f : Field). Some f) (c.previous_of.ensures ∙ rw c.bytes_of.ensures (ap previous_of (part-is c.args.sheet.now c.args.at c.args.tag))) ∙ priced-two _ _ c.in-2.is

pub returns-in_default : goal.returns-in_default
returns-in_default c = priced-none _ _ (λ e. omega arith) (λ e. omega arith) (λ e. omega arith)
