-- `twap::Line::sum` meets its contract: the last span goes to the window's end. Assumes nothing.
use borrow.Author.Rules.{rules}
use Rattle.twap.specs.laws.Lines.{sum_told, sum-missing}
use Rattle.twap.proofs.Line.sum.Goals as goal

pub returns-then-self : goal.returns-then-self
returns-then-self c = search (sum_told, rules)

pub returns-else-self : goal.returns-else-self
returns-else-self c = sum-missing _ _ c.if-self.false
