-- `indicator::take_field` meets its contract. Assumes nothing.
use Rattle.indicator.specs.Indicator.{taken}
use borrow.Author.Tests.{eq-eqb, ne_eqb}
use borrow.Author.Rules.{rules}
use Rattle.indicator.proofs.take_field.Goals as goal

pub returns-in-PreviousClose : goal.returns-in-PreviousClose
unfolding taken
returns-in-PreviousClose c = simp (c.close.ensures, c.in-PreviousClose.is, eq-eqb _ _ c.if-of-instrument.true)

pub returns-in-Trade : goal.returns-in-Trade
unfolding taken
returns-in-Trade c = simp (c.trade.ensures, c.in-Trade.is, eq-eqb _ _ c.if-of-instrument-2.true)

pub returns-in-Quote : goal.returns-in-Quote
unfolding taken
returns-in-Quote c = simp (c.quote.ensures, c.in-Quote.is, eq-eqb _ _ c.if-of-instrument-3.true)

pub returns-in_default : goal.returns-in_default
unfolding taken
returns-in_default c = simp (c.in-PreviousClose.is, ne_eqb _ _ c.if-of-instrument.false)

pub returns-in_default-2 : goal.returns-in_default-2
unfolding taken
returns-in_default-2 c = simp (c.in-Trade.is, ne_eqb _ _ c.if-of-instrument-2.false)

pub returns-in_default-3 : goal.returns-in_default-3
unfolding taken
returns-in_default-3 c = simp (c.in-Quote.is, ne_eqb _ _ c.if-of-instrument-3.false)

pub returns-in_default-4 : goal.returns-in_default-4
unfolding taken
returns-in_default-4 c = search rules
