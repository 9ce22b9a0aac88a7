-- `market::start_in` meets its contract. Assumes nothing.
use borrow.Author.Tests.{eq-eqb, ne_eqb}
use Rattle.market.specs.laws.Rows.{start_in}
use Rattle.market.proofs.start_in.Goals as goal

pub returns-then-instrument-eq0 : goal.returns-then-instrument-eq0
unfolding start_in
returns-then-instrument-eq0 c = simp (eq-eqb _ 0 c.if-instrument-eq0.true)

pub returns-else-instrument-eq0 : goal.returns-else-instrument-eq0
unfolding start_in
returns-else-instrument-eq0 c = simp (ne_eqb _ 0 c.if-instrument-eq0.false)
