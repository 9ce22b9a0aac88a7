-- `market::bit_of` meets its contract. Assumes nothing.
use borrow.Author.Tests.{lt-ltb, le-ltb}
use Rattle.market.specs.laws.Rows.{bit_of}
use Rattle.market.proofs.bit_of.Goals as goal

pub returns-then-instrument-lt12 : goal.returns-then-instrument-lt12
unfolding bit_of
returns-then-instrument-lt12 c = simp (lt-ltb _ 12 c.if-instrument-lt12.true)

pub returns-else-instrument-lt12 : goal.returns-else-instrument-lt12
unfolding bit_of
returns-else-instrument-lt12 c = simp (le-ltb _ 12 c.if-instrument-lt12.false)
