-- `trades::count_in` meets its contract. Assumes nothing.
use borrow.Author.Rules.{rules}
use Rattle.trades.specs.laws.Pass.{counted-in, counted-out, counted_in}
use Rattle.trades.proofs.count_in.Goals as goal

pub returns-in-Trade : goal.returns-in-Trade
returns-in-Trade c = search (counted-in, rules)

pub returns-in_default : goal.returns-in_default
returns-in_default c = search (counted-out, rules)

pub returns-in_default-2 : goal.returns-in_default-2
unfolding counted_in
returns-in_default-2 c = search rules
