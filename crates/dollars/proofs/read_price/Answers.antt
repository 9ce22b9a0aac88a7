-- `dollars::read_price` meets its contract. Assumes nothing.
use Rattle.dollars.specs.laws.Cases.{price-none, r_small, price-bad-down, price-down}
use borrow.Author.Rules.{rules}
use Rattle.dollars.proofs.read_price.Goals as goal

ruleset told = (price-none, r_small, price-bad-down, price-down, rules)

pub returns-in-empty : goal.returns-in-empty
returns-in-empty c = search told

pub returns-in_err-cents_of-in-45 : goal.returns-in_err-cents_of-in-45
returns-in_err-cents_of-in-45 c = search told

pub down-requires : goal.down-requires
down-requires c = search told

pub up-requires : goal.up-requires
up-requires c = search told

pub returns-in_ok-cents_of-in-45 : goal.returns-in_ok-cents_of-in-45
returns-in_ok-cents_of-in-45 c = search told
