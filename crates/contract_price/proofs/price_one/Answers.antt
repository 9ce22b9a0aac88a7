-- `contract_price::price_one` meets its contract. Assumes nothing.
use mathlib.Core.Path.{refl}
use Rattle.contract_price.specs.laws.Numbers.{step_by, step-named, step-rowed}
use borrow.Author.Rules.{rules}
use Rattle.contract_price.proofs.price_one.Goals as goal

pub returns-then-stopped : goal.returns-then-stopped
unfolding step_by
returns-then-stopped c = rw c.if-stopped.true refl

pub returns-then-is_named : goal.returns-then-is_named
returns-then-is_named c = search (step-named, rules)

pub returns : goal.returns
returns c = search (step-rowed, rules)
