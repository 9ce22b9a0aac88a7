-- `dollars::cents_of` meets its contract. Assumes nothing.
use Rattle.dollars.specs.laws.Cases.{c-point, c-number, c-whole, whole-fits, sum_fits}
use borrow.Author.Rules.{rules}
use Rattle.dollars.proofs.cents_of.Goals as goal

ruleset told = (c-point, c-number, c-whole, whole-fits, sum_fits, rules)

pub returns-in_err-h : goal.returns-in_err-h
returns-in_err-h c = search told

pub returns-in_err-d : goal.returns-in_err-d
returns-in_err-d c = search told

pub overflow_mul-result : goal.overflow_mul-result
overflow_mul-result c = search told

pub overflow_add-result : goal.overflow_add-result
overflow_add-result c = search told

pub returns : goal.returns
returns c = search told
