-- `numerals::read_number` meets its contract. Assumes nothing.
use borrow.Author.Rules.{rules}
use Rattle.numerals.specs.laws.Walk.{shut, at-start, at-bad, at_next, at-end}
use Rattle.numerals.proofs.read_number.Goals as goal

ruleset walking = (shut, at-start, at-bad, at_next, at-end, rules)

pub returns-then-not-opens_right : goal.returns-then-not-opens_right
returns-then-not-opens_right c = search walking

pub loop-b-init : goal.loop-b-init
loop-b-init c = search walking

pub returns-then-not-is_digit : goal.returns-then-not-is_digit
returns-then-not-is_digit c = search walking

pub loop-b-preserved : goal.loop-b-preserved
loop-b-preserved c = search walking

pub returns : goal.returns
returns c = search walking
