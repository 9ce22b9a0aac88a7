-- `twap::sums_of` meets its contract: the first i sums are told. Assumes nothing.
use borrow.Author.Rules.{rules}
use Rattle.twap.specs.laws.Pass.{sum-start, sum_done, sum-fair, sum-next, start_small, lines-ready}
use Rattle.twap.proofs.sums_of.Goals as goal

ruleset summing = (sum-start, sum_done, sum-fair, sum-next, start_small, lines-ready, rules)

pub lines_of-lines-requires : goal.lines_of-lines-requires
lines_of-lines-requires c = search summing

pub sum-requires : goal.sum-requires
sum-requires c = search summing

pub loop-i-preserved : goal.loop-i-preserved
loop-i-preserved c = search summing
