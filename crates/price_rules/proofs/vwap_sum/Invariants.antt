-- `price_rules::vwap_sum` meets its contract: the sum over the instruments so far, within its bound. Assumes nothing.
use Rattle.std.proofs.Common.{◌≡◌, ◌-◌}
use Rattle.price_rules.specs.laws.Adding.{sum_by, Within}
use Rattle.price_rules.proofs.vwap_sum.Given as goal

abbrev pub invariant-loop-i : goal.invariant-loop-i
invariant-loop-i l = (l.sum ≡ sum_by l.book.marks l.closes.cents.now l.book.totals l.first (l.i - l.first)) × Within (l.i - l.first) l.sum
