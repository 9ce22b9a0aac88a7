-- `sheet::past_closes` meets its contract: each need is a law of the loop. Assumes nothing.
use borrow.Author.Rules.{rules}
use native.Mathlib.Omega.{arith}
use Rattle.sheet.specs.laws.Past.{right-whole, close-room, close-next, close-less}
use Rattle.sheet.proofs.past_closes.Goals as goal

ruleset closing = (close-room, close-next, close-less, rules)

pub overflow_add-instrument : goal.overflow_add-instrument
overflow_add-instrument c = omega (arith, right-whole _ _ 2 c.right_at.ensures c.loop-instrument-test.true)

pub bounds-sheet-at : goal.bounds-sheet-at
bounds-sheet-at c = omega (arith, right-whole _ _ 2 c.right_at.ensures c.loop-instrument-test.true)

pub after_previous-progress-requires : goal.after_previous-progress-requires
after_previous-progress-requires c = search closing

pub overflow_add-at : goal.overflow_add-at
overflow_add-at c = search closing

pub loop-instrument-smaller : goal.loop-instrument-smaller
loop-instrument-smaller c = search closing

pub loop-instrument-preserved : goal.loop-instrument-preserved
loop-instrument-preserved c = search closing
