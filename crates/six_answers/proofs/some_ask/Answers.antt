-- `six_answers::some_ask` meets its contract: none of the contracts before this one asks. Assumes nothing.
use mathlib.Core.Path.{sym, ◌∙◌}
use native.Mathlib.Omega.{arith}
use Rattle.six_answers.specs.laws.Asking.{none-asked, asked-not, asked_here}
use Rattle.six_answers.proofs.some_ask.Goals as goal

pub loop-contract-init : goal.loop-contract-init
loop-contract-init c = none-asked _ _

pub returns-then-asks_indicator : goal.returns-then-asks_indicator
returns-then-asks_indicator c = asked_here _ _ _ 6 (sym c.asks_indicator.ensures ∙ c.if-asks_indicator.true) (omega arith)

pub loop-contract-preserved : goal.loop-contract-preserved
loop-contract-preserved c = asked-not _ _ _ c.loop-contract.invariant (sym c.asks_indicator.ensures ∙ c.if-asks_indicator.false)
