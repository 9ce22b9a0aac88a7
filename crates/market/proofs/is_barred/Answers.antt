-- `market::is_barred` meets its contract: the table has the row, or it has none. Assumes nothing.
use mathlib.Core.Path.{◌∙◌}
use native.Mathlib.Omega.{arith}
use Rattle.market.specs.laws.Rows.{barred-row, barred-none, barred-above}
use Rattle.market.proofs.is_barred.Goals as goal

pub returns-in-1-to-2 : goal.returns-in-1-to-2
returns-in-1-to-2 c = c.has_bit.ensures ∙ barred-row _ _ (omega arith) (omega arith)

pub returns-in_default : goal.returns-in_default
returns-in_default c = barred-none _ _ (omega arith)

pub returns-in_default-2 : goal.returns-in_default-2
returns-in_default-2 c = barred-above _ _ (omega arith)
