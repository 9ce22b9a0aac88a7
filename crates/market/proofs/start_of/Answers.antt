-- `market::start_of` meets its contract. Assumes nothing.
use mathlib.Core.Path.{◌∙◌}
use Rattle.market.specs.laws.Rows.{start-in}
use Rattle.market.proofs.start_of.Goals as goal

pub returns : goal.returns
returns c = c.start_in.ensures ∙ rw c.metal_of.ensures (start-in _ _)
