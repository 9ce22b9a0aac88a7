-- `market::leg_of` meets its contract: the leg is that of the row's two contracts. Assumes nothing.
use mathlib.Core.Path.{ap, ◌∙◌}
use Prim.Native.Nat.{ℕ}
use Rattle.market.specs.Market.{leg_by, leg_of}
use Rattle.market.proofs.leg_of.Goals as goal

pub returns : goal.returns
unfolding leg_of
returns c = c.leg_by.ensures ∙ ap (λ (p : ℕ × ℕ). leg_by p.0 p.1) c.pair_of-a.ensures
