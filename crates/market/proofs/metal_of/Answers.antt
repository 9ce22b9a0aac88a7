-- `market::metal_of` meets its contract: the table has the row, or it has none. Assumes nothing.
use Prim.Native.Nat.{◌-◌}
use mathlib.Core.Path.{◌≡◌, ◌∙◌}
use mathlib.Core.List.{[]}
use native.Mathlib.Omega.{arith}
use lib.ListN.{get_or-map}
use Rattle.market.specs.Market.{metals, metal_by, metal_of}
use Rattle.market.specs.laws.Rows.{metal-row, metal-none}
use Rattle.market.proofs.metal_of.Goals as goal

pub returns-in-1-to-5 : goal.returns-in-1-to-5
returns-in-1-to-5 c = get_or-map metal_by metals (c.args.metal - 1) [] ∙ metal-row _ (omega arith)

pub returns-in_default : goal.returns-in_default
unfolding metal_of
returns-in_default c = let none : c.args.metal ≡ 0 = omega arith in simp none

pub returns-in_default-2 : goal.returns-in_default-2
returns-in_default-2 c = metal-none _ (omega arith)
