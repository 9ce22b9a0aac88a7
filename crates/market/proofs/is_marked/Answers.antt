-- `market::is_marked` meets its contract. Assumes nothing.
use mathlib.Core.Path.{◌≡◌, sym}
use native.Mathlib.Omega.{arith}
use Rattle.market.specs.Market.{marked}
use Rattle.market.specs.laws.Rows.{marked-at, marked-above}
use Rattle.market.proofs.is_marked.Goals as goal

pub returns-in-1-to-16 : goal.returns-in-1-to-16
returns-in-1-to-16 c = sym (marked-at _ _ (λ e. omega arith))

pub returns-in_default : goal.returns-in_default
unfolding marked
returns-in_default c = let none : c.args.instrument ≡ 0 = omega arith in simp none

pub returns-in_default-2 : goal.returns-in_default-2
returns-in_default-2 c = sym (marked-above _ _ (omega arith) (omega arith))
