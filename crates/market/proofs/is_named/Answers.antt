-- `market::is_named` meets its contract: the table has the row, or it has none. Assumes nothing.
use native.Mathlib.Omega.{arith}
use Rattle.std.proofs.Math.Decide.{dec_lt}
use Rattle.market.specs.laws.Rows.{named-row, named_none, named-above}
use Rattle.market.proofs.is_named.Goals as goal

pub returns-in-1 : goal.returns-in-1
returns-in-1 c = rw c.in-1.is (named-row 1 c.args.contract (omega arith) (omega arith))

pub returns-in-2 : goal.returns-in-2
returns-in-2 c = rw c.in-2.is (named-row 2 c.args.contract (omega arith) (omega arith))

pub returns-in_default : goal.returns-in_default
returns-in_default c =
    elim (dec_lt 2 c.args.third) [
      | yes above ↦ named-above _ _ above
      | no within ↦ named_none _ _ (omega arith)
    ]
