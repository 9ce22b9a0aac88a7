-- `cents::close_of` meets its contract: each return is a case of `close_of`.
-- Assumes nothing.
use native.Mathlib.Omega.{arith}
use Rattle.cents.specs.laws.Close.{close-in, close-above, close-zero}
use Rattle.cents.proofs.close_of.Goals as goal
use Rattle.cents.proofs.close_of.Goals.{then-m-eq0-via-then-m-eq0, then-m-eq0-via-else-m-eq0+then-m-gt-HIGHEST}

pub returns-then-m-eq0 : goal.returns-then-m-eq0
returns-then-m-eq0 c =
    elim c.then-m-eq0.branch [
      | then-m-eq0-via-then-m-eq0 w ↦ close-zero _ w.if-m-eq0.true
      | then-m-eq0-via-else-m-eq0+then-m-gt-HIGHEST w ↦ close-above _ (omega arith)
    ]

pub returns : goal.returns
returns c = close-in _ c.if-m-eq0.false (omega arith)
