-- `cents::rounded_sum` meets its contract: the laws of `specs/Close.antt` at each return.
-- Assumes nothing.
use native.Mathlib.Nat.{zero-mul, mul-zero}
use native.Mathlib.Omega.{arith}
use Rattle.cents.specs.laws.Close.{round-none, round-above, round-steps, round-cents}
use Rattle.cents.proofs.rounded_sum.Goals as goal
use Rattle.cents.proofs.rounded_sum.Goals.{then-d-eq0-via-then-d-eq0, then-d-eq0-via-else-d-eq0+then-u-eq0}

pub returns-then-d-eq0 : goal.returns-then-d-eq0
returns-then-d-eq0 c =
    elim c.then-d-eq0.branch [
      | then-d-eq0-via-then-d-eq0 w ↦ round-none _ _ _ (rw w.if-d-eq0.true (zero-mul _))
      | then-d-eq0-via-else-d-eq0+then-u-eq0 w ↦ round-none _ _ _ (rw w.if-u-eq0.true (mul-zero _))
    ]

pub returns-then-s-twice : goal.returns-then-s-twice
returns-then-s-twice c = round-above _ _ _ c.if-d-eq0.false c.if-u-eq0.false (omega arith)

pub returns-then-s-eq1 : goal.returns-then-s-eq1
returns-then-s-eq1 c = search round-cents

pub returns : goal.returns
returns c = search round-steps
