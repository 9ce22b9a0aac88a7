-- `list_lines::put_two` meets its contract: piece behind piece, and where a piece does not fit, nothing. Assumes nothing.
use Rattle.std.specs.Prelude.{None}
use Rattle.text.specs.laws.Held.{then_put, then_none}
use Rattle.list_lines.proofs.put_two.Goals as goal

pub returns-in_err-put : goal.returns-in_err-put
returns-in_err-put c = rw c.from_residual.ensures (then_none _ _ _ c.in_err-put.ensures.holds)

pub returns-in_err-number : goal.returns-in_err-number
returns-in_err-number c =
    rw c.from_residual-in_err-number.ensures (then_put _ _ _ _ None c.in_ok-put.ensures.holds (then_none _ _ _ c.in_err-number.ensures.holds))

pub returns-in_err-put-2 : goal.returns-in_err-put-2
returns-in_err-put-2 c =
    rw c.from_residual-in_err-put-2.ensures
    (then_put _ _ _ _ None c.in_ok-put.ensures.holds (then_put _ _ _ _ None c.in_ok-number.ensures.holds (then_none _ _ _ c.in_err-put-2.ensures.holds)))

pub returns-in_err-number-2 : goal.returns-in_err-number-2
returns-in_err-number-2 c =
    rw c.from_residual-in_err-number-2.ensures
    (then_put _ _ _ _ None c.in_ok-put.ensures.holds (then_put _ _ _ _ None c.in_ok-number.ensures.holds (then_put _ _ _ _ None c.in_ok-put-2.ensures.holds (then_none _ _ _ c.in_err-number-2.ensures.holds))))

pub returns : goal.returns
returns c =
    then_put _ _ _ _ _ c.in_ok-put.ensures.holds (then_put _ _ _ _ _ c.in_ok-number.ensures.holds (then_put _ _ _ _ _ c.in_ok-put-2.ensures.holds (then_put _ _ _ _ _ c.in_ok-number-2.ensures.holds c.put-3.ensures.holds)))
