-- `list_lines::put_refusal` meets its contract. Assumes nothing.
use Rattle.text.specs.laws.Held.{then_put, then_none}
use Rattle.list_lines.proofs.put_refusal.Goals as goal

pub returns-in_err-put : goal.returns-in_err-put
returns-in_err-put c = rw c.from_residual.ensures (then_none _ _ _ c.in_err-put.ensures.holds)

pub returns : goal.returns
returns c = then_put _ _ _ _ _ c.in_ok-put.ensures.holds c.put_two.ensures
