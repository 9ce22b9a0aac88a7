-- `list_lines::put_answer` meets its contract. Assumes nothing.
use Rattle.text.specs.laws.Held.{then_put, then_none}
use Rattle.list_lines.proofs.put_answer.Goals as goal

pub returns-in_err-put_method-in-Ok : goal.returns-in_err-put_method-in-Ok
returns-in_err-put_method-in-Ok c = rw (c.from_residual.ensures, c.in-Ok.is) (then_none _ _ _ c.in_err-put_method-in-Ok.ensures)

pub returns-in_ok-put_method-in-Ok : goal.returns-in_ok-put_method-in-Ok
returns-in_ok-put_method-in-Ok c = rw c.in-Ok.is (then_put _ _ _ _ _ c.in_ok-put_method-in-Ok.ensures c.put_two.ensures)
