-- `list_lines::put_line` meets its contract. Assumes nothing.
use Rattle.std.specs.Prelude.{None}
use Rattle.text.specs.laws.Held.{then_put, then_none}
use Rattle.list_lines.specs.laws.Listing.{answer-line}
use Rattle.list_lines.proofs.put_line.Goals as goal

pub returns-in_err-put_contract : goal.returns-in_err-put_contract
returns-in_err-put_contract c = rw (c.from_residual.ensures, answer-line) (then_none _ _ _ c.in_err-put_contract.ensures)

pub returns-in_err-put : goal.returns-in_err-put
returns-in_err-put c =
    rw (c.from_residual-in_err-put.ensures, answer-line) (then_put _ _ _ _ None c.in_ok-put_contract.ensures (then_none _ _ _ c.in_err-put.ensures.holds))

pub returns : goal.returns
returns c = rw answer-line (then_put _ _ _ _ _ c.in_ok-put_contract.ensures (then_put _ _ _ _ _ c.in_ok-put.ensures.holds c.put_answer.ensures))
