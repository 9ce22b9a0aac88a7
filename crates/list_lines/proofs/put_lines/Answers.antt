-- `list_lines::put_lines` meets its contract: line behind line, as long as they fit. Assumes nothing.
use Rattle.std.proofs.Common.{arith}
use Rattle.list_lines.specs.laws.Listing.{list_next, list-none, list-end}
use Rattle.list_lines.proofs.put_lines.Goals as goal

pub returns-in_err-text : goal.returns-in_err-text
returns-in_err-text c = rw c.from_residual.ensures (list-none _ _ _ _ c.loop-contract.invariant _ c.loop-contract-test.true c.in_err-text.ensures)

pub loop-contract-preserved : goal.loop-contract-preserved
loop-contract-preserved c = list_next _ _ _ _ c.loop-contract.invariant _ c.loop-contract-test.true _ c.in_ok-text.ensures

pub returns : goal.returns
returns c = list-end _ _ _ _ c.loop-contract.invariant c.loop-contract-test.false (omega arith)
