-- `next_line::side_at` meets its contract. Assumes nothing.
use Rattle.next_line.specs.laws.Records.{side-there, side-absent}
use Rattle.next_line.proofs.side_at.Goals as goal

pub returns-in-Some : goal.returns-in-Some
returns-in-Some c = side-there _ _ _ _ c.in-Some.ensures.0 c.in-Some.ensures.1

pub returns : goal.returns
returns c = side-absent _ _ _ c.in_ok-next.ensures
