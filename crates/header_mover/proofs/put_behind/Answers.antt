-- `header_mover::put_behind` meets its contract. Assumes nothing.
use Rattle.header_mover.proofs.Behind.{one-more}
use Rattle.header_mover.proofs.put_behind.Goals as goal

pub loop-i-preserved : goal.loop-i-preserved
loop-i-preserved c = one-more _ _ _ _ _ c.loop-i.auto.out c.requires c.loop-i-test.true c.loop-i.invariant
