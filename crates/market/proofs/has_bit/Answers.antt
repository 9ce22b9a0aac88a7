-- `market::has_bit` meets its contract. Assumes nothing.
use Rattle.market.specs.laws.Rows.{bit-small}
use Rattle.market.proofs.has_bit.Goals as goal

pub overflow_shr-result : goal.overflow_shr-result
overflow_shr-result c = rw c.bit_of.ensures (bit-small _)
