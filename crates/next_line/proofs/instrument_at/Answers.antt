-- `next_line::instrument_at` meets its contract. Assumes nothing.
use Rattle.next_line.specs.laws.Records.{name-found, name-few, name-fits}
use Rattle.std.proofs.Common.{refl, rules}
use Rattle.next_line.proofs.instrument_at.Goals as goal

pub overflow_cast-result : goal.overflow_cast-result
overflow_cast-result c = search (name-fits, rules)

pub returns : goal.returns
returns c = (
  name-found _ _ _ c.requires c.name_end-next.ensures _ c.in_ok-instrument.ensures _ refl,
  name-few _ _ _ c.requires c.name_end-next.ensures _ c.in_ok-instrument.ensures _ refl,
)
