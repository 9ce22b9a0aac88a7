-- `cents::rounded_close` meets its contract: a sum below zero is no close, and of any other it says what `rounded_sum` says.
-- Assumes nothing.
use Rattle.cents.specs.laws.Close.{round-below}
use Rattle.cents.proofs.rounded_close.Goals as goal

pub returns-then-n-lt0 : goal.returns-then-n-lt0
returns-then-n-lt0 c = search round-below
