-- `text::copy_in` meets its contract. Assumes nothing.
use Rattle.text.proofs.Parts.{part-over}
use Rattle.text.proofs.copy_in.Goals as goal

pub returns : goal.returns
returns c = part-over _ _ _ _ c.copy_from_slice.ensures.after
