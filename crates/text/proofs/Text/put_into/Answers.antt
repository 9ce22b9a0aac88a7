-- `text::Text::put_into` meets its contract. Assumes nothing.
use Rattle.text.proofs.Puts.{held-yes, held-no, into-yes, into-no}
use Rattle.text.proofs.Text.put_into.Goals as goal

pub returns-then-self-gt512 : goal.returns-then-self-gt512
returns-then-self-gt512 c = into-no _ _ _ (held-no _ _ c.if-self-gt512.true)

pub returns : goal.returns
returns c = into-yes _ _ _ _ _ _ (held-yes _ _ c.if-self-gt512.false) (rw c.as_bytes.ensures at c.put_bytes.ensures)
