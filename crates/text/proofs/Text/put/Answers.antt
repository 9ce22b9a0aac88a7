-- `text::Text::put` meets its contract. Assumes nothing.
use borrow.Author.Rules.{rules}
use Rattle.text.proofs.Puts.{stays-full, gets-full, grows}
use Rattle.text.proofs.Text.put.Goals as goal

pub returns-then-at-gt512 : goal.returns-then-at-gt512
returns-then-at-gt512 c = stays-full _ _ _ c.if-at-gt512.true

pub returns-then-at-s : goal.returns-then-at-s
returns-then-at-s c = gets-full _ _ _ (search rules) c.if-at-gt512.false c.if-at-s.true

pub returns : goal.returns
returns c = grows _ _ _ (search rules) c.if-at-gt512.false _ c.if-at-s.false c.copy_in.ensures
