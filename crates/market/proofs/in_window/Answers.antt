-- `market::in_window` meets its contract. Assumes nothing.
use mathlib.Core.Path.{sym, ◌∙◌}
use borrow.Author.Tests.{lt-leb}
use Rattle.market.specs.laws.Rows.{window-before, window-from}
use Rattle.market.proofs.in_window.Goals as goal

pub returns-then-start-time : goal.returns-then-start-time
returns-then-start-time c = sym (window-from _ _ c.if-start-time.true)

pub returns-else-start-time : goal.returns-else-start-time
returns-else-start-time c = lt-leb _ _ c.if-start-time.false ∙ sym (window-before _ _ c.if-start-time.false)
