-- `admit::admit` meets its contract. Assumes nothing.
use borrow.Author.Rules.{rules}
use mathlib.Core.Path.{sym, ◌∙◌}
use Rattle.admit.specs.laws.Admitting.{admit-fine, admit-fault}
use Rattle.admit.proofs.admit.Goals as goal

pub returns-in_err-check : goal.returns-in_err-check
returns-in_err-check c = search (rules, admit-fault)

pub returns : goal.returns
returns c = c.taken.ensures ∙ sym (admit-fine _ _ (sym c.in_ok-check.ensures))
