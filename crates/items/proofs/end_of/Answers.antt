-- `items::end_of` meets its contract: each goal is a law of the walk. Assumes nothing.
use Rattle.std.proofs.Common.{◌∙◌}
use borrow.Author.Rules.{rules}
use Rattle.items.specs.laws.Walk.{at-stop, at_next, at_most}
use Rattle.items.proofs.end_of.Goals as goal

ruleset looking = (at-stop, at_next, rules)

pub returns-then-s-i : goal.returns-then-s-i
returns-then-s-i c = search looking

pub loop-i-preserved : goal.loop-i-preserved
loop-i-preserved c = search looking

pub returns : goal.returns
returns c = c.max.ensures ∙ at_most _ _ _ _ c.loop-i.invariant c.loop-i-test.false c.loop-i.auto.i-end
