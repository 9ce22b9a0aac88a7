-- `names::is_name` meets its contract. Assumes nothing.
use borrow.Author.Rules.{rules}
use Rattle.names.specs.laws.Finding.{same-long, alike-start, alike-not, alike_next, alike_end}
use Rattle.names.proofs.is_name.Goals as goal

ruleset alike = (same-long, alike-start, alike-not, alike_next, alike_end, rules)

pub returns-then-s-name : goal.returns-then-s-name
returns-then-s-name c = search alike

pub returns-then-s-i : goal.returns-then-s-i
returns-then-s-i c = search alike

pub loop-i-preserved : goal.loop-i-preserved
loop-i-preserved c = search alike

pub returns : goal.returns
returns c = search alike
