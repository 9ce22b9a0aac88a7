-- `sheet::judge_end` meets its contract. Assumes nothing.
use borrow.Author.Rules.{rules}
use Rattle.sheet.specs.laws.Past.{end-inside, end-next}
use Rattle.sheet.proofs.judge_end.Goals as goal

pub number_behind-count-requires : goal.number_behind-count-requires
number_behind-count-requires c = search (end-inside, rules)

pub returns-then-count-progress : goal.returns-then-count-progress
returns-then-count-progress c = search (end-next, rules)
