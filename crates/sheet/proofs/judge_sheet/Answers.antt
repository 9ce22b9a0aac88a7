-- `sheet::judge_sheet` meets its contract. Assumes nothing.
use borrow.Author.Rules.{rules}
use Rattle.sheet.specs.laws.Track.{too_long, at-start}
use Rattle.sheet.proofs.judge_sheet.Goals as goal

pub returns-then-sheet-gt1048576 : goal.returns-then-sheet-gt1048576
returns-then-sheet-gt1048576 c = search (too_long, rules)

pub judge_from-requires : goal.judge_from-requires
judge_from-requires c = search (at-start, rules)
