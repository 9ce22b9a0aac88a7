-- `next_line::next_line` meets its contract. Assumes nothing.
use Rattle.items.specs.laws.Items.{end-least}
use Rattle.next_line.specs.laws.Next.{next-right, next_last, next_field, next-bad}
use Rattle.std.proofs.Common.{rules}
use Rattle.next_line.proofs.next_line.Goals as goal

ruleset reading = (next_last, next_field, next-bad, end-least, rules)

pub returns-in-Some : goal.returns-in-Some
returns-in-Some c = next-right _ _ _ c.in-Some.ensures

pub returns-then-text-end : goal.returns-then-text-end
returns-then-text-end c = search reading

pub slice_bounds-read_line-count : goal.slice_bounds-read_line-count
slice_bounds-read_line-count c = search reading

pub slice_bounds-read_line-start : goal.slice_bounds-read_line-start
slice_bounds-read_line-start c = search reading

pub returns-in-Some-read_line : goal.returns-in-Some-read_line
returns-in-Some-read_line c = search reading

pub returns-in-None : goal.returns-in-None
returns-in-None c = search reading
