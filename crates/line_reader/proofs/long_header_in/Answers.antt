-- `line_reader::long_header_in` meets its contract. Assumes nothing.
use Rattle.line_reader.specs.laws.Cases.{fits-third}
use borrow.Author.Rules.{rules}
use Rattle.line_reader.proofs.long_header_in.Goals as goal

ruleset reading = (fits-third, rules)

pub overflow_cast-t : goal.overflow_cast-t
overflow_cast-t c = search reading
