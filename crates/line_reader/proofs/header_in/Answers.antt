-- `line_reader::header_in` meets its contract. Assumes nothing.
use Rattle.line_reader.specs.laws.Cases.{fits-wide, fits-metal}
use borrow.Author.Rules.{rules}
use Rattle.line_reader.proofs.header_in.Goals as goal

ruleset reading = (fits-wide, fits-metal, rules)

pub overflow_cast-result : goal.overflow_cast-result
overflow_cast-result c = search reading

pub overflow_cast-result-2 : goal.overflow_cast-result-2
overflow_cast-result-2 c = search reading
