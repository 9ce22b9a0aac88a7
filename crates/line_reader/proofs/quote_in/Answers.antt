-- `line_reader::quote_in` meets its contract. Assumes nothing.
use Rattle.line_reader.specs.laws.Cases.{fits-instrument}
use borrow.Author.Rules.{rules}
use Rattle.line_reader.proofs.quote_in.Goals as goal

ruleset reading = (fits-instrument, rules)

pub overflow_cast-result : goal.overflow_cast-result
overflow_cast-result c = search reading
