-- `right_field::quote_values` meets its contract. Assumes nothing.
use Rattle.std.proofs.Common.{rules}
use Rattle.right_field.specs.laws.Right.{quote-values}
use Rattle.right_field.proofs.quote_values.Goals as goal

pub returns-then-sides-eq3 : goal.returns-then-sides-eq3
returns-then-sides-eq3 c = search (quote-values, rules)
