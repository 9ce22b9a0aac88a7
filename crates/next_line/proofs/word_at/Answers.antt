-- `next_line::word_at` meets its contract. Assumes nothing.
use Rattle.next_line.specs.laws.Records.{word-found}
use Rattle.std.proofs.Common.{rules}
use Rattle.next_line.proofs.word_at.Goals as goal

ruleset finding = (word-found, rules)

pub returns-then-is_name : goal.returns-then-is_name
returns-then-is_name c = search finding
