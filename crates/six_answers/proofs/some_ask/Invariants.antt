-- `six_answers::some_ask` meets its contract: none of the contracts before this one asks. Assumes nothing.
use Rattle.std.proofs.Common.{◌≡◌, false}
use Rattle.six_answers.specs.laws.Asking.{some_ask}
use Rattle.six_answers.proofs.some_ask.Given as goal

abbrev pub invariant-loop-contract : goal.invariant-loop-contract
invariant-loop-contract l = false ≡ some_ask l.book.third l.book.totals l.contract
