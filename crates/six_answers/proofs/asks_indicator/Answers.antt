-- `six_answers::asks_indicator` meets its contract. Assumes nothing.
use native.Mathlib.Omega.{arith}
use Rattle.contract_price.specs.laws.Numbers.{row-ruled}
use Rattle.six_answers.specs.laws.Asking.{asks-not, asks-by}
use Rattle.six_answers.proofs.asks_indicator.Goals as goal

pub lots_over-requires : goal.lots_over-requires
lots_over-requires c =
    let row = row-ruled c.args.c c.contract_of-row.ensures c.requires in
    (omega (arith, row.order, row.among), row.inside)

pub returns-then-not-is_named : goal.returns-then-not-is_named
returns-then-not-is_named c = asks-by _ _ c.args.c c.is_named.ensures c.if-not-is_named.true c.contract_of-row.ensures c.lots_over.ensures

pub returns-else-not-is_named : goal.returns-else-not-is_named
returns-else-not-is_named c = rw c.if-not-is_named.false (asks-not _ _ c.args.c c.is_named.ensures c.if-not-is_named.false)
