-- `six_answers::price_all` meets its contract: what is known before each contract stands as the definition has it. Assumes nothing.
use Rattle.std.proofs.Common.{refl, ◌∙◌, arith}
use Rattle.contract_price.specs.laws.Numbers.{row-ruled}
use Rattle.six_answers.specs.laws.Steps.{sum-lent, step_of}
use Rattle.six_answers.specs.laws.State.{stands-first, stands-small, stands-next, stands-all}
use Rattle.six_answers.proofs.price_all.Goals as goal

pub loop-c-init : goal.loop-c-init
loop-c-init c = stands-first _ _ refl c.nothing-known.ensures

pub bounds-sums-row : goal.bounds-sums-row
bounds-sums-row c = let r = row-ruled _ c.contract_of-row.ensures (omega arith) in omega (arith, r.among, r.inside)

pub price_one-answer-requires : goal.price_one-answer-requires
price_one-answer-requires c =
    ((sum-lent _ _ c.requires c.some_ask.ensures _ c.sums_if-sums.ensures _ (omega arith) c.contract_of-row.ensures refl refl).summable, omega arith)

pub learn-known-requires : goal.learn-known-requires
learn-known-requires c =
    (omega arith, stands-small _ c.loop-c.invariant _ ((rw c.lent-closes.ensures at c.price_one-answer.ensures) ∙ step_of _ _ c.requires c.some_ask.ensures _ c.sums_if-sums.ensures _ (omega arith) c.contract_of-row.ensures _))

pub loop-c-preserved : goal.loop-c-preserved
loop-c-preserved c =
    stands-next _ c.loop-c.invariant _ ((rw c.lent-closes.ensures at c.price_one-answer.ensures) ∙ step_of _ _ c.requires c.some_ask.ensures _ c.sums_if-sums.ensures _ (omega arith) c.contract_of-row.ensures _) (omega arith) c.learn-known.ensures

pub returns : goal.returns
returns c = stands-all _ c.loop-c.invariant (omega arith)
