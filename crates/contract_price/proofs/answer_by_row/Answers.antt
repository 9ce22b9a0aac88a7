-- `contract_price::answer_by_row` meets its contract. Assumes nothing.
use mathlib.Core.Path.{◌≡◌, ◌∙◌}
use native.Mathlib.Omega.{arith}
use Prim.Native.Nat.{ℕ}
use Rattle.std.proofs.Common.{cond, eqb}
use Rattle.market.specs.Market.{metal_of, contract_of, step_of}
use Rattle.market.specs.declared.Contract.{Contract}
use Rattle.contract_price.specs.laws.Numbers.{few, row-built, row-ruled}
use Rattle.contract_price.proofs.answer_by_row.Goals as goal

-- the step is the contract's
step : (metal c : ℕ) {u : ℕ} {row : Contract} → u ≡ cond (eqb row.step 0) (metal_of metal).step row.step → row ≡ contract_of c → u ≡ step_of metal c
unfolding step_of
step metal c e is = e ∙ rw is

pub vwap_sum-s-requires : goal.vwap_sum-s-requires
vwap_sum-s-requires c =
    let row-is = c.contract_of-row.ensures in
    let row = row-ruled c.args.c row-is c.requires.1 in
    (omega (arith, row.order, row.among), rw row-is (few c.args.c c.requires.1), row.inside)

pub returns : goal.returns
returns c =
    let row-is = c.contract_of-row.ensures in
    rw (step c.args.book.now.metal c.args.c c.step_by.ensures row-is) at c.rounded.ensures
    ∙ row-built _ _ _ _ _ _ (c.vwap_sum-s.ensures ∙ rw row-is) (c.mean_by_lots-mean.ensures ∙ rw row-is)
