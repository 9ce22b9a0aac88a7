-- `market::contract_of` meets its contract: the table has the row, or it has none. Assumes nothing.
use native.Mathlib.Omega.{arith}
use mathlib.Core.Path.{◌∙◌}
use mathlib.Core.List.{[]}
use lib.ListN.{get_or-map}
use Rattle.market.specs.Market.{contracts, contract_by, contract_of}
use Rattle.market.specs.laws.Rows.{contract-none}
use Rattle.market.proofs.contract_of.Goals as goal

pub returns-in-0-to-5 : goal.returns-in-0-to-5
unfolding contract_of
returns-in-0-to-5 c = get_or-map contract_by contracts c.args.contract []

pub returns-in_default : goal.returns-in_default
returns-in_default c = c.contract_by.ensures ∙ contract-none _ (omega arith)
