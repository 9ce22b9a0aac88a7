-- `market::pair_of` meets its contract: the table has the row, or it has none. Assumes nothing.
use native.Mathlib.Omega.{arith}
use mathlib.Core.List.{[]}
use lib.ListN.{get_or-map}
use Rattle.market.specs.Market.{instruments}
use Rattle.market.specs.laws.Rows.{cells, pair-none}
use Rattle.market.proofs.pair_of.Goals as goal

pub returns-in-0-to-11 : goal.returns-in-0-to-11
returns-in-0-to-11 c = get_or-map cells instruments c.args.instrument []

pub returns-in_default : goal.returns-in_default
returns-in_default c = pair-none _ (omega arith)
