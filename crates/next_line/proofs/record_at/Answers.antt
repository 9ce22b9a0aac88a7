-- `next_line::record_at` meets its contract. Assumes nothing.
use Rattle.next_line.specs.laws.Records.{trade-whole, quote-whole}
use Rattle.next_line.proofs.record_at.Goals as goal

pub returns-in-Some : goal.returns-in-Some
returns-in-Some c =
    (trade-whole _ _ _ _ _ c.in_ok-time.ensures _ c.in-Some.ensures _ (record { trade = record { holds = c.trade_at.ensures } })).here.holds

pub returns : goal.returns
returns c =
    (quote-whole _ _ _ _ _ c.in_ok-time.ensures _ c.in_ok-bid.ensures _ (record { quote = record { holds = c.quote_at.ensures } })).here.holds
