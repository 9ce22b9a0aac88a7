-- Any two results that the contract of `totals` permits are equal. Assumes nothing.
use Rattle.promise.specs.Once.{Once}
use Rattle.trades.specs.laws.Trades.{told-once}
use Rattle.trades.proofs.totals.Reads as totals
use Rattle.trades.proofs.totals.Kinds as totalsK

pub totals-once : Once 1 totalsK.ps totalsK.r totals.Post (λ κs x s. x)
totals-once κs a x y s t p q = told-once p q
