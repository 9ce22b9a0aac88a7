-- Any two results that the contract of `sums_of` permits are equal. Assumes nothing.
use Rattle.promise.specs.Once.{Once}
use Rattle.twap.specs.laws.Span.{sums-once}
use Rattle.twap.proofs.sums_of.Reads as sums-of
use Rattle.twap.proofs.sums_of.Kinds as sums-ofK

pub sums-of-once : Once 1 sums-ofK.ps sums-ofK.r sums-of.Post (λ κs x s. x)
sums-of-once κs a x y s t p q = sums-once p q
