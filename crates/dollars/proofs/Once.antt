-- Any two outcomes that a function's contract permits are equal. Assumes nothing.
use Rattle.promise.specs.Once.{Once}
use Rattle.promise.specs.laws.Once.{once}
use Rattle.dollars.proofs.read_price.Reads as read-price
use Rattle.dollars.proofs.read_price.Kinds as read-priceK

pub read-price-once : Once 1 read-priceK.ps read-priceK.r read-price.Post (λ κs x s. x)
read-price-once κs a x y s t p q = once p q
