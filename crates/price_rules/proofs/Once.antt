-- Any two results that a function's contract permits are equal: an instrument's part in a sum, and a sum; and what is known, in what it says.
-- Assumes nothing.
use Rattle.promise.specs.Once.{Once}
use Rattle.promise.specs.laws.Once.{once}
use Rattle.price_rules.specs.Says.{known_says}
use Rattle.price_rules.proofs.Known.nothing.Reads as nothing
use Rattle.price_rules.proofs.Known.nothing.Kinds as nothingK
use Rattle.price_rules.proofs.Known.learn.Reads as learn
use Rattle.price_rules.proofs.Known.learn.Kinds as learnK
use Rattle.price_rules.proofs.lent.Closes.lent.Reads as lent
use Rattle.price_rules.proofs.lent.Closes.lent.Kinds as lentK
use Rattle.price_rules.proofs.implied_price.Reads as implied-price
use Rattle.price_rules.proofs.implied_price.Kinds as implied-priceK
use Rattle.price_rules.proofs.vwap_sum.Reads as vwap-sum
use Rattle.price_rules.proofs.vwap_sum.Kinds as vwap-sumK

pub nothing-once : Once 0 nothingK.ps nothingK.r nothing.Post (λ κs x s. known_says x)
nothing-once κs a x y s t p q = once p q

pub learn-once : Once 0 learnK.ps learnK.r learn.Post (λ κs x s. known_says x)
learn-once κs a x y s t p q = once p q

pub lent-once : Once 1 lentK.ps lentK.r lent.Post (λ κs x s. x.cents.now)
lent-once κs a x y s t p q = once p q

pub implied-price-once : Once 2 implied-priceK.ps implied-priceK.r implied-price.Post (λ κs x s. x)
implied-price-once κs a x y s t p q = once p q

pub vwap-sum-once : Once 3 vwap-sumK.ps vwap-sumK.r vwap-sum.Post (λ κs x s. x)
vwap-sum-once κs a x y s t p q = once p q
