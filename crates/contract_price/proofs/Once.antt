-- Any two results that the contract of `price_one` permits are equal. Assumes nothing.
use Rattle.promise.specs.Once.{Once}
use Rattle.price_rules.specs.laws.Says.{answer-once}
use Rattle.contract_price.proofs.price_one.Reads as price-one
use Rattle.contract_price.proofs.price_one.Kinds as price-oneK

pub price-one-once : Once 3 price-oneK.ps price-oneK.r price-one.Post (λ κs x s. x)
price-one-once κs a x y s t p q = answer-once p q
