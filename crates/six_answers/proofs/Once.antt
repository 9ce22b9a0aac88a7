-- Any two results that the contract of `closings` permits are equal. Assumes nothing.
use Rattle.promise.specs.Once.{Once}
use Rattle.price_rules.specs.laws.Says.{closed-once}
use Rattle.six_answers.proofs.closings.Reads as closings
use Rattle.six_answers.proofs.closings.Kinds as closingsK

pub closings-once : Once 1 closingsK.ps closingsK.r closings.Post (λ κs x s. x)
closings-once κs a x y s t p q = closed-once p q
