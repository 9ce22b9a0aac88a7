-- Any two results that the contract of `rounded_close` permits are equal.
-- Assumes nothing.
use Rattle.promise.specs.Once.{Once}
use Rattle.promise.specs.laws.Once.{through}
use Rattle.cents.specs.Close.{means}
use Rattle.cents.specs.laws.Close.{answer, answer-means}
use Rattle.cents.proofs.rounded_close.Kinds as kinds
use Rattle.cents.proofs.rounded_close.Reads as reads

pub rounded-close-once : Once 0 kinds.ps kinds.r reads.Post (λ κs x s. x)
rounded-close-once κs a x y s t p q = through means answer answer-means p q
