-- Any two results that the contract permits are equal. Assumes nothing.
use Rattle.promise.specs.Once.{Once}
use Rattle.promise.specs.laws.Once.{once}
use Rattle.next_line.proofs.next_line.Reads as next-line
use Rattle.next_line.proofs.next_line.Kinds as next-lineK

pub next-line-once : Once 1 next-lineK.ps next-lineK.r next-line.Post (λ κs x s. x)
next-line-once κs a x y s t p q = once p q
