-- Any two outcomes that the contract of `closing_list` permits are equal: the answer, and every byte of the lent buffer. Assumes nothing.
use Rattle.promise.specs.Once.{Once}
use Rattle.promise.specs.laws.Once.{once}
use Rattle.list.proofs.closing_list.Reads as closing-list
use Rattle.list.proofs.closing_list.Kinds as closing-listK

pub closing-list-once : Once 2 closing-listK.ps closing-listK.r closing-list.Post (λ κs x s. x)
closing-list-once κs a x y s t p q = once p.0 q.0

pub closing-list-leaves-once : Once 2 closing-listK.ps closing-listK.r closing-list.Post (λ κs x s. s.1.0.now)
closing-list-leaves-once κs a x y s t p q = once p.1 q.1
