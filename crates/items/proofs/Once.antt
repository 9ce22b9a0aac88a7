-- Any two outcomes that a function's contract permits are equal. Assumes nothing.
use Rattle.promise.specs.Once.{Once}
use Rattle.promise.specs.laws.Once.{once}
use Rattle.items.proofs.end_of.Reads as end_of_lem
use Rattle.items.proofs.end_of.Kinds as end-ofK

pub end-of-once : Once 1 end-ofK.ps end-ofK.r end_of_lem.Post (λ κs x s. x)
end-of-once κs a x y s t p q = once p q
