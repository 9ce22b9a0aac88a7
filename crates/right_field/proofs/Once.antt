-- Any two results that a function's contract permits are equal. Assumes nothing.
use Rattle.std.specs.Prelude.{ℕ}
use Rattle.std.specs.Int.{w8}
use Rattle.std.proofs.Common.{Fits}
use Rattle.promise.specs.Once.{Once}
use Rattle.promise.specs.laws.Once.{once}
use Rattle.right_field.proofs.right_at.Reads as right_at
use Rattle.right_field.proofs.right_at.Kinds as right-atK

pub right-at-once : (tag : ℕ) (fits : Fits w8 tag) → Once 2 (right-atK.ps tag fits) (right-atK.r tag fits) (right_at.Post tag fits) (λ κs x s. x)
right-at-once tag fits κs a x y s t p q = once p q
