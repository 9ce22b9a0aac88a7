-- Any two outcomes that the contract permits are equal, for each size. Assumes nothing.
use Prim.Native.Nat.{ℕ}
use mir.Syntax.{w64}
use mir.Val.{Fits}
use Rattle.promise.specs.Once.{Once}
use Rattle.promise.specs.laws.Once.{once}
use Rattle.whole_input.proofs.room.Reads as room
use Rattle.whole_input.proofs.room.Kinds as roomK

pub room-once : (n : ℕ) (h : Fits w64 n) → Once 1 (roomK.ps n h) (roomK.r n h) (room.Post n h) (λ κs x s. x)
room-once n h κs a x y s t p q = once p.0 q.0
