-- Any two results that a function's contract permits are equal. Assumes nothing.
use Rattle.promise.specs.Once.{Once}
use Rattle.promise.specs.laws.Once.{once}
use Rattle.field.specs.laws.Said.{read-once}
use Rattle.field_walker.specs.laws.Said.{turn-once}
use Rattle.field_walker.proofs.place_after.Reads as place_after
use Rattle.field_walker.proofs.place_after.Kinds as place-afterK
use Rattle.field_walker.proofs.Walker.new.Reads as new
use Rattle.field_walker.proofs.Walker.new.Kinds as newK
use Rattle.field_walker.proofs.Walker.place.Reads as place
use Rattle.field_walker.proofs.Walker.place.Kinds as placeK
use Rattle.field_walker.proofs.Walker.look.Reads as look
use Rattle.field_walker.proofs.Walker.look.Kinds as lookK
use Rattle.field_walker.proofs.Walker.body.Reads as body
use Rattle.field_walker.proofs.Walker.body.Kinds as bodyK
use Rattle.field_walker.proofs.Walker.step.Reads as step
use Rattle.field_walker.proofs.Walker.step.Kinds as stepK
use Rattle.field_walker.proofs.turn_at.Reads as turn_at
use Rattle.field_walker.proofs.turn_at.Kinds as turn-atK

pub place-after-once : Once 1 place-afterK.ps place-afterK.r place_after.Post (λ κs x s. x)
place-after-once κs a x y s t p q = once p q

pub new-once : Once 1 newK.ps newK.r new.Post (λ κs x s. x)
new-once κs a x y s t p q = once p q

pub place-once : Once 1 placeK.ps placeK.r place.Post (λ κs x s. x)
place-once κs a x y s t p q = once p q

pub look-once : Once 1 lookK.ps lookK.r look.Post (λ κs x s. x)
look-once κs a x y s t p q = read-once p q

pub body-once : Once 1 bodyK.ps bodyK.r body.Post (λ κs x s. x.now)
body-once κs a x y s t p q = once p q

pub step-once : Once 1 stepK.ps stepK.r step.Post (λ κs x s. x)
step-once κs a x y s t p q = once p q

pub turn-at-once : Once 1 turn-atK.ps turn-atK.r turn_at.Post (λ κs x s. x)
turn-at-once κs a x y s t p q = turn-once p q
