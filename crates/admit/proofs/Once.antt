-- Any two results that a function's contract permits are equal. Assumes nothing.
use Rattle.promise.specs.Once.{Once}
use Rattle.promise.specs.laws.Once.{once}
use Rattle.admit.specs.laws.Admitting.{admit-once}
use Rattle.admit.proofs.begin.Reads as begin
use Rattle.admit.proofs.begin.Kinds as beginK
use Rattle.admit.proofs.admit.Reads as admit
use Rattle.admit.proofs.admit.Kinds as admitK
use Rattle.admit.proofs.previous_placed.Reads as previous-placed
use Rattle.admit.proofs.previous_placed.Kinds as previous-placedK
use Rattle.admit.proofs.after_header.Reads as after-header
use Rattle.admit.proofs.after_header.Kinds as after-headerK
use Rattle.admit.proofs.after_previous.Reads as after-previous
use Rattle.admit.proofs.after_previous.Kinds as after-previousK
use Rattle.admit.proofs.after_record.Reads as after-record
use Rattle.admit.proofs.after_record.Kinds as after-recordK

pub begin-once : Once 0 beginK.ps beginK.r begin.Post (λ κs x s. x)
begin-once κs a x y s t p q = once p q

pub admits-once : Once 0 admitK.ps admitK.r admit.Post (λ κs x s. x)
admits-once κs a x y s t p q = admit-once p q

pub previous-placed-once : Once 0 previous-placedK.ps previous-placedK.r previous-placed.Post (λ κs x s. x)
previous-placed-once κs a x y s t p q = once p q

pub after-header-once : Once 0 after-headerK.ps after-headerK.r after-header.Post (λ κs x s. x)
after-header-once κs a x y s t p q = once p q

pub after-previous-once : Once 0 after-previousK.ps after-previousK.r after-previous.Post (λ κs x s. x)
after-previous-once κs a x y s t p q = once p q

pub after-record-once : Once 0 after-recordK.ps after-recordK.r after-record.Post (λ κs x s. x)
after-record-once κs a x y s t p q = once p q
