-- Any two outcomes that a function's contract permits are equal: a number joined or split, or a part after a put. Assumes nothing.
use Rattle.promise.specs.Once.{Once}
use Rattle.promise.specs.laws.Once.{once}
use Rattle.wire.proofs.join2.Reads as join2
use Rattle.wire.proofs.join2.Kinds as join2K
use Rattle.wire.proofs.join4.Reads as join4
use Rattle.wire.proofs.join4.Kinds as join4K
use Rattle.wire.proofs.signed_of.Reads as Signed-of
use Rattle.wire.proofs.signed_of.Kinds as signed-ofK
use Rattle.wire.proofs.bits_of.Reads as bits_of
use Rattle.wire.proofs.bits_of.Kinds as bits-ofK
use Rattle.wire.proofs.put1.Reads as put1
use Rattle.wire.proofs.put1.Kinds as put1K
use Rattle.wire.proofs.put2.Reads as put2
use Rattle.wire.proofs.put2.Kinds as put2K
use Rattle.wire.proofs.put4.Reads as put4
use Rattle.wire.proofs.put4.Kinds as put4K
use Rattle.wire.proofs.put_signed.Reads as put-signed
use Rattle.wire.proofs.put_signed.Kinds as put-signedK

pub join2-once : Once 0 join2K.ps join2K.r join2.Post (λ κs x s. x)
join2-once κs a x y s t p q = once p q

pub join4-once : Once 0 join4K.ps join4K.r join4.Post (λ κs x s. x)
join4-once κs a x y s t p q = once p q

pub signed-of-once : Once 0 signed-ofK.ps signed-ofK.r Signed-of.Post (λ κs x s. x)
signed-of-once κs a x y s t p q = once p q

pub bits-of-once : Once 0 bits-ofK.ps bits-ofK.r bits_of.Post (λ κs x s. x)
bits-of-once κs a x y s t p q = once p q

pub put1-once : Once 1 put1K.ps put1K.r put1.Post (λ κs x s. s.0.now)
put1-once κs a x y s t p q = once p q

pub put2-once : Once 1 put2K.ps put2K.r put2.Post (λ κs x s. s.0.now)
put2-once κs a x y s t p q = once p q

pub put4-once : Once 1 put4K.ps put4K.r put4.Post (λ κs x s. s.0.now)
put4-once κs a x y s t p q = once p q

pub put-signed-once : Once 1 put-signedK.ps put-signedK.r put-signed.Post (λ κs x s. s.0.now)
put-signed-once κs a x y s t p q = once p q
