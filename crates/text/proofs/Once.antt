-- Any two outcomes that a function's contract permits are equal: the answer, and every byte of the lent buffer. Assumes nothing.
use Rattle.promise.specs.Once.{Once}
use Rattle.promise.specs.laws.Once.{once}
use Rattle.text.proofs.put_bytes.Reads as put-bytes
use Rattle.text.proofs.put_bytes.Kinds as put-bytesK
use Rattle.text.proofs.Text.empty.Reads as empty
use Rattle.text.proofs.Text.empty.Kinds as emptyK
use Rattle.text.proofs.Text.put.Reads as put
use Rattle.text.proofs.Text.put.Kinds as put_k
use Rattle.text.proofs.Text.number.Reads as number
use Rattle.text.proofs.Text.number.Kinds as numberK
use Rattle.text.proofs.Text.as_bytes.Reads as as-bytes
use Rattle.text.proofs.Text.as_bytes.Kinds as as-bytesK
use Rattle.text.proofs.Text.put_into.Reads as put-into
use Rattle.text.proofs.Text.put_into.Kinds as put-intoK

pub put-bytes-once : Once 2 put-bytesK.ps put-bytesK.r put-bytes.Post (λ κs x s. x)
put-bytes-once κs a x y s t p q = once p.0 q.0

pub put-bytes-leaves-once : Once 2 put-bytesK.ps put-bytesK.r put-bytes.Post (λ κs x s. s.0.now)
put-bytes-leaves-once κs a x y s t p q = once p.1 q.1

pub empty-once : Once 0 emptyK.ps emptyK.r empty.Post (λ κs x s. x)
empty-once κs a x y s t p q = once p q

pub put-once : Once 1 put_k.ps put_k.r put.Post (λ κs x s. x)
put-once κs a x y s t p q = once p.is q.is

pub number-once : Once 0 numberK.ps numberK.r number.Post (λ κs x s. x)
number-once κs a x y s t p q = once p.is q.is

pub as-bytes-once : Once 1 as-bytesK.ps as-bytesK.r as-bytes.Post (λ κs x s. x.now)
as-bytes-once κs a x y s t p q = once p q

pub put-into-once : Once 2 put-intoK.ps put-intoK.r put-into.Post (λ κs x s. x)
put-into-once κs a x y s t p q = once p.0 q.0

pub put-into-leaves-once : Once 2 put-intoK.ps put-intoK.r put-into.Post (λ κs x s. s.1.0.now)
put-into-leaves-once κs a x y s t p q = once p.1 q.1
