-- Any two outcomes that a contract permits are equal: the answer, and every byte of the buffer. Assumes nothing.
use Rattle.promise.specs.Once.{Once}
use Rattle.promise.specs.laws.Once.{once}
use Rattle.field.specs.laws.Said.{written_once}
use Rattle.header_mover.proofs.to_new_header.Reads as to-new-header
use Rattle.header_mover.proofs.to_new_header.Kinds as to-new-headerK
use Rattle.header_mover.proofs.to_old_header.Reads as to-old-header
use Rattle.header_mover.proofs.to_old_header.Kinds as to-old-headerK

pub to-new-header-once : Once 2 to-new-headerK.ps to-new-headerK.r to-new-header.Post (λ κs x s. x)
to-new-header-once κs a x y s t p q = written_once p.0 q.0

pub to-new-header-leaves-once : Once 2 to-new-headerK.ps to-new-headerK.r to-new-header.Post (λ κs x s. s.1.0.now)
to-new-header-leaves-once κs a x y s t p q = once p.1 q.1

pub to-old-header-once : Once 2 to-old-headerK.ps to-old-headerK.r to-old-header.Post (λ κs x s. x)
to-old-header-once κs a x y s t p q = written_once p.0 q.0

pub to-old-header-leaves-once : Once 2 to-old-headerK.ps to-old-headerK.r to-old-header.Post (λ κs x s. s.1.0.now)
to-old-header-leaves-once κs a x y s t p q = once p.1 q.1
