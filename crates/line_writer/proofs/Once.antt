-- Any two outcomes that the contract permits are equal: the place handed back, and every byte of the buffer. Assumes nothing.
use Rattle.promise.specs.Once.{Once}
use Rattle.promise.specs.laws.Once.{once}
use Rattle.line_writer.proofs.put_line.Reads as put-line
use Rattle.line_writer.proofs.put_line.Kinds as put-lineK

pub put-line-once : Once 1 put-lineK.ps put-lineK.r put-line.Post (λ κs x s. x)
put-line-once κs a x y s t p q = once p.0 q.0

pub put-line-leaves-once : Once 1 put-lineK.ps put-lineK.r put-line.Post (λ κs x s. s.0.now)
put-line-leaves-once κs a x y s t p q = once p.1 q.1
