-- Any two outcomes that a function's contract permits are equal: the answer, and every byte of the lent buffer. Assumes nothing.
use Rattle.promise.specs.Once.{Once}
use Rattle.promise.specs.laws.Once.{once}
use Rattle.field.specs.laws.Said.{written_once}
use Rattle.field_writer.proofs.field_size.Reads as field-size
use Rattle.field_writer.proofs.field_size.Kinds as field-sizeK
use Rattle.field_writer.proofs.write_field.Reads as write-field
use Rattle.field_writer.proofs.write_field.Kinds as write-fieldK

pub field-size-once : Once 0 field-sizeK.ps field-sizeK.r field-size.Post (λ κs x s. x)
field-size-once κs a x y s t p q = once p q

pub write-field-once : Once 1 write-fieldK.ps write-fieldK.r write-field.Post (λ κs x s. x)
write-field-once κs a x y s t p q = written_once p.0 q.0

pub write-field-leaves-once : Once 1 write-fieldK.ps write-fieldK.r write-field.Post (λ κs x s. s.0.now)
write-field-leaves-once κs a x y s t p q = once p.1 q.1
