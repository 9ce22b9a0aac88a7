-- Any two parts that the contract of `put_field` permits hold the same bytes. Assumes nothing.
use Rattle.promise.specs.Once.{Once}
use Rattle.promise.specs.laws.Once.{once}
use Rattle.raw_writer.proofs.put_field.Reads as put-field
use Rattle.raw_writer.proofs.put_field.Kinds as put-fieldK

pub put-field-once : Once 1 put-fieldK.ps put-fieldK.r put-field.Post (λ κs x s. s.0.now)
put-field-once κs a x y s t p q = once p q
