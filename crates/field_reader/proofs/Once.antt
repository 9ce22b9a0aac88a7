-- Any two results that a function's contract permits are equal: what was read, and the bytes of the part handed back. Assumes nothing.
use Rattle.promise.specs.Once.{Once}
use Rattle.promise.specs.laws.Once.{once}
use Rattle.field.specs.laws.Said.{read-once}
use Rattle.field_reader.proofs.shape_at.Reads as shape_at
use Rattle.field_reader.proofs.shape_at.Kinds as shape-atK
use Rattle.field_reader.proofs.read_field.Reads as read-field
use Rattle.field_reader.proofs.read_field.Kinds as read-fieldK
use Rattle.field_reader.proofs.field_body.Reads as field-body
use Rattle.field_reader.proofs.field_body.Kinds as field-bodyK

pub shape-at-once : Once 1 shape-atK.ps shape-atK.r shape_at.Post (λ κs x s. x)
shape-at-once κs a x y s t p q = read-once p q

pub read-field-once : Once 1 read-fieldK.ps read-fieldK.r read-field.Post (λ κs x s. x)
read-field-once κs a x y s t p q = read-once p q

pub field-body-once : Once 1 field-bodyK.ps field-bodyK.r field-body.Post (λ κs x s. x.now)
field-body-once κs a x y s t p q = once p q
