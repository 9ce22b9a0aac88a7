-- `raw_writer::put_field` meets its contract: the head, and the body behind it. Assumes nothing.
use Rattle.raw_writer.proofs.Parts.{put-behind}
use Rattle.field.specs.laws.Field.{body-length}
use Rattle.field.specs.Layout.{head_bytes, body_bytes, tag_of}
use native.Mathlib.Omega.{arith}
use mathlib.Core.Path.{refl}
use Rattle.raw_writer.proofs.put_field.Goals as goal

pub returns : goal.returns
returns c =
    let a = c.args in
    put-behind (head_bytes (tag_of a.field)) (body_bytes a.field) a.part.now _ _ 3 refl (omega (arith, c.requires, body-length a.field)) (rw c.tag_of-tag.ensures at c.put_head.ensures) c.put_body.ensures
