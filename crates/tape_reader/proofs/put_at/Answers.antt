-- `tape_reader::put_at` meets its contract: what is put at the start of the part stands at its place in the whole. Assumes nothing.
use Rattle.raw_writer.proofs.Parts.{put-part}
use Rattle.field.specs.laws.Field.{field-length}
use Rattle.field.specs.Layout.{tag_of, size_of, field_bytes}
use mathlib.Core.List.{append_assoc}
use mathlib.Core.Path.{◌≡◌, sym, ap, ◌∙◌}
use native.Mathlib.Omega.{arith}
use lib.ListN.{take, length-take, length-drop}
use Rattle.tape_reader.proofs.put_at.Goals as goal

pub put_field-requires : goal.put_field-requires
put_field-requires c = simp (length-take, length-drop) (omega (arith, c.requires, field-length c.args.field))

pub returns : goal.returns
returns c =
    let a = c.args in
    let f = a.field in
    let size : c.size_of.result ≡ size_of (tag_of f) = c.size_of.ensures ∙ ap size_of c.tag_of.ensures in (
      omega (arith, size, field-length f),
      put-part (field_bytes f) a.sheet.now _ a.at c.requires c.put_field.ensures
          ∙ sym (append_assoc (take a.at a.sheet.now) (field_bytes f) _),
    )
