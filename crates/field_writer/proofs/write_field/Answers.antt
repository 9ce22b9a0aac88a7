-- `field_writer::write_field` meets its contract: a field that earns nothing is put where it has room. Assumes nothing.
use Rattle.std.proofs.Common.{◌≡◌, sym, ◌∙◌, arith, rules, length}
use Rattle.raw_writer.proofs.Parts.{put-part}
use Rattle.field.specs.Judging.{fine}
use Rattle.field.specs.Writing.{write_number}
use Rattle.field.specs.laws.Field.{may_write, field-length, written-fine}
use Rattle.field.specs.Layout.{field_bytes}
use Rattle.field_writer.proofs.write_field.Goals as goal

pub returns : goal.returns
returns c =
    let a = c.args in
    let none : write_number (length a.buffer.now) a.at a.field ≡ fine = search rules in
    let w = written-fine _ _ _ none in (
      simp c.field_size.ensures (sym w.0),
      put-part (field_bytes a.field) a.buffer.now _ a.at (omega (arith, (may_write _ _ _ none).room, field-length a.field)) c.put_field.ensures ∙ sym w.1,
    )
