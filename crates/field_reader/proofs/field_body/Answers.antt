-- `field_reader::field_body` meets its contract. Assumes nothing.
-- where the field was read, it lies in the sheet
use Rattle.field.specs.laws.Field.{ReadOk, read_ok, Inside, shape-inside, body-given, body-none}
use native.Mathlib.Omega.{arith}
use mathlib.Core.Path.{sym}
use Rattle.field_reader.proofs.field_body.Goals as goal

known : (c : goal.In-Ok) → ReadOk c.args.sheet.now c.args.at c.in-Ok.field-0-0 c.in-Ok.next
known c = read_ok _ _ _ _ (sym c.in-Ok.ensures)

inside : (c : goal.In-Ok) → Inside c.args.sheet.now c.args.at c.in-Ok.next
inside c = shape-inside _ _ _ _ (known c).shape

pub overflow_add-result : goal.overflow_add-result
overflow_add-result c = omega (arith, inside c)

pub slice_bounds-result-count : goal.slice_bounds-result-count
slice_bounds-result-count c = omega (arith, inside c)

pub slice_bounds-result-start : goal.slice_bounds-result-start
slice_bounds-result-start c = omega (arith, inside c)

pub slice_bounds-result-end : goal.slice_bounds-result-end
slice_bounds-result-end c = omega (arith, inside c)

pub returns-in-Ok : goal.returns-in-Ok
returns-in-Ok c =
    sym (body-given _ _ _ _ (sym c.in-Ok.ensures))

pub returns-in-Err : goal.returns-in-Err
returns-in-Err c =
    sym (body-none _ _ _ _ (sym c.in-Err.ensures))
