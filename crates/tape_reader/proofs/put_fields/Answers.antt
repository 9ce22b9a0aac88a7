-- `tape_reader::put_fields` meets its contract: each goal is a law of the loop. Assumes nothing.
use Rattle.std.specs.Prelude.{◌≡◌, Ok, Some, None}
use Rattle.std.proofs.Common.{ap, ◌∙◌, rules}
use Rattle.tape_reader.specs.laws.Laying.{lay-start, lay-length, lay-end, lay-bad, lay-room, lay-next, lay-counts, lay-less}
use Rattle.tape_reader.proofs.put_fields.Goals as goal
use Rattle.tape_reader.proofs.put_fields.Goals.{In-Ok-Some}

ruleset laying = (lay-start, lay-length, rules)

-- the field that was read, and the place behind its line
read : (c : In-Ok-Some) → c.next_line.result ≡ Ok (Some (c.in-Ok-Some.field, c.in-Ok-Some.next))
read c = c.in-Ok-Some.is ∙ ap Ok c.in-Ok-Some.field-0-is

pub loop-field-init : goal.loop-field-init
loop-field-init c = search laying

pub returns-in_default : goal.returns-in_default
returns-in_default c =
    let none : c.next_line.result ≡ Ok None = search rules in
    lay-end _ _ _ _ _ _ c.loop-field.invariant _ c.next_line.ensures none

pub returns-in_default-2 : goal.returns-in_default-2
returns-in_default-2 c = lay-bad _ _ _ _ _ _ c.loop-field.invariant _ c.next_line.ensures _ c.in_default.is

pub put_at-at-requires : goal.put_at-at-requires
put_at-at-requires c =
    lay-room _ _ _ _ _ _ c.loop-field.invariant _ c.next_line.ensures (read (goal.at.put_at-at-requires c).In-Ok-Some)

pub overflow_add-count : goal.overflow_add-count
overflow_add-count c =
    lay-counts _ _ _ _ _ _ c.loop-field.invariant _ c.next_line.ensures (read (goal.at.overflow_add-count c).In-Ok-Some)

pub loop-field-smaller : goal.loop-field-smaller
loop-field-smaller c =
    lay-less _ _ _ _ _ _ c.loop-field.invariant _ c.next_line.ensures (read (goal.at.loop-field-smaller c).In-Ok-Some)

pub loop-field-preserved : goal.loop-field-preserved
loop-field-preserved c =
    lay-next _ _ _ _ _ _ c.loop-field.invariant _ c.next_line.ensures (read (goal.at.loop-field-preserved c).In-Ok-Some) c.put_at-at.ensures
