-- `tape_writer::text_length` meets its contract. Assumes nothing.
use borrow.Author.Rules.{rules}
use Rattle.sheet.specs.laws.Walk.{less-read}
use Rattle.tape_writer.specs.laws.Lining.{len-start, len-stop, len-next, len-line, len-fits}
use Rattle.tape_writer.proofs.text_length.Goals as goal

ruleset lining = (len-start, len-stop, len-next, len-line, len-fits, less-read, rules)

pub loop-field-init : goal.loop-field-init
loop-field-init c = search lining

pub returns : goal.returns
returns c = len-stop _ _ _ c.loop-field.invariant c.shape_at.ensures c.in_default.not-Ok

pub line_length-len-requires : goal.line_length-len-requires
line_length-len-requires c = search lining

pub overflow_add-len : goal.overflow_add-len
overflow_add-len c = search lining

pub loop-field-smaller : goal.loop-field-smaller
loop-field-smaller c = search lining

pub loop-field-preserved : goal.loop-field-preserved
loop-field-preserved c = search lining
