-- `tape_writer::put_lines` meets its contract: each goal is a law of the pass. Assumes nothing.
use borrow.Author.Rules.{rules}
use Rattle.sheet.specs.laws.Walk.{less-read}
use Rattle.tape_writer.specs.laws.Lining.{line-start, line-length, line-stop, line-room, line-next}
use Rattle.tape_writer.proofs.put_lines.Goals as goal

ruleset lining = (line-start, line-length, line-stop, line-room, line-next, less-read, rules)

pub returns : goal.returns
returns c = line-stop _ _ _ _ _ c.loop-field.invariant c.shape_at.ensures c.in_default.not-Ok

pub loop-field-init : goal.loop-field-init
loop-field-init c = search lining

pub put_line-at-requires : goal.put_line-at-requires
put_line-at-requires c = search lining

pub loop-field-smaller : goal.loop-field-smaller
loop-field-smaller c = search lining

pub loop-field-preserved : goal.loop-field-preserved
loop-field-preserved c = search lining
