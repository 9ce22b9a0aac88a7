-- What holds as `tape_writer::text_length` passes over the fields, and that it ends. Assumes nothing.
use Rattle.sheet.specs.laws.Walk.{left}
use Rattle.sheet.specs.laws.Passes.{Sofar}
use Rattle.tape_writer.specs.laws.Lining.{text_long}
use Rattle.tape_writer.proofs.text_length.Given as goal

abbrev pub invariant-loop-field : goal.invariant-loop-field
invariant-loop-field l = Sofar text_long l.sheet l.from l.len

abbrev pub decreases-loop-field : goal.decreases-loop-field
decreases-loop-field l = left l.sheet l.from
