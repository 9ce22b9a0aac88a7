-- What holds as `tape_writer::put_lines` passes over the fields, and that it ends. Assumes nothing.
use Rattle.sheet.specs.laws.Walk.{left}
use Rattle.tape_writer.specs.laws.Lining.{Lining}
use Rattle.tape_writer.proofs.put_lines.Given as goal

abbrev pub invariant-loop-field : goal.invariant-loop-field
invariant-loop-field l = Lining l.sheet l.initial.tape l.from l.at l.tape

abbrev pub decreases-loop-field : goal.decreases-loop-field
decreases-loop-field l = left l.sheet l.from
