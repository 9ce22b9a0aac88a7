-- What holds as `tape_reader::put_fields` lays the fields, and that it ends. Assumes nothing.
use Prim.Native.Nat.{◌-◌}
use lib.ListN.{length}
use Rattle.tape_reader.specs.laws.Laying.{Laying}
use Rattle.tape_reader.proofs.put_fields.Given as goal

abbrev pub invariant-loop-field : goal.invariant-loop-field
invariant-loop-field l = Laying l.text l.initial.sheet l.from l.at l.count l.sheet

abbrev pub decreases-loop-field : goal.decreases-loop-field
decreases-loop-field l = length l.text - l.from
