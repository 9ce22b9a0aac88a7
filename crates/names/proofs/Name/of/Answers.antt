-- `names::Name::of` meets its contract. Assumes nothing.
use Rattle.std.specs.Prelude.{refl}
use Rattle.std.proofs.Math.Seq.{take-length}
use Rattle.names.specs.laws.Names.{laid}
use Rattle.names.proofs.Name.of.Goals as goal

pub returns : goal.returns
returns c = laid c.args.s.now _ _ refl (simp (c.copy_from_slice.ensures.after, take-length))
