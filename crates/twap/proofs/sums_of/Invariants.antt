-- `twap::sums_of` meets its contract: the first i sums are told. Assumes nothing.
use Rattle.sheet.specs.Fields.{fields_of}
use Rattle.twap.specs.laws.Pass.{Summing}
use Rattle.twap.proofs.sums_of.Given as goal

abbrev pub invariant-loop-i : goal.invariant-loop-i
invariant-loop-i l = Summing l.metal (fields_of l.sheet) l.sums l.i
