-- `cases::take_sheets` ends: each sheet is taken off the stream's front. Assumes nothing.
use lib.ListN.{length}
use Rattle.cases.proofs.take_sheets.Given as goal

abbrev pub decreases-loop-length : goal.decreases-loop-length
decreases-loop-length g l = length l.rest
