-- `sheet::past_records` meets its contract: each need is a law of the loop. Assumes nothing.
use Rattle.sheet.specs.laws.Past.{size-some, record-room, record-fits, record-less, record-whole, record-next}
use Rattle.sheet.proofs.past_records.Goals as goal

pub number_behind-time-requires : goal.number_behind-time-requires
number_behind-time-requires c = let some = size-some _ c.in-Some.ensures in record-whole _ _ _ c.loop-size.invariant some.0 some.1

pub after_record-progress-requires : goal.after_record-progress-requires
after_record-progress-requires c = let some = size-some _ c.in-Some.ensures in record-room _ _ _ c.loop-size.invariant some.0 some.1

pub overflow_add-at : goal.overflow_add-at
overflow_add-at c = let some = size-some _ c.in-Some.ensures in record-fits _ _ _ c.loop-size.invariant some.0 some.1

pub loop-size-smaller : goal.loop-size-smaller
loop-size-smaller c = let some = size-some _ c.in-Some.ensures in record-less _ _ _ c.loop-size.invariant some.0 some.1

pub loop-size-preserved : goal.loop-size-preserved
loop-size-preserved c =
    let some = size-some _ c.in-Some.ensures in
    record-next _ _ _ c.loop-size.invariant some.0 some.1 c.number_behind-time.ensures c.if-time-progress.false c.after_record-progress.ensures
