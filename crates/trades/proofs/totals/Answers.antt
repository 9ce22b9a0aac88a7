-- `trades::totals` meets its contract: an accepted sheet is short, and its values are in their ranges. Assumes nothing.
use Rattle.std.proofs.lemmas.Result.{err_from_is_err_and}
use Rattle.trades.specs.laws.Pass.{known-filled, known-short, told-accepted, told-refused}
use Rattle.trades.proofs.totals.Goals as goal

pub totals_of-requires : goal.totals_of-requires
totals_of-requires c = (known-filled _ c.judge_sheet.ensures c.in_ok-day.was, known-short _ c.judge_sheet.ensures c.in_ok-day.was)

pub returns : goal.returns
returns c = told-accepted _ c.judge_sheet.ensures c.in_ok-day.was c.totals_of.ensures

pub returns-in_err-day : goal.returns-in_err-day
returns-in_err-day c = let p = err_from_is_err_and c.from_residual.result c.from_residual.ensures.1 in rw (p.1, p.2) (told-refused _ c.judge_sheet.ensures c.in_err-day.was)
