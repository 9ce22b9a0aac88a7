-- `six_answers::closings` meets its contract. Assumes nothing.
use mathlib.Core.Path.{sym, ap, ◌∙◌}
use Rattle.std.proofs.lemmas.Result.{err_from_is_err_and}
use Rattle.sheet.specs.Fields.{fields_of}
use Rattle.trades.specs.Trades.{totals_by}
use Rattle.price_rules.specs.Closing.{six, answers_by, answers_of}
use Rattle.six_answers.specs.laws.Ready.{totals-ready}
use Rattle.six_answers.proofs.closings.Goals as goal

pub invariant_of-book : goal.invariant_of-book
unfolding totals_by
invariant_of-book c =
    let told = c.in_ok-traded.ensures in
    let e = sym told.judged in
    record { small = totals-ready c.args.sheet.now (record { day = _; judged = e }) c.in_ok-traded.traded.day.metal (told.totals ∙ rw e) }

pub price_all-requires : goal.price_all-requires
unfolding totals_by
price_all-requires c =
    let told = c.in_ok-traded.ensures in
    let e = sym told.judged in
    record { accepted = record { day = _; judged = e }; totals = told.totals ∙ rw e }

pub returns : goal.returns
unfolding answers_of
returns c =
    let told = c.in_ok-traded.ensures in
    rw (sym told.judged) (ap (six c.in_ok-traded.traded.day) (rw c.third_of.ensures at c.price_all.ensures))

pub returns-in_err-traded : goal.returns-in_err-traded
unfolding answers_of
returns-in_err-traded c =
    let p = err_from_is_err_and c.from_residual.result c.from_residual.ensures.1 in
    rw (p.1, p.2) (ap (answers_by (fields_of c.args.sheet.now)) c.in_err-traded.ensures.judged)
