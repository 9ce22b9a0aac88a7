-- `trades::totals_of` meets its contract: at each place the totals are those of the fields before it. Assumes nothing.
use borrow.Author.Rules.{rules}
use mathlib.Core.Path.{refl}
use Rattle.sheet.specs.laws.ByInstrument.{size-four}
use Rattle.trades.specs.laws.Pass.{pass-start, pass-done, pass-small, pass-three, pass-sound, pass-trade, pass-nothing, pass-other, counted-on}
use Rattle.trades.proofs.totals_of.Goals as goal
use Rattle.trades.proofs.totals_of.Goals.{in-Some, in_default}

pub loop-at-init : goal.loop-at-init
loop-at-init c = pass-start _ _ c.requires.0 refl

pub trade_here-requires : goal.trade_here-requires
trade_here-requires c = search (pass-three, rules)

pub bounds-totals-i : goal.bounds-totals-i
bounds-totals-i c = search (counted-on, pass-sound, rules)

pub with_trade-requires : goal.with_trade-requires
with_trade-requires c = search (pass-small, rules)

pub bounds-totals-i-in-Some : goal.bounds-totals-i-in-Some
bounds-totals-i-in-Some c = search (counted-on, pass-sound, rules)

pub loop-at-preserved-then-tag-eq-TRADE : goal.loop-at-preserved-then-tag-eq-TRADE
loop-at-preserved-then-tag-eq-TRADE c =
    elim c.match-count_in.branch [
      | in-Some w ↦ rw w.totals-is (pass-trade _ _ _ _ c.loop-at.invariant c.loop-at-test.true refl c.if-tag-eq-TRADE.true c.trade_here.ensures c.metal_of-row.ensures c.count_in.ensures c.requires.0 w.in-Some.is w.with_trade.ensures)
      | in_default w ↦ rw w.totals-is (pass-nothing _ _ _ _ c.loop-at.invariant c.loop-at-test.true refl c.if-tag-eq-TRADE.true c.trade_here.ensures c.metal_of-row.ensures c.count_in.ensures w.in_default.is)
    ]

pub loop-at-preserved-then-tag-eq-QUOTE : goal.loop-at-preserved-then-tag-eq-QUOTE
loop-at-preserved-then-tag-eq-QUOTE c = search (pass-other, size-four, rules)

pub loop-at-preserved : goal.loop-at-preserved
loop-at-preserved c = search (pass-other, rules)

pub returns : goal.returns
returns c = search (pass-done, rules)
