-- What the code prices from: an accepted sheet and the book of its header and totals; and that this is what the definitions price from.
-- Assumes nothing.
use Rattle.std.specs.Prelude.{ℕ, ◌≤◌, ◌≡◌, Bool, true, false, cond, List, ℤ, length}
use Rattle.std.proofs.Common.{arith}
use Rattle.trades.specs.declared.Total.{Total}
use Rattle.trades.specs.Trades.{total_of, totals_of}
use Rattle.trades.specs.laws.Trades.{AllSmall, totals-at, totals-small}
use Rattle.indicator.specs.Indicator.{has_reference, twap_sum}
use Rattle.twap.specs.Span.{missing, sum, span_of, Accepted}
use Rattle.twap.specs.laws.Sizes.{span-size}
use Rattle.sheet.specs.Fields.{fields_of}
use Rattle.sheet.specs.laws.Led.{stood-long}
use Rattle.sheet.specs.laws.Accepted.{accepted-stood, accepted-small, accepted-sound}
use Rattle.price_rules.specs.declared.lent.Book.{Book}
use Rattle.price_rules.specs.Closing.{Figures, figures_of}
use Rattle.price_rules.specs.laws.Adding.{Tallied, paired}
use Rattle.contract_price.specs.laws.Numbers.{Summable}

-- the sheet is accepted, and the book has the totals of its trades by the book's metal
pub record Ready (s : List ℕ) (book : Book) : Type 0 where
  pub accepted : Accepted s
  pub totals : book.totals ≡ totals_of book.metal (fields_of s)

-- the figures of a book's header over the sheet's fields
abbrev pub figures_by : List ℕ → Book → Figures
figures_by s book = figures_of book.metal book.marks book.third (fields_of s)

-- the book of which lots and values stand apart
abbrev pub book_of : (metal marks third : ℕ) (lots : List ℕ) (values : List ℤ) → AllSmall 1048576 (paired lots values) → Book
book_of metal marks third lots values small = record { metal = metal; marks = marks; third = third; totals = paired lots values; small = small }

-- no more fields than bytes
fields-few : (s : List ℕ) → Accepted s → length (fields_of s) ≤ 1048576
fields-few s a = omega (arith, stood-long (accepted-stood s a.day a.judged), accepted-small s a.day a.judged)

-- the totals of an accepted sheet are as small as a book's are
pub totals-ready : (s : List ℕ) → Accepted s → (metal : ℕ) {ts : List Total} → ts ≡ totals_of metal (fields_of s) → AllSmall 1048576 ts
totals-ready s a metal e = rw e (totals-small metal (fields_of s) 1048576 (accepted-sound s a.day a.judged) (fields-few s a))

pub ready-small : (s : List ℕ) (book : Book) → Ready s book → AllSmall 1048576 book.totals
ready-small s book r = totals-ready s r.accepted book.metal r.totals

pub ready-tallied : (s : List ℕ) (book : Book) → Ready s book → Tallied (figures_by s book) book.totals
unfolding figures_of total_of
ready-tallied s book r i h = rw r.totals (totals-at book.metal (fields_of s) i h)

-- the indicator's sum over a window, where there is one
pub summable : (s : List ℕ) → Accepted s → (i start : ℕ) → Summable (span_of i start (fields_of s))
unfolding span_of
summable s a i start = by (has_reference i start (fields_of s))
  where
    by : (t : Bool) → Summable (cond t (sum (twap_sum i start (fields_of s))) missing)
    by true = omega (arith, span-size i s a start)
    by false = tt
