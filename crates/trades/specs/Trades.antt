-- RULES 4 and 5: the trades of each instrument that count, over a sheet's fields in sheet order, and their sums: lots, and lots times quoted
-- price. What a contract's VWAP is made of.
use Rattle.std.specs.Prelude.{ℕ, zero, suc, ◌+◌, ◌≡◌, Bool, ◌&&◌, cond, List, [], ◌∷◌, ◌++◌, map, eqb, ℤ, pos, ◌+ℤ◌, ◌*ℤ◌, replicate, Result, Ok, Err}
use Rattle.field.specs.declared.Field.{Field}
use Rattle.field.specs.declared.Field.TheVariants.{Header, PreviousClose, Trade, Quote, End}
use Rattle.field.specs.declared.Refusal.{Refusal}
use Rattle.field.specs.Said.{fault_number}
use Rattle.market.specs.Market.{start_of, in_window}
use Rattle.sheet.specs.Fields.{fields_of}
use Rattle.sheet.specs.Judgement.{Verdict, accepts, refuses-at, judge_sheet}
use Rattle.trades.specs.declared.Total.{Total}
use Rattle.trades.specs.declared.Traded.{Traded}

-- a trade: its quoted price in cents, and its lots
pub record Deal : Type 0 where
  pub price : ℤ
  pub lots : ℕ

-- RULES 4: a trade counts for its own instrument, where its time lies in that instrument's window
unfoldable pub counts : ℕ → ℕ → ℕ → ℕ → Bool
counts metal i instrument time = eqb instrument i && in_window (start_of metal i) time

-- the trade that a field is, where it counts
unfoldable pub trade_in : ℕ → ℕ → Field → List Deal
trade_in metal i (Header m marks form) = []
trade_in metal i (PreviousClose instrument price) = []
trade_in metal i (Trade time instrument price lots) = cond (counts metal i instrument time) (record { price = price.cents; lots = lots } ∷ []) []
trade_in metal i (Quote time instrument sides bid offer) = []
trade_in metal i (End count) = []

-- the trades of instrument i inside its window, in sheet order
unfoldable pub trades_in : ℕ → ℕ → List Field → List Deal
trades_in metal i [] = []
trades_in metal i (f ∷ fs) = trade_in metal i f ++ trades_in metal i fs

-- the sum of lots
unfoldable pub lots_in : List Deal → ℕ
lots_in [] = 0
lots_in (d ∷ ds) = d.lots + lots_in ds

-- the sum of lots times quoted price
unfoldable pub value_in : List Deal → ℤ
value_in [] = pos 0
value_in (d ∷ ds) = pos d.lots *ℤ d.price +ℤ value_in ds

-- both sums
abbrev pub sums_of : List Deal → Total
sums_of ds = record { lots = lots_in ds; value = value_in ds }

-- both sums of the trades of instrument i inside its window
unfoldable pub total_of : ℕ → ℕ → List Field → Total
total_of metal i fs = sums_of (trades_in metal i fs)

-- so many numbers, from the first on
abbrev pub numbers : ℕ → ℕ → List ℕ
numbers first zero = []
numbers first (suc n) = first ∷ numbers (suc first) n

-- the totals of the twelve instruments, 0 to 11
unfoldable pub totals_of : ℕ → List Field → List Total
totals_of metal fs = map (λ i. total_of metal i fs) (numbers 0 12)

-- the total of no trade, and twelve of it
abbrev pub none : Total
none = record { lots = 0; value = pos 0 }

abbrev pub no_trades : List Total
no_trades = replicate 12 none

-- the totals of an accepted sheet by its own metal; of a refused one, zeros
unfoldable pub totals_by : Verdict → List Field → List Total
totals_by (accepts day) fs = totals_of day.metal fs
totals_by (refuses-at number at) fs = no_trades

-- what a result says of the judgement, and of the totals: it has none where it refuses
abbrev pub judged_by : Result Traded Refusal → Verdict
judged_by (Ok traded) = accepts traded.day
judged_by (Err refusal) = refuses-at (fault_number refusal.fault) refusal.at

abbrev pub totals_in : Result Traded Refusal → List Total
totals_in (Ok traded) = traded.totals
totals_in (Err refusal) = no_trades

-- what a result tells of a sheet: its judgement, and its totals
pub record Told (s : List ℕ) (r : Result Traded Refusal) : Type 0 where
  pub judged : judged_by r ≡ judge_sheet s
  pub totals : totals_in r ≡ totals_by (judge_sheet s) (fields_of s)
