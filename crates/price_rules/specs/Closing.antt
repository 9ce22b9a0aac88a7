-- RULES 2 and 4 to 9: the six answers, from the trades of each instrument that count and the sum of its indicator.
use Rattle.std.specs.Prelude.{ℕ, zero, suc, ◌+◌, ◌-◌, ◌*◌, Bool, true, false, not, cond, List, [], ◌∷◌, leb, eqb, ℤ, pos, ◌+ℤ◌, ◌-ℤ◌, ◌*ℤ◌, get_or, set, Option, Some, None}
use Rattle.field.specs.declared.Field.{Field}
use Rattle.field.specs.Judging.{third_of}
use Rattle.market.specs.declared.Leg.{Leg}
use Rattle.market.specs.declared.Leg.TheVariants.{Outright, Over, Under}
use Rattle.market.specs.declared.Contract.{Contract}
use Rattle.market.specs.Market.{3M, minimum_lots, leg_of, contract_of, start_of, step_of, marked, named, window_length}
use Rattle.cents.specs.Round.{round}
use Rattle.cents.specs.Close.{close_of}
use Rattle.cents.specs.Close as cents
use Rattle.trades.specs.Trades.{Deal, trades_in, lots_in}
use Rattle.twap.specs.Span.{Span, missing, sum, span_of}
use Rattle.sheet.specs.declared.Day.{Day}
use Rattle.sheet.specs.Fields.{fields_of}
use Rattle.sheet.specs.Judgement.{Verdict, accepts, refuses-at, judge_sheet}
use Rattle.price_rules.specs.declared.Method.{Method}
use Rattle.price_rules.specs.declared.Method.TheVariants.{Vwap, Twap}
use Rattle.price_rules.specs.declared.Mean.{Mean}

-- what pricing goes by: the header, and of each instrument its in-window trades and the sum of its indicator over the window
pub record Figures : Type 0 where
  pub metal : ℕ
  pub marks : ℕ
  pub third : ℕ
  pub trades : ℕ → List Deal
  pub span : ℕ → Span

unfoldable pub figures_of : ℕ → ℕ → ℕ → List Field → Figures
figures_of metal marks third fs = record { metal = metal; marks = marks; third = third; trades = λ i. trades_in metal i fs; span = λ i. span_of i (start_of metal i) fs }

-- ---- implied prices

-- RULES 2: a quoted price added to the other leg's close, or subtracted from it
abbrev pub applied : Bool → ℤ → ℤ → ℤ
applied true close price = close -ℤ price
applied false close price = close +ℤ price

-- RULES 2: whether it is subtracted. A spread under its other leg, or a marked one, and not both
abbrev pub less_of : Leg → Bool → Bool
less_of Outright mark = false
less_of (Over c) mark = mark
less_of (Under c) mark = not mark

-- RULES 2: the close of the other leg as it was established, rounded; an outright has none
abbrev pub base_of : List ℕ → Leg → ℕ
base_of closes Outright = 0
base_of closes (Over c) = get_or closes c 0
base_of closes (Under c) = get_or closes c 0

-- RULES 5, the implied price, so many times over: of the outright its price, of a spread the other leg's close with the spread added or subtracted
unfoldable pub implied_by : ℕ → List ℕ → ℕ → ℕ → ℤ → ℤ
implied_by marks closes i times price = applied (less_of (leg_of i) (marked marks i)) (pos (times * base_of closes (leg_of i))) price

-- of one trade
abbrev pub implied : ℕ → List ℕ → ℕ → ℤ → ℤ
implied marks closes i price = implied_by marks closes i 1 price

-- ---- VWAP and TWAP

-- RULES 5: the sum of lots times implied price over an instrument's trades
unfoldable pub deals_sum : ℕ → List ℕ → ℕ → List Deal → ℤ
deals_sum marks closes i [] = pos 0
deals_sum marks closes i (d ∷ ds) = pos d.lots *ℤ implied marks closes i d.price +ℤ deals_sum marks closes i ds

-- the same over the instruments first, first + 1, .., and their lots
unfoldable pub vwap_sum : Figures → List ℕ → ℕ → ℕ → ℤ
vwap_sum day closes first zero = pos 0
vwap_sum day closes first (suc n) = vwap_sum day closes first n +ℤ deals_sum day.marks closes (first + n) (day.trades (first + n))

unfoldable pub vwap_lots : Figures → ℕ → ℕ → ℕ
vwap_lots day first zero = 0
vwap_lots day first (suc n) = vwap_lots day first n + lots_in (day.trades (first + n))

-- what is divided by what
abbrev pub mean : Method → ℤ → ℕ → Mean
mean method n d = record { method = method; sum = n; weight = d }

-- RULES 6: the sum of the indicator over the window's milliseconds, applied to the other leg's close as often; none where there is no reference
abbrev pub twap_by : ℕ → List ℕ → ℕ → Span → Option Mean
twap_by marks closes i missing = None
twap_by marks closes i (sum s) = Some (mean Twap (implied_by marks closes i window_length s) window_length)

-- RULES 4: a contract's lots, the sum over all its VWAP instruments
abbrev pub lots_of : Figures → Contract → ℕ
lots_of day r = vwap_lots day r.first (r.past - r.first)

-- RULES 4: VWAP at the minimum or more, TWAP below
abbrev pub mean_of : Figures → List ℕ → Contract → Option Mean
mean_of day closes r =
    cond (leb minimum_lots (lots_of day r))
    (Some (mean Vwap (vwap_sum day closes r.first (r.past - r.first)) (lots_of day r)))
    (twap_by day.marks closes r.twap (day.span r.twap))

-- ---- the answers

-- a contract's answer: method, close and lots; or a number with the lots
pub data Told : Type 0 where
  close : Method → ℕ → ℕ → Told
  refused : ℕ → ℕ → Told

-- RULES 9: the rounded mean is a close, or 14
abbrev pub closed : Method → ℕ → cents.Said → Told
closed method lots (cents.close m) = close method m lots
closed method lots (cents.refused number) = refused number lots

-- RULES 8: rounded once, at the end; RULES 9, 13: no reference
abbrev pub answered : ℕ → ℕ → Option Mean → Told
answered step lots (Some m) = closed m.method lots (close_of (round m.sum m.weight step))
answered step lots None = refused 13 lots

-- one contract, by its row and the closes before it
unfoldable pub row_answer : Figures → List ℕ → ℕ → Told
row_answer day closes c = answered (step_of day.metal c) (lots_of day (contract_of c)) (mean_of day closes (contract_of c))

-- what is known before a contract: the closes established so far, whether a contract was refused, and the answer of 3M, none before its own step
pub record Known : Type 0 where
  pub closes : List ℕ
  pub stopped : Bool
  pub three : Told

-- RULES 9: 15 with 0 lots behind a refused contract; RULES 1: the contract that 3M is takes 3M's answer
abbrev pub answer_by : Figures → Known → ℕ → Told
answer_by day k c =
    cond k.stopped (refused 15 0)
    (cond (named day.third c) k.three
    (row_answer day k.closes c))

-- RULES 2 and 9: later contracts use the rounded close; a refused contract stops the list
abbrev pub closes_with : List ℕ → ℕ → Told → List ℕ
closes_with closes c (close method m lots) = set closes c m
closes_with closes c (refused number lots) = closes

abbrev pub is_refused : Told → Bool
is_refused (close method m lots) = false
is_refused (refused number lots) = true

abbrev pub learnt : Known → ℕ → Told → Known
learnt k c told = record { closes = closes_with k.closes c told; stopped = is_refused told; three = cond (eqb c 3M) told k.three }

-- before the first contract
abbrev pub nothing_known : Known
nothing_known = record { closes = 0 ∷ 0 ∷ 0 ∷ 0 ∷ 0 ∷ 0 ∷ []; stopped = false; three = refused 15 0 }

-- what is known before contract c in pricing order, and its answer
unfoldable pub known_at : Figures → ℕ → Known
known_at day zero = nothing_known
known_at day (suc c) = learnt (known_at day c) c (answer_by day (known_at day c) c)

abbrev pub answer_of : Figures → ℕ → Told
answer_of day c = answer_by day (known_at day c) c

-- 3M, M3, M2, M4, M1 and Cash
unfoldable pub closings_of : Figures → List Told
closings_of day = answer_of day 0 ∷ answer_of day 1 ∷ answer_of day 2 ∷ answer_of day 3 ∷ answer_of day 4 ∷ answer_of day 5 ∷ []

-- ---- a sheet's answers

-- the six answers with the header's values; or the sheet's refusal
pub data Answers : Type 0 where
  six : Day → List Told → Answers
  none-priced : ℕ → ℕ → Answers

abbrev pub answers_by : List Field → Verdict → Answers
answers_by fs (accepts day) = six day (closings_of (figures_of day.metal day.marks (third_of day.form) fs))
answers_by fs (refuses-at number at) = none-priced number at

unfoldable pub answers_of : List ℕ → Answers
answers_of s = answers_by (fields_of s) (judge_sheet s)
