-- P4, the worked example of RULES 6: 375 for one minute, 400 for two, 375 for one and 350 for one are 380 on average. Here its spans, and the sum,
-- 300,000 times that.
-- G1 and G2: quotes that rest from before the window, over a last trade at 375.
-- Assumes nothing.
use Rattle.std.specs.Prelude.{ℕ, ◌+◌, ◌*◌, ◌≡◌, refl, true, false, List, [], ◌∷◌, ◌++◌, ℤ, pos, ◌*ℤ◌}
use Rattle.std.proofs.Common.{sym, ap, ◌∙◌, arith, lit≤}
use Rattle.field.specs.declared.Field.{Field}
use Rattle.field.specs.declared.Field.TheVariants.{Trade, Quote}
use Rattle.market.specs.Market.{window_length}
use Rattle.market.specs.laws.Rows.{window-length}
use Rattle.indicator.specs.Indicator.{cents_of, empty, value_of, taken, after_from, twap_sum, has_reference}
use Rattle.indicator.specs.Spans.{PricedSpan, spans_from, spans_of, products_of}
use Rattle.indicator.specs.laws.Indicator.{Rising, Counted, all_taken}
use Rattle.indicator.proofs.State.{whole-window}
use Rattle.indicator.proofs.Spans.{by-spans}

-- the start of Copper's spread window
abbrev pub start : ℕ
start = 60000000

-- M1-M2's last trade before the window, and its quotes in it: the bid alone, both, the offer alone, and a lower offer
abbrev traded : Field
traded = Trade 59000000 7 (record { cents = pos 375 }) 1

abbrev quoted : ℕ → ℕ → ℕ → ℕ → Field
quoted time sides bid offer = Quote time 7 sides (record { cents = pos bid }) (record { cents = pos offer })

-- the fields of the day
abbrev pub day : List Field
day = traded ∷ quoted 60060000 1 400 0 ∷ quoted 60120000 3 400 450 ∷ quoted 60180000 2 0 450 ∷ quoted 60240000 2 0 350 ∷ []

-- its spans, as a clerk writes them
abbrev line : ℕ → ℕ → ℕ → PricedSpan
line from to cents = record { from = from; to = to; price = pos cents }

abbrev pub table : List PricedSpan
table =
    line 60000000 60060000 375 ∷
    line 60060000 60120000 400 ∷
    line 60120000 60180000 400 ∷
    line 60180000 60240000 375 ∷
    line 60240000 60300000 350 ∷
    []

pub p4-spans : spans_of 7 start day ≡ table
unfolding spans_from taken window_length
p4-spans = refl

pub p4 : twap_sum 7 start day ≡ pos (300000 * 380)
unfolding products_of
p4 = sym (by-spans 7 start day (lit≤ tt, (lit≤ tt, (lit≤ tt, (lit≤ tt, (lit≤ tt, tt)))))) ∙ ap products_of p4-spans

-- and there is a reference at the window's first millisecond
pub p4-reference : has_reference 7 start day ≡ true
unfolding taken after_from
p4-reference = refl

-- ---- quotes that rest

-- the fields up to the window's first millisecond, those behind the window, and the indicator throughout it, in cents
pub record Resting : Type 0 where
  pub instrument : ℕ
  pub start : ℕ
  pub early : List Field
  pub later : List Field
  pub cents : ℕ

abbrev pub Holds : Resting → Type 0
Holds r = twap_sum r.instrument r.start (r.early ++ r.later) ≡ pos window_length *ℤ pos r.cents

abbrev pub All : (Resting → Type 0) → List Resting → Type 0
All P [] = Unit {0}
All P (r ∷ rs) = P r × All P rs

-- of M1-M2 in Copper's spread window
abbrev spread : List Field → List Field → ℕ → Resting
spread early later cents = record { instrument = 7; start = start; early = early; later = later; cents = cents }

-- a bid at noon
abbrev noon : Field
noon = quoted 43200000 1 400 0

-- 3M's trade, and its bid in the spread window
abbrev anchored : List Field
anchored = Trade 59000000 0 (record { cents = pos 900000 }) 1 ∷ Quote 60100000 0 1 (record { cents = pos 900100 }) (record { cents = pos 0 }) ∷ []

abbrev pub resting : List Resting
resting =
    spread (noon ∷ traded ∷ []) [] 400 ∷  -- a bid that stands since noon
    spread (noon ∷ quoted 50000000 1 390 0 ∷ traded ∷ []) [] 390 ∷  -- the latest of two
    spread (noon ∷ traded ∷ quoted 59999999 0 0 0 ∷ []) [] 375 ∷  -- the latest has no side: the book is empty
    spread (noon ∷ traded ∷ quoted 60000000 1 390 0 ∷ []) [] 390 ∷  -- one stamped at the start is in place at the first millisecond
    spread (traded ∷ []) (quoted 60300000 1 400 0 ∷ []) 375 ∷  -- one behind the window does not count
    record { instrument = 0; start = 60300000; early = anchored; later = []; cents = 900100 } ∷  -- 3M's bid rests into the anchor window
    []

-- the fields stand where the row says, and the state behind the early ones has its indicator
abbrev Fits : Resting → Type 0
Fits r = Counted r.start r.early × (Rising (r.start + window_length) r.later × (cents_of (value_of (all_taken r.instrument empty r.early)) ≡ pos r.cents))

fit-holds : (rs : List Resting) → All Fits rs → All Holds rs
fit-holds [] h = tt
fit-holds (r ∷ rs) h =
    let row = h.0 in
    (whole-window r.instrument r.start r.early r.later row.0 row.1.0 ∙ ap (λ (z : ℤ). pos window_length *ℤ z) row.1.1, fit-holds rs h.1)

pub resting-hold : All Holds resting
unfolding taken all_taken
resting-hold = fit-holds resting (
  ((lit≤ tt, (lit≤ tt, tt)), (tt, refl)),
  (
    ((lit≤ tt, (lit≤ tt, (lit≤ tt, tt))), (tt, refl)),
    (
      ((lit≤ tt, (lit≤ tt, (lit≤ tt, tt))), (tt, refl)),
      (
        ((lit≤ tt, (lit≤ tt, (lit≤ tt, tt))), (tt, refl)),
        (((lit≤ tt, tt), ((omega (arith, window-length), tt), refl)), (((lit≤ tt, (lit≤ tt, tt)), (tt, refl)), tt)),
      ),
    ),
  ),
)

-- a resting bid is no reference
pub resting-none : has_reference 7 start (noon ∷ []) ≡ false
unfolding taken after_from
resting-none = refl
