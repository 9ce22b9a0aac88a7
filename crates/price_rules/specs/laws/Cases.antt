-- The worked examples P1 to P15 of CASES as one table, under the definitions that price a sheet.
--     Case, Holds    a row of the table, and what it is for it to hold
--     cases          the table;  cases-hold    every row of it holds
-- Assumes nothing.
use Rattle.std.specs.Prelude.{ℕ, ◌*◌, ◌≡◌, refl, Bool, true, false, List, [], ◌∷◌, ℤ, pos, neg_ℤ}
use Rattle.std.proofs.Common.{sym, ap, lit≤}
use Rattle.field.specs.declared.Field.{Field}
use Rattle.field.specs.declared.Field.TheVariants.{PreviousClose, Trade}
use Rattle.market.specs.Market.{M3, M2, M4, M1, Cash, is_in, named, metal_of, contract_of, leg_of, step_of, start_of, window_length, in_window, marked}
use Rattle.market.specs.laws.Rows.{window-length}
use Rattle.cents.specs.Round.{round}
use Rattle.price_rules.specs.declared.Method.TheVariants.{Vwap, Twap}
use Rattle.cents.specs.Close.{close_of}
use Rattle.indicator.specs.Indicator.{taken, after_from, twap_sum}
use Rattle.indicator.specs.Spans.{spans_from, products_of}
use Rattle.indicator.proofs.Spans.{by-spans}
use Rattle.indicator.proofs.Examples.{p4, p4-reference}
use Rattle.indicator.proofs.Examples as m1
use Rattle.twap.specs.Span.{missing, sum, span_of}
use Rattle.trades.specs.Trades.{Deal, counts, trade_in, trades_in, lots_in}
use Rattle.price_rules.specs.Closing.{Told, close, refused, row_answer, Known, answer_by, figures_of, vwap_lots, vwap_sum, deals_sum, implied_by}

-- a contract's answer by its row, from fields of a metal with no marks and the third value 0, with the closes before it in pricing order; a rounded
-- number; the trades of an instrument that count; the step of a contract of a Copper sheet without records, by its third value and what is known
pub data Case : Type 0 where
  priced : ℕ → List Field → List ℕ → ℕ → Told → Case
  stepped : ℕ → Known → ℕ → Told → Case
  rounds : ℤ → ℕ → ℕ → ℤ → Case
  counting : ℕ → ℕ → List Field → List Deal → Case

abbrev pub Holds : Case → Type 0
Holds (priced metal fs closes c answer) = row_answer (figures_of metal 0 0 fs) closes c ≡ answer
Holds (stepped third k c answer) = answer_by (figures_of 4 0 third []) k c ≡ answer
Holds (rounds n d u m) = round n d u ≡ m
Holds (counting metal i fs deals) = trades_in metal i fs ≡ deals

abbrev pub AllHold : List Case → Type 0
AllHold [] = Unit {0}
AllHold (c ∷ cs) = Holds c × AllHold cs

-- a trade at the start of Copper's spread window
abbrev deal : ℕ → ℤ → ℕ → Field
deal instrument cents lots = Trade 60000000 instrument (record { cents = cents }) lots

-- the exchange's Copper table: M3-3M; M2-M3 and M2-3M; M2-M4, M3-M4 and 3M-M4
abbrev for_m3 : List Field
for_m3 = deal 1 (pos 500) 100 ∷ deal 1 (pos 400) 50 ∷ deal 1 (pos 450) 200 ∷ deal 1 (pos 500) 25 ∷ []

abbrev for_m2 : List Field
for_m2 = deal 3 (pos 225) 50 ∷ deal 3 (pos 250) 250 ∷ deal 2 (pos 750) 5 ∷ deal 2 (pos 700) 15 ∷ []

abbrev for_m4 : List Field
for_m4 = deal 4 (pos 600) 5 ∷ deal 4 (pos 400) 1 ∷ deal 5 (pos 300) 500 ∷ deal 6 (pos 0) 100 ∷ deal 6 (neg_ℤ (pos 50)) 70 ∷ []

-- M1-M2's trade before the window, and its four quotes in it
abbrev for_m1 : List Field
for_m1 = m1.day

-- M2-3M and M2-M3 with 3 and 2 lots, and with 3 and 1
abbrev five_lots : List Field
five_lots = deal 2 (pos 20) 3 ∷ deal 3 (pos 10) 2 ∷ []

abbrev four_lots : List Field
four_lots = deal 2 (pos 20) 3 ∷ deal 3 (pos 10) 1 ∷ []

-- Cash-M1's previous close
abbrev for_cash : List Field
for_cash = PreviousClose 11 (record { cents = pos 50 }) ∷ []

-- a trade on Nickel's M3-3M: 4 lots at -5.00
abbrev nickel_at : ℕ → List Field
nickel_at time = Trade time 1 (record { cents = neg_ℤ (pos 500) }) 4 ∷ []

-- 3M at 7,003.00 by 7 lots, and whether a contract behind it was refused
abbrev behind_three : Bool → Known
behind_three stopped = record { closes = 700300 ∷ 0 ∷ 0 ∷ 0 ∷ 0 ∷ 0 ∷ []; stopped = stopped; three = close Vwap 700300 7 }

abbrev pub cases : List Case
cases =
    priced 4 for_m3 (920100 ∷ []) M3 (close Vwap 920560 375) ∷  -- P1
    priced 4 for_m2 (920100 ∷ 920560 ∷ []) M2 (close Vwap 920806 320) ∷  -- P2
    priced 4 for_m4 (920100 ∷ 920560 ∷ 920806 ∷ []) M4 (close Vwap 920225 676) ∷  -- P3
    priced 4 for_m1 (920100 ∷ 920560 ∷ 920806 ∷ 920225 ∷ []) M1 (close Twap 921186 0) ∷  -- P4
    priced 4 for_cash (920100 ∷ 920560 ∷ 920806 ∷ 920225 ∷ 921186 ∷ []) Cash (close Twap 921236 0) ∷  -- P5
    rounds (pos 920125) 1 50 (pos 920150) ∷  -- P6
    rounds (pos 920124) 1 50 (pos 920100) ∷  -- P7
    rounds (pos 1800049) 1 100 (pos 1800000) ∷  -- P8
    priced 4 five_lots (1000 ∷ 1000 ∷ []) M2 (close Vwap 1016 5) ∷  -- P9
    priced 4 four_lots (1000 ∷ 1000 ∷ []) M2 (close Twap 1010 4) ∷  -- P10
    counting 1 1 (nickel_at 58499999) (record { price = neg_ℤ (pos 500); lots = 4 } ∷ []) ∷  -- P11
    counting 1 1 (nickel_at 58500000) [] ∷  -- P12
    stepped 1 (behind_three false) M3 (close Vwap 700300 7) ∷  -- P13
    stepped 2 (behind_three true) M4 (refused 15 0) ∷  -- P14
    stepped 1 (behind_three false) M4 (refused 13 0) ∷  -- P15
    []

-- ---- the sums of the three that go by TWAP, by their spans

-- a previous close alone
cash-sum : twap_sum 11 60000000 for_cash ≡ pos (300000 * 50)
unfolding spans_from products_of taken window_length
cash-sum = sym (by-spans 11 60000000 for_cash (refl, tt))

-- a trade at the window's first millisecond
four-sum : twap_sum 3 60000000 four_lots ≡ pos (300000 * 10)
unfolding spans_from products_of taken window_length
four-sum = sym (by-spans 3 60000000 four_lots (lit≤ tt, (lit≤ tt, tt)))

-- and the sums that the windows have
m1-span : span_of 7 60000000 for_m1 ≡ sum (pos (300000 * 380))
unfolding span_of
m1-span = rw p4-reference (ap sum p4)

cash-span : span_of 11 60000000 for_cash ≡ sum (pos (300000 * 50))
unfolding span_of taken after_from
cash-span = ap sum cash-sum

four-span : span_of 3 60000000 four_lots ≡ sum (pos (300000 * 10))
unfolding span_of taken after_from
four-span = ap sum four-sum

-- without records there is none
none-span : span_of 5 60000000 [] ≡ missing
unfolding span_of after_from
none-span = refl

pub cases-hold : AllHold cases
unfolding figures_of row_answer step_of contract_of vwap_lots vwap_sum trades_in trade_in counts in_window start_of metal_of lots_in deals_sum implied_by leg_of marked named is_in close_of round
cases-hold = (
  simp window-length,
  (
    simp window-length,
    (
      simp window-length,
      (
        simp (window-length, m1-span),
        (
          simp (window-length, cash-span),
          (
            refl,
            (
              refl,
              (
                refl,
                (
                  simp window-length,
                  (
                    simp (window-length, four-span),
                    (
                      simp window-length,
                      (
                        simp window-length,
                        (
                          refl,
                          (
                            refl,
                            (
                              simp none-span,
                              tt,
                            ),
                          ),
                        ),
                      ),
                    ),
                  ),
                ),
              ),
            ),
          ),
        ),
      ),
    ),
  ),
)
