-- A contract's answer by numbers alone: the totals of the trades, the sum of its TWAP instrument's indicator, and the closes before it.
--     mean_by, row_by, step_by     its mean, its answer by its row, and its step of the list
--     row_is, step_is           they are the definitions' of a day that has these numbers
--     Summable                  the size of a sum over a window that keeps every sum within 64 bits
--     Lent                      what a contract is priced from, within the sizes that keep every sum within 64 bits
--     row_of, row-ruled         a row of the table as it is looked up, and its rules
-- Assumes nothing.
use Rattle.std.specs.Prelude.{ℕ, ◌-◌, ◌≤◌, ◌<◌, ◌≡◌, Bool, ℤ, nat_abs, get_or, Option, Some}
use Rattle.std.proofs.Math.Path.{refl, sym, ap}
use Rattle.std.proofs.Common.{◌∙◌, arith, leb-false, leb→le}
use Rattle.std.proofs.Math.Bool.{true, false, cond}
use mathlib.Core.List.{List, []}
use Rattle.std.proofs.Math.Dec.{leb}
use Rattle.market.specs.declared.Contract.{Contract}
use Rattle.market.specs.Market.{minimum_lots, contracts, contract_by, contract_of, instruments, step_of, named}
use Rattle.market.specs.laws.Table.{below}
use Rattle.market.specs.laws.Rules.{Ruled, ruled}
use Rattle.trades.specs.declared.Total.{Total}
use Rattle.trades.specs.laws.Trades.{AllSmall}
use Rattle.twap.specs.Span.{Span, missing, sum, span_says}
use Rattle.price_rules.specs.declared.Method.TheVariants.{Vwap}
use Rattle.price_rules.specs.declared.Mean.{Mean}
use Rattle.price_rules.specs.declared.Sum.{Sum}
use Rattle.price_rules.specs.Closing.{Figures, mean, twap_by, lots_of, Told, refused, answered, row_answer, Known, answer_by}
use Rattle.price_rules.specs.laws.Adding.{Tallied, sum_by, sum_is}

-- ---- by numbers

-- VWAP at the minimum of lots or more, TWAP below
abbrev pub mean_by : ℕ → List ℕ → ℕ → Sum → Span → Option Mean
mean_by marks closes i t span = cond (leb minimum_lots t.lots) (Some (mean Vwap t.sum t.lots)) (twap_by marks closes i span)

-- the sum over a contract's VWAP instruments
abbrev pub sum_over : ℕ → List ℕ → List Total → ℕ → Sum
sum_over marks closes totals c = sum_by marks closes totals (contract_of c).first ((contract_of c).past - (contract_of c).first)

unfoldable pub row_by : ℕ → ℕ → List Total → List ℕ → Span → ℕ → Told
row_by metal marks totals closes span c =
    let t = sum_over marks closes totals c in
    answered (step_of metal c) t.lots (mean_by marks closes (contract_of c).twap t span)

pub row-built : (metal marks : ℕ) (totals : List Total) (closes : List ℕ) (span : Span) (c : ℕ) {t : Sum} {m : Option Mean} → t ≡ sum_over marks closes totals c → m ≡ mean_by marks closes (contract_of c).twap t span → answered (step_of metal c) t.lots m ≡ row_by metal marks totals closes span c
unfolding row_by
row-built metal marks totals closes span c e g = rw (g, e) refl

unfoldable pub step_by : ℕ → ℕ → ℕ → List Total → Span → Known → ℕ → Told
step_by metal marks third totals span k c = cond k.stopped (refused 15 0) (cond (named third c) k.three (row_by metal marks totals k.closes span c))

-- as the code goes: behind a refusal, 3M's answer where 3M is that contract, its row's answer else
module _ (metal marks third : ℕ) (totals : List Total) (span : Span) (closes : List ℕ) (three : Told) (c : ℕ) {stopped t : Bool} (goes_on : stopped ≡ false) (e : t ≡ named third c) where
  -- what is known before the contract
  abbrev before : Known
  before = record { closes = closes; stopped = stopped; three = three }

  pub step-named : t ≡ true → three ≡ step_by metal marks third totals span before c
  unfolding step_by
  step-named h = rw (goes_on, sym e ∙ h) refl

  pub step-rowed : t ≡ false → {x : Told} → x ≡ row_by metal marks totals closes span c → x ≡ step_by metal marks third totals span before c
  unfolding step_by
  step-rowed h k = rw (goes_on, sym e ∙ h) k

-- ---- they are the definitions' of a day

module _ (day : Figures) (totals : List Total) (tallied : Tallied day totals) (c : ℕ) (h : c < 6) where
  pub sum_over_lem : (closes : List ℕ) → (sum_over day.marks closes totals c).lots ≡ lots_of day (contract_of c)
  sum_over_lem closes =
      let row = ruled c h in
      rw (sum_is day closes totals tallied (contract_of c).first ((contract_of c).past - (contract_of c).first) (omega (arith, row.order, row.among, row.inside))) refl

  -- the sum over the window is asked for below the minimum alone
  module _ (span : Span) (asked : lots_of day (contract_of c) < minimum_lots → span ≡ day.span (contract_of c).twap) where
    row_is : (closes : List ℕ) → row_by day.metal day.marks totals closes span c ≡ row_answer day closes c
    unfolding row_by row_answer
    row_is closes =
        let row = ruled c h in
        rw (sum_is day closes totals tallied (contract_of c).first ((contract_of c).past - (contract_of c).first) (omega (arith, row.order, row.among, row.inside)))
        (ap (answered (step_of day.metal c) (lots_of day (contract_of c))) (by-lots closes (leb minimum_lots (lots_of day (contract_of c))) refl _))
      where
        by-lots : (closes : List ℕ) (b : Bool) → leb minimum_lots (lots_of day (contract_of c)) ≡ b → (m : Option Mean) → cond b m (twap_by day.marks closes (contract_of c).twap span) ≡ cond b m (twap_by day.marks closes (contract_of c).twap (day.span (contract_of c).twap))
        by-lots closes true e m = refl
        by-lots closes false e m = ap (twap_by day.marks closes (contract_of c).twap) (asked (leb-false minimum_lots (lots_of day (contract_of c)) e))

  pub step_is : (span : Span) (k : Known) → (named day.third c ≡ false → lots_of day (contract_of c) < minimum_lots → span ≡ day.span (contract_of c).twap) → step_by day.metal day.marks day.third totals span k c ≡ answer_by day k c
  unfolding step_by
  step_is span k asked = ap (cond k.stopped (refused 15 0)) (by_name (named day.third c) refl)
    where
      by_name : (b : Bool) → named day.third c ≡ b → cond b k.three (row_by day.metal day.marks totals k.closes span c) ≡ cond b k.three (row_answer day k.closes c)
      by_name true e = refl
      by_name false e = row_is span (asked e) k.closes

-- ---- sizes

-- the indicator's sum over a window, where there is one
abbrev pub Summable : Span → Type 0
Summable missing = Unit {0}
Summable (sum z) = nat_abs z ≤ 29999999700000

pub summed-small : {span : Span} {z : ℤ} → Summable span → sum z ≡ span → nat_abs z ≤ 29999999700000
summed-small {span} h e = rw (← e) at h

-- the rows of the tables, the totals of the trades, and the sum over the window
pub record Lent (table spreads : List (List ℕ)) (totals : List Total) (span : Option ℤ) : Type 0 where
  pub rows : table ≡ contracts
  pub legs : spreads ≡ instruments
  pub small : AllSmall 1048576 totals
  pub summable : Summable (span_says span)

-- a contract has at most four VWAP instruments
pub few : (c : ℕ) → c < 6 → (contract_of c).past - (contract_of c).first ≤ 4
unfolding contract_of
few c h = leb→le _ _ (below (λ c. leb ((contract_of c).past - (contract_of c).first) 4) 6 c tt h)

-- a row of the table as it is looked up, and its rules
pub row_of : (c : ℕ) {row : Contract} {table : List (List ℕ)} → row ≡ contract_by (get_or table c []) → table ≡ contracts → row ≡ contract_of c
unfolding contract_of
row_of c e t = e ∙ ap (λ (l : List (List ℕ)). contract_by (get_or l c [])) t

pub row-ruled : (c : ℕ) {row : Contract} → row ≡ contract_of c → c < 6 → Ruled c row
row-ruled c e h = rw e (ruled c h)
