-- A contract's step by the numbers that the code hands in is the definition's step: the sums are there wherever a contract asks for one.
--     sum-lent      what is handed in is within its sizes
--     step_of       the step is the definition's
-- Assumes nothing.
use Rattle.std.specs.Prelude.{ℕ, ◌-◌, ◌<◌, ◌≡◌, refl, Bool, true, false, ℤ, get_or, Option, None}
use Rattle.std.proofs.Math.Path.{sym}
use Rattle.std.proofs.Common.{ap, ◌∙◌, arith}
use mathlib.Core.List.{List, []}
use Rattle.std.proofs.lemmas.List.{get_or-replicate}
use Rattle.market.specs.declared.Contract.{Contract}
use Rattle.market.specs.Market.{minimum_lots, contracts, contract_of, instruments, start_of, named}
use Rattle.market.specs.laws.Rules.{ruled}
use Rattle.sheet.specs.Fields.{fields_of}
use Rattle.twap.specs.Span.{span_says, span_of}
use Rattle.price_rules.specs.Closing.{Figures, figures_of, lots_of, Known, answer_by}
use Rattle.price_rules.specs.declared.lent.Book.{Book}
use Rattle.contract_price.specs.laws.Numbers.{Summable, Lent, step_by, sum_over_lem, step_is}
use Rattle.six_answers.specs.laws.Ready.{Ready, figures_by, ready-small, ready-tallied, summable}
use Rattle.six_answers.specs.laws.Asking.{lots-are, own_lots, some_ask, unasked, Provided}

module _ (s : List ℕ) (book : Book) (ready : Ready s book) {asked : Bool} (a : asked ≡ some_ask book.third book.totals 6) (r : List (Option ℤ)) (p : Provided asked book.metal (fields_of s) r) where
  -- an instrument's sum as it is handed in
  abbrev handed : ℕ → Option ℤ
  handed i = get_or r i None

  sum-small : (i : ℕ) → i < 12 → Summable (span_says (handed i))
  sum-small i h = by-test asked refl
    where
      by-test : (b : Bool) → asked ≡ b → Summable (span_says (handed i))
      by-test true e = rw ((p.told e).each i h) (summable s ready.accepted i (start_of book.metal i))
      by-test false e = rw (p.none e, get_or-replicate {A = Option ℤ} 12 i None None h) tt

  module _ (c : ℕ) (h : c < 6) {row : Contract} (e : row ≡ contract_of c) where
    twap-in : row.twap < 12
    twap-in = let t = ruled c h in rw e (omega (arith, t.among, t.inside))

    pub sum-lent : {table spreads : List (List ℕ)} → table ≡ contracts → spreads ≡ instruments → Lent table spreads book.totals (handed row.twap)
    sum-lent t l = record { rows = t; legs = l; small = ready-small s book ready; summable = sum-small row.twap twap-in }

    -- the day's figures
    abbrev day : Figures
    day = figures_by s book

    -- its lots, from the totals that are lent
    own-lots : lots_of day (contract_of c) ≡ own_lots book.totals c
    unfolding figures_of
    own-lots =
        let row = contract_of c in
        sym (sum_over_lem day book.totals (ready-tallied s book ready) c h []) ∙ lots-are book.marks [] book.totals row.first (row.past - row.first)

    -- below the minimum the sum is there
    asked_by : (b : Bool) → asked ≡ b → named book.third c ≡ false → lots_of day (contract_of c) < minimum_lots → span_says (handed row.twap) ≡ span_of (contract_of c).twap (start_of book.metal (contract_of c).twap) (fields_of s)
    asked_by true d n few = (p.told d).each row.twap twap-in ∙ ap (λ (x : Contract). span_of x.twap (start_of book.metal x.twap) (fields_of s)) e
    asked_by false d n few = absurd (omega (arith, few, own-lots, unasked book.third book.totals c 6 (sym a ∙ d) h n))

    pub step_of : (k : Known) → step_by book.metal book.marks book.third book.totals (span_says (handed row.twap)) k c ≡ answer_by day k c
    unfolding figures_of
    step_of k = step_is day book.totals (ready-tallied s book ready) c h (span_says (handed row.twap)) k (asked_by asked refl)
