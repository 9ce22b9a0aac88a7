-- The second law over what pricing goes by: a spread that is quoted the other way round, with its mark, changes no answer.
--     Alike      two days whose instruments give the same lots, the same sum to every VWAP, and the same TWAP
--     alike      the six answers go by nothing else
--     turn       a turned spread gives the same
-- Assumes nothing.
use Prim.Native.Nat.{ℕ, zero, suc, ◌+◌, ◌-◌, ◌*◌, ◌<◌}
use Rattle.std.specs.Prelude.{◌≡◌, Bool, true, false, not, cond, List, ℤ, pos, neg_ℤ, Some}
use Rattle.std.proofs.Math.Path.{refl, ap, ap₂}
use Rattle.std.proofs.Common.{◌∙◌, arith}
use Rattle.std.proofs.Math.Decide.{ℕ_discrete}
use Rattle.std.proofs.Math.IntN.{◌+ℤ◌, neg_ℤ-neg_ℤ}
use Rattle.market.specs.declared.Leg.{Leg}
use Rattle.market.specs.declared.Leg.TheVariants.{Outright, Over, Under}
use Rattle.market.specs.Market.{leg_of, contract_of, marked, named, window_length}
use Rattle.market.specs.laws.Rules.{Earlier, priced_of, leg-earlier}
use Rattle.trades.specs.Trades.{lots_in, value_in}
use Rattle.twap.specs.Span.{Span, missing, sum}
use Rattle.price_rules.specs.declared.Method.TheVariants.{Twap}
use Rattle.price_rules.specs.Closing.{Figures, applied, less_of, base_of, implied_by, deals_sum, vwap_sum, vwap_lots, mean, twap_by, Told, refused, row_answer, Known, answer_by, learnt, known_at, answer_of, closings_of}
use Rattle.price_rules.specs.laws.Adding.{deals-are}

-- ---- the answers go only by what each instrument gives

pub record Gives (d d' : Figures) (i : ℕ) : Type 0 where
  pub lots : lots_in (d'.trades i) ≡ lots_in (d.trades i)
  pub vwap : (closes : List ℕ) → deals_sum d'.marks closes i (d'.trades i) ≡ deals_sum d.marks closes i (d.trades i)
  pub twap : (closes : List ℕ) → twap_by d'.marks closes i (d'.span i) ≡ twap_by d.marks closes i (d.span i)

pub record Alike (d d' : Figures) : Type 0 where
  pub metal : d'.metal ≡ d.metal
  pub third : d'.third ≡ d.third
  pub gives : (i : ℕ) → Gives d d' i

module _ {d d' : Figures} (same : Alike d d') where
  alike-lots : (first n : ℕ) → vwap_lots d' first n ≡ vwap_lots d first n
  unfolding vwap_lots
  alike-lots first zero = refl
  alike-lots first (suc n) = ap₂ ◌+◌ (alike-lots first n) (same.gives (first + n)).lots

  alike-sum : (closes : List ℕ) (first n : ℕ) → vwap_sum d' closes first n ≡ vwap_sum d closes first n
  unfolding vwap_sum
  alike-sum closes first zero = refl
  alike-sum closes first (suc n) = ap₂ ◌+ℤ◌ (alike-sum closes first n) ((same.gives (first + n)).vwap closes)

  alike-row : (closes : List ℕ) (c : ℕ) → row_answer d' closes c ≡ row_answer d closes c
  unfolding row_answer
  alike-row closes c =
      let r = contract_of c in
      rw (alike-sum closes r.first (r.past - r.first), alike-lots r.first (r.past - r.first), same.metal, (same.gives r.twap).twap closes) refl

  alike-by : (k : Known) (c : ℕ) → answer_by d' k c ≡ answer_by d k c
  alike-by k c = ap₂ (λ (n : Bool) (x : Told). cond k.stopped (refused 15 0) (cond n k.three x)) (ap (λ (t : ℕ). named t c) same.third) (alike-row k.closes c)

  alike-known : (c : ℕ) → known_at d' c ≡ known_at d c
  unfolding known_at
  alike-known zero = refl
  alike-known (suc c) = ap (λ (k : Known). learnt k c (answer_by d' k c)) (alike-known c) ∙ ap (learnt (known_at d c) c) (alike-by (known_at d c) c)

  alike-answer : (c : ℕ) → answer_of d' c ≡ answer_of d c
  alike-answer c = ap (λ (k : Known). answer_by d' k c) (alike-known c) ∙ alike-by (known_at d c) c

  pub alike : closings_of d' ≡ closings_of d
  unfolding closings_of
  alike = rw (alike-answer 0, alike-answer 1, alike-answer 2, alike-answer 3, alike-answer 4, alike-answer 5) refl

-- ---- one spread turned round

abbrev pub turned_span : Span → Span
turned_span missing = missing
turned_span (sum s) = sum (neg_ℤ s)

pub record Turned (i : ℕ) (d d' : Figures) : Type 0 where
  pub metal : d'.metal ≡ d.metal
  pub third : d'.third ≡ d.third
  pub mark : marked d'.marks i ≡ not (marked d.marks i)
  pub lots : lots_in (d'.trades i) ≡ lots_in (d.trades i)
  pub value : value_in (d'.trades i) ≡ neg_ℤ (value_in (d.trades i))
  pub span : d'.span i ≡ turned_span (d.span i)
  pub marks_stay : (j : ℕ) → (j ≡ i → ⊥) → marked d'.marks j ≡ marked d.marks j
  pub trades-stay : (j : ℕ) → (j ≡ i → ⊥) → d'.trades j ≡ d.trades j
  pub spans-stay : (j : ℕ) → (j ≡ i → ⊥) → d'.span j ≡ d.span j

applied-turn : (less : Bool) (b v : ℤ) → applied (not less) b (neg_ℤ v) ≡ applied less b v
applied-turn true b v = refl
applied-turn false b v = rw (neg_ℤ-neg_ℤ v) refl

-- a spread has another leg
leg-turn : (c k : ℕ) (leg : Leg) (mark : Bool) (b v : ℤ) → Earlier c (suc k) leg → applied (less_of leg (not mark)) b (neg_ℤ v) ≡ applied (less_of leg mark) b v
leg-turn c k Outright mark b v f = absurd (omega arith)
leg-turn c k (Over o) mark b v f = applied-turn mark b v
leg-turn c k (Under o) mark b v f = applied-turn (not mark) b v

module _ (k : ℕ) (small : k < 11) {d d' : Figures} (t : Turned (suc k) d d') where
  implied-turned : (closes : List ℕ) (w : ℕ) (v : ℤ) → implied_by d'.marks closes (suc k) w (neg_ℤ v) ≡ implied_by d.marks closes (suc k) w v
  unfolding implied_by
  implied-turned closes w v = rw t.mark (leg-turn (priced_of (suc k)) k (leg_of (suc k)) (marked d.marks (suc k)) (pos (w * base_of closes (leg_of (suc k)))) v (leg-earlier (suc k) (omega arith)))

  twap-turned : (closes : List ℕ) (s : Span) → twap_by d'.marks closes (suc k) (turned_span s) ≡ twap_by d.marks closes (suc k) s
  twap-turned closes missing = refl
  twap-turned closes (sum s) = ap (λ (z : ℤ). Some (mean Twap z window_length)) (implied-turned closes window_length s)

  turned-gives : Gives d d' (suc k)
  turned-gives = record {
    lots = t.lots;
    vwap = λ closes. rw (deals-are d'.marks closes (suc k) (d'.trades (suc k)), deals-are d.marks closes (suc k) (d.trades (suc k)), t.lots, t.value) (implied-turned closes (lots_in (d.trades (suc k))) (value_in (d.trades (suc k))));
    twap = λ closes. rw t.span (twap-turned closes (d.span (suc k)));
  }

  -- what another instrument gives stays
  implied-kept : (j : ℕ) → (j ≡ suc k → ⊥) → (closes : List ℕ) (w : ℕ) (v : ℤ) → implied_by d'.marks closes j w v ≡ implied_by d.marks closes j w v
  unfolding implied_by
  implied-kept j h closes w v = rw (t.marks_stay j h) refl

  twap-kept : (j : ℕ) → (j ≡ suc k → ⊥) → (closes : List ℕ) (s : Span) → twap_by d'.marks closes j s ≡ twap_by d.marks closes j s
  twap-kept j h closes missing = refl
  twap-kept j h closes (sum s) = ap (λ (z : ℤ). Some (mean Twap z window_length)) (implied-kept j h closes window_length s)

  kept_gives : (j : ℕ) → (j ≡ suc k → ⊥) → Gives d d' j
  kept_gives j h = record {
    lots = ap lots_in (t.trades-stay j h);
    vwap = λ closes. rw (deals-are d'.marks closes j (d'.trades j), deals-are d.marks closes j (d.trades j), t.trades-stay j h) (implied-kept j h closes (lots_in (d.trades j)) (value_in (d.trades j)));
    twap = λ closes. rw (t.spans-stay j h) (twap-kept j h closes (d.span j));
  }

  turned-alike : Alike d d'
  turned-alike = record { metal = t.metal; third = t.third; gives = λ j. by j (ℕ_discrete j (suc k)) }
    where
      by : (j : ℕ) → Dec (j ≡ suc k) → Gives d d' j
      by j (yes e) = rw e turned-gives
      by j (no h) = kept_gives j h

  -- all six answers stay
  pub turn : closings_of d' ≡ closings_of d
  turn = alike turned-alike
