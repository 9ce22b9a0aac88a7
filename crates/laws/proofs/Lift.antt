-- T-SHIFT, the first law of demand 3, on the bytes of a sheet.
--     lift-right        lifted prices that stay in their range leave a field right
--     figures-lifted    the figures of a lifted sheet are lifted
--     shifts            the law;  shifts-all    where neither sheet has a 14, every contract
-- Assumes nothing.
use Rattle.std.specs.Prelude.{ℕ, suc, ◌+◌, ◌<◌, ◌≡◌, Bool, cond, ℤ, ◌+ℤ◌, ◌*ℤ◌}
use Rattle.std.proofs.Math.Path.{refl, ap}
use Rattle.std.proofs.Common.{sym, subst, ◌∙◌, arith}
use Rattle.std.proofs.Math.Bool.{true, false}
use mathlib.Core.List.{List, [], ◌∷◌, map}
use Rattle.std.proofs.Math.Nat.{add-mul, mul-add}
use Rattle.std.proofs.Math.IntN.{pos}
use Rattle.std.specs.Int.Signed.{le_z, le_z_yes}
use Rattle.cents.specs.laws.Whole.{up, down, is, is-+, is-*, is_pos, show-≡, show-≤, read-≤}
use Rattle.field.specs.declared.Price.{Price}
use Rattle.field.specs.declared.Before.{Before}
use Rattle.field.specs.declared.Field.{Field}
use Rattle.field.specs.Judging.{both, third_of, pick, if_present, if_absent, cents_within, price_right, has_bid, has_offer, side_prices_right}
use Rattle.field.specs.laws.Field.{both_true, both-holds}
use Rattle.field.proofs.Sound.{SoundQuote}
use Rattle.market.specs.Market.{start_of, step_of, 3M}
use Rattle.sheet.specs.declared.Day.{Day}
use Rattle.sheet.specs.Fields.{fields_of, encode, Each}
use Rattle.sheet.specs.Judgement.{accepts, judge_sheet}
use Rattle.sheet.specs.laws.Accepted.{accepted-header, accepted-right}
use Rattle.trades.specs.Trades.{Deal, trades_in, lots_in, value_in}
use Rattle.trades.specs.laws.Trades.{numbered}
use Rattle.trades.specs.laws.Rowed.{accepted-step}
use Rattle.indicator.specs.Indicator.{twap_sum, has_reference}
use Rattle.field.specs.Repriced.{shift_price, shift_sides}
use Rattle.indicator.proofs.Moved.{shifted-reference, shifted}
use Rattle.twap.specs.Span.{missing, sum, span_of}
use Rattle.price_rules.specs.Closing.{Figures, figures_of, refused, answer_of, closings_of, six, answers_by, answers_of}
use Rattle.laws.specs.Demand.{steps, lifted_field, lifted, Liftable, Moved, InRange, answer_at, Moves, Lifts, ShiftLaw}
use Rattle.laws.specs.laws.Kept.{Right, right-changed, changedFields, changed-accepted}
use Rattle.laws.specs.laws.Figures.{repriced_deal, trades-changed, trades-others, span-others, lots-kept, le-true}
use Rattle.laws.proofs.Shift.{LiftedSpan, none, some, Lifted, shift}

-- ---- a lifted field stays right

module _ (δ : ℤ) where
  -- a side that is not there stays as it is, and one that is there is lifted
  absent-kept : (here : Bool) (p : Price) → if_absent here (cents_within (pos 0) (pos 0) p) ≡ true → if_absent here (cents_within (pos 0) (pos 0) (cond here (shift_price δ p) p)) ≡ true
  unfolding pick
  absent-kept true p h = refl
  absent-kept false p h = h

  present-lifted : (i : ℕ) (here : Bool) (p : Price) → if_present here (price_right i (shift_price δ p)) ≡ true → if_present here (price_right i (cond here (shift_price δ p) p)) ≡ true
  unfolding pick
  present-lifted i true p h = h
  present-lifted i false p h = refl

  -- a bid that is not above its offer still isn't
  order-kept : (b o : Bool) (bid offer : Price) → if_present (both b o) (le_z bid.cents offer.cents) ≡ true
      → if_present (both b o) (le_z (cond b (shift_price δ bid) bid).cents (cond o (shift_price δ offer) offer).cents) ≡ true
  unfolding pick both
  order-kept true true bid offer h = le-true (show-≤ (is-+ (is bid.cents) (is δ)) (is-+ (is offer.cents) (is δ)) (omega (arith, read-≤ (is bid.cents) (is offer.cents) (le_z_yes (rw h tt)))))
  order-kept true false bid offer h = refl
  order-kept false o bid offer h = refl

  quote-right : (before : Before) (time sides : ℕ) (bid offer : Price) → SoundQuote before time 0 sides bid offer → side_prices_right 0 sides (shift_price δ bid) (shift_price δ offer) ≡ true
      → SoundQuote before time 0 sides (shift_sides δ sides bid offer).bid (shift_sides δ sides bid offer).offer
  quote-right before time sides bid offer h right =
      let in-sides = both_true _ _ h.sides-in in
      let absent = both_true _ _ in-sides.1 in
      let there = both_true _ _ right in
      record {
        stamp = h.stamp;
        sides-in = both-holds _ _ in-sides.0 (both-holds _ _ (absent-kept (has_bid sides) bid absent.0) (absent-kept (has_offer sides) offer absent.1));
        prices-in = both-holds _ _ (present-lifted 0 (has_bid sides) bid there.0) (present-lifted 0 (has_offer sides) offer there.1);
        in_order = order-kept (has_bid sides) (has_offer sides) bid offer h.in_order;
      }

  lift-right : (fs : List Field) → Each (Liftable δ) fs → Each (Right (lifted_field δ)) fs
  lift-right = right-changed 0 (shift_price δ) (shift_sides δ) (Liftable δ)
      (λ price l h. l refl)
      (λ time price lots l h. l refl)
      (λ before time sides bid offer l h. quote-right before time sides bid offer h (l refl))

  -- ---- a lifted sheet's figures

  value-lifted : (ds : List Deal) → value_in (map (repriced_deal (shift_price δ)) ds) ≡ value_in ds +ℤ pos (lots_in ds) *ℤ δ
  unfolding value_in lots_in
  value-lifted [] = show-≡ (is_pos 0) (is-+ (is_pos 0) (is-* 0 (is δ))) (omega arith)
  value-lifted (d ∷ ds) =
      let w = d.lots in
      let v = lots_in ds in
      ap (λ (z : ℤ). pos w *ℤ (d.price +ℤ δ) +ℤ z) (value-lifted ds)
      ∙ show-≡
      (is-+ (is-* w (is-+ (is d.price) (is δ))) (is-+ (is (value_in ds)) (is-* v (is δ))))
      (is-+ (is-+ (is-* w (is d.price)) (is (value_in ds))) (is-* (w + v) (is δ)))
      (omega (arith, mul-add w (up d.price) (up δ), mul-add w (down d.price) (down δ), add-mul w v (up δ), add-mul w v (down δ)))

  span-lifted : (start : ℕ) (fs : List Field) → LiftedSpan δ (span_of 0 start fs) (span_of 0 start (map (lifted_field δ) fs))
  unfolding span_of
  span-lifted start fs = by (has_reference 0 start fs) refl
    where
      by : (b : Bool) → has_reference 0 start fs ≡ b → LiftedSpan δ (cond b (sum (twap_sum 0 start fs)) missing) (cond (has_reference 0 start (map (lifted_field δ) fs)) (sum (twap_sum 0 start (map (lifted_field δ) fs))) missing)
      by true e = rw (shifted-reference 0 start δ fs, e) (some (shifted 0 start δ fs (rw e tt)))
      by false e = rw (shifted-reference 0 start δ fs, e) none

  figures-lifted : (metal marks third : ℕ) (fs : List Field) → Lifted δ (figures_of metal marks third fs) (figures_of metal marks third (map (lifted_field δ) fs))
  unfolding figures_of
  figures-lifted metal marks third fs =
      let own = trades-changed metal 0 (shift_price δ) (shift_sides δ) fs in
      record {
        metal = refl;
        marks = refl;
        third = refl;
        lots = ap lots_in own ∙ lots-kept (shift_price δ) (trades_in metal 0 fs);
        value = ap value_in own ∙ value-lifted (trades_in metal 0 fs);
        span = span-lifted (start_of metal 0) fs;
        trades-stay = λ k. trades-others metal 0 (shift_price δ) (shift_sides δ) (suc k) (λ e. omega arith) fs;
        spans-stay = λ k. span-others 0 (suc k) (start_of metal (suc k)) (shift_price δ) (shift_sides δ) (λ e. omega arith) fs;
      }

-- ---- the law

-- a sheet's answers, where it is accepted
pub answers-are : (s : List ℕ) (day : Day) → judge_sheet s ≡ accepts day → answers_of s ≡ six day (closings_of (figures_of day.metal day.marks (third_of day.form) (fields_of s)))
unfolding answers_of
answers-are s day a = ap (answers_by (fields_of s)) a

-- the answer of a contract among the six
pub answer_at_lem : (d : Figures) (c : ℕ) → c < 6 → answer_at (closings_of d) c ≡ answer_of d c
unfolding closings_of
answer_at_lem d c h = numbered (answer_of d) 0 6 c (refused 15 0) h ∙ ap (answer_of d) (omega arith)

-- by figures: each contract up to which neither has a 14
figures-move : (metal marks third : ℕ) (fs : List Field) (k : ℤ) → 0 < step_of metal 3M →
    let d = figures_of metal marks third fs in
    let δ = pos (step_of metal 3M) *ℤ k in
    let d' = figures_of metal marks third (map (lifted_field δ) fs) in
    Moves δ (closings_of d) (closings_of d')
unfolding figures_of
figures-move metal marks third fs k above c h f =
    let d = figures_of metal marks third fs in
    let δ = pos (step_of metal 3M) *ℤ k in
    let d' = figures_of metal marks third (map (lifted_field δ) fs) in
    rw (answer_at_lem d c h, answer_at_lem d' c h)
    (shift k d d' above (figures-lifted δ metal marks third fs) c h
    (λ j l. (subst InRange (answer_at_lem d j (omega arith)) (f j l).0, subst InRange (answer_at_lem d' j (omega arith)) (f j l).1)))

-- for every accepted sheet, and every whole number of steps that leaves its 3M prices in their range
pub shifts : ShiftLaw
unfolding lifted
shifts s day k b a l =
    let δ = steps day k in
    let first = accepted-header s day a in
    let same : map (lifted_field δ) (fields_of s) ≡ changedFields s day b a 0 (shift_price δ) (shift_sides δ) day.marks = ap (map (lifted_field δ)) first.is in
    let kept = changed-accepted s day b a 0 (shift_price δ) (shift_sides δ) day.marks (accepted-right s day a) (lift-right δ first.rest (subst (Each (Liftable δ)) first.is l).1) in
    let accepted : judge_sheet (encode (map (lifted_field δ) (fields_of s))) ≡ accepts day = ap (λ (fs : List Field). judge_sheet (encode fs)) same ∙ kept.0 in
    let fields : fields_of (encode (map (lifted_field δ) (fields_of s))) ≡ map (lifted_field δ) (fields_of s) = ap (λ (fs : List Field). fields_of (encode fs)) same ∙ kept.1 ∙ sym same in
    let d = figures_of day.metal day.marks (third_of day.form) (fields_of s) in
    let d' = figures_of day.metal day.marks (third_of day.form) (map (lifted_field δ) (fields_of s)) in
    record {
      accepted = accepted;
      before = closings_of d;
      after = closings_of d';
      was = answers-are s day a;
      is-now = answers-are _ day accepted ∙ ap (λ (fs : List Field). six day (closings_of (figures_of day.metal day.marks (third_of day.form) fs))) fields;
      moves = figures-move day.metal day.marks (third_of day.form) (fields_of s) k (accepted-step s day 3M a);
    }

-- so where neither sheet has a 14 at all, every contract is lifted, or refused as before
pub shifts-all : {δ : ℤ} {s s' : List ℕ} {day : Day} (l : Lifts δ s s' day) → ((c : ℕ) → c < 6 → InRange (answer_at l.before c) × InRange (answer_at l.after c))
    → (c : ℕ) → c < 6 → Moved δ (answer_at l.before c) (answer_at l.after c)
shifts-all l in-range c h = l.moves c h (λ j k. in-range j (omega arith))
