-- What a change of the prices of one instrument does to what pricing goes by: its in-window trades and its indicator's sum change, those of
-- the other instruments don't.
--     trades-changed   the trades of the instrument, with their prices changed
--     trades-others    the trades of another
--     span-header      what the header says does not matter to an indicator
--     span-others      the indicator's sum of another instrument
-- Assumes nothing.
use Rattle.std.specs.Prelude.{ℕ, ◌+◌, ◌≡◌, Bool, true, false, cond, ℤ, T, ◌≤ℤ◌}
use Rattle.std.proofs.Math.Path.{refl, sym, ap₂}
use Rattle.std.proofs.Common.{ap, ◌∙◌}
use mathlib.Core.List.{List, [], ◌∷◌, ◌++◌, map}
use Rattle.std.proofs.lemmas.Bool.{eqb-false}
use Rattle.std.specs.Int.Signed.{le_z}
use Rattle.field.specs.declared.Price.{Price}
use Rattle.field.specs.declared.Form.{Form}
use Rattle.field.specs.declared.Field.{Field}
use Rattle.field.specs.declared.Field.TheVariants.{Header, PreviousClose, Trade, Quote, End}
use Rattle.market.specs.Market.{window_length}
use Rattle.trades.specs.Trades.{Deal, counts, trade_in, trades_in, lots_in}
use Rattle.trades.specs.laws.Trades.{trade-other}
use Rattle.indicator.specs.declared.Indicator.{Indicator}
use Rattle.indicator.specs.Indicator.{present, cents_of, value_of, taken, after_from, after, cents_at}
use Rattle.indicator.specs.laws.Sums.{sum-cong}
use Rattle.field.specs.Repriced.{concerns, changed, Sides, repriced}
use Rattle.indicator.specs.laws.Changed.{repriced-keeps, not-both, others-stay}
use Rattle.twap.specs.Span.{missing, sum, span_of}

-- ---- trades

-- a trade with its price changed
abbrev pub repriced_deal : (Price → Price) → Deal → Deal
repriced_deal r d = record { price = (r (record { cents = d.price })).cents; lots = d.lots }

map-append : {A B : Type 0} (g : A → B) (xs ys : List A) → map g (xs ++ ys) ≡ map g xs ++ map g ys
map-append g [] ys = refl
map-append g (x ∷ xs) ys = ap (λ l. g x ∷ l) (map-append g xs ys)

cond-list : {A B : Type 0} (g : A → B) (b : Bool) (x : A) → cond b (g x ∷ []) [] ≡ map g (cond b (x ∷ []) [])
cond-list g true x = refl
cond-list g false x = refl

-- one field: changed, and of another instrument
trade-repriced : (metal i : ℕ) (r : Price → Price) (q : ℕ → Price → Price → Sides) (f : Field) → trade_in metal i (repriced r q f) ≡ map (repriced_deal r) (trade_in metal i f)
unfolding trade_in
trade-repriced metal i r q (Header m marks form) = refl
trade-repriced metal i r q (PreviousClose instrument price) = refl
trade-repriced metal i r q (Trade time instrument price lots) = cond-list (repriced_deal r) (counts metal i instrument time) (record { price = price.cents; lots = lots })
trade-repriced metal i r q (Quote time instrument sides bid offer) = refl
trade-repriced metal i r q (End count) = refl

trade-apart : (metal i : ℕ) (f : Field) → concerns i f ≡ false → trade_in metal i f ≡ []
unfolding trade_in
trade-apart metal i (Header m marks form) e = refl
trade-apart metal i (PreviousClose instrument price) e = refl
trade-apart metal i (Trade time instrument price lots) e = trade-other metal i time instrument price lots (eqb-false instrument i e)
trade-apart metal i (Quote time instrument sides bid offer) e = refl
trade-apart metal i (End count) e = refl

module _ (metal i : ℕ) (r : Price → Price) (q : ℕ → Price → Price → Sides) where
  abbrev change : Field → Field
  change f = changed i (repriced r q) f

  trade-changed : (f : Field) → trade_in metal i (change f) ≡ map (repriced_deal r) (trade_in metal i f)
  trade-changed f = by-test (concerns i f) refl
    where
      by-test : (b : Bool) → concerns i f ≡ b → trade_in metal i (cond b (repriced r q f) f) ≡ map (repriced_deal r) (trade_in metal i f)
      by-test true e = trade-repriced metal i r q f
      by-test false e = rw (trade-apart metal i f e) refl

  trade-kept : (j : ℕ) → (j ≡ i → ⊥) → (f : Field) → trade_in metal j (change f) ≡ trade_in metal j f
  trade-kept j h f = by-test (concerns i f) refl
    where
      by-test : (b : Bool) → concerns i f ≡ b → trade_in metal j (cond b (repriced r q f) f) ≡ trade_in metal j f
      by-test true e = trade-repriced metal j r q f ∙ rw (trade-apart metal j f (not-both i j f h e)) refl
      by-test false e = refl

  pub trades-changed : (fs : List Field) → trades_in metal i (map change fs) ≡ map (repriced_deal r) (trades_in metal i fs)
  unfolding trades_in
  trades-changed [] = refl
  trades-changed (f ∷ fs) = ap₂ ◌++◌ (trade-changed f) (trades-changed fs) ∙ sym (map-append (repriced_deal r) (trade_in metal i f) (trades_in metal i fs))

  pub trades-others : (j : ℕ) → (j ≡ i → ⊥) → (fs : List Field) → trades_in metal j (map change fs) ≡ trades_in metal j fs
  unfolding trades_in
  trades-others j h [] = refl
  trades-others j h (f ∷ fs) = ap₂ ◌++◌ (trade-kept j h f) (trades-others j h fs)

-- a change of prices changes no lots
pub lots-kept : (r : Price → Price) (ds : List Deal) → lots_in (map (repriced_deal r) ds) ≡ lots_in ds
unfolding lots_in
lots-kept r [] = refl
lots-kept r (d ∷ ds) = ap (λ (n : ℕ). d.lots + n) (lots-kept r ds)

-- ---- indicators

-- the header says nothing of an instrument's trades and prices
pub trades-header : (metal i m n k : ℕ) (form other : Form) (fs : List Field) → trades_in metal i (Header m n form ∷ fs) ≡ trades_in metal i (Header m k other ∷ fs)
unfolding trades_in trade_in
trades-header metal i m n k form other fs = refl

-- indicators whose states agree at every millisecond
span-by : (i j start : ℕ) (fs gs : List Field) → ((t : ℕ) → after i t fs ≡ after j t gs) → span_of i start fs ≡ span_of j start gs
unfolding span_of
span-by i j start fs gs e =
    ap₂ (λ (b : Bool) (z : ℤ). cond b (sum z) missing)
    (ap (λ (s : Indicator). present s.reference) (e start))
    (sum-cong (cents_at i fs) (cents_at j gs) start window_length (λ t l h. ap (λ (s : Indicator). cents_of (value_of s)) (e t)))

pub span-header : (i start m n k : ℕ) (form other : Form) (fs : List Field) → span_of i start (Header m n form ∷ fs) ≡ span_of i start (Header m k other ∷ fs)
unfolding after_from taken
span-header i start m n k form other fs = span-by i i start (Header m n form ∷ fs) (Header m k other ∷ fs) (λ t. refl)

pub span-others : (i j start : ℕ) (r : Price → Price) (q : ℕ → Price → Price → Sides) → (j ≡ i → ⊥) → (fs : List Field) → span_of j start (map (changed i (repriced r q)) fs) ≡ span_of j start fs
span-others i j start r q h fs = span-by j j start (map (changed i (repriced r q)) fs) fs (λ t. others-stay i j (repriced r q) (repriced-keeps r q) h t fs)

-- ---- an order, as a test

pub le-true : {a b : ℤ} → a ≤ℤ b → le_z a b ≡ true
le-true {a} {b} h = by (le_z a b) h.le
  where
    by : (t : Bool) → T t → t ≡ true
    by true h = refl
    by false h = absurd h
