-- How large the indicator and its sum can be: every price of an accepted sheet is at most 99,999,999 in size, so the indicator is, and the sum
-- over a window at most 300,000 times that.
-- Assumes nothing.
use Rattle.std.specs.Prelude.{ℕ, ◌*◌, ◌≤◌, Bool, true, false, cond, List, [], ◌∷◌, leb, eqb, nat_abs, Option, Some, None}
use Rattle.std.proofs.Common.{arith}
use Rattle.field.specs.declared.Price.{Price}
use Rattle.field.specs.declared.Field.{Field}
use Rattle.field.specs.declared.Field.TheVariants.{Header, PreviousClose, Trade, Quote, End}
use Rattle.field.specs.Judging.{alone, has_bid, has_offer}
use Rattle.field.proofs.Sound.{Sound, price-size, sides-size}
use Rattle.market.specs.Market.{window_length}
use Rattle.market.specs.laws.Rows.{window-length}
use Rattle.sheet.specs.Fields.{fields_of, Each}
use Rattle.sheet.specs.laws.Accepted.{accepted-sound}
use Rattle.indicator.specs.declared.Indicator.{Indicator}
use Rattle.indicator.specs.Indicator.{cents_of, empty, side_of, else_at, below, below_offer, value_by, value_of, after_close, after_trade, after_quote, taken, stamp, after_from, after, cents_at, sum_from, twap_sum}
use Rattle.indicator.specs.laws.Sums.{sum-size}
use Rattle.twap.specs.Span.{Accepted}

-- a price in its range, or none
abbrev pub Small : Option Price → Type 0
Small r = nat_abs (cents_of r) ≤ 99999999

-- a state whose prices are
pub record SmallState (s : Indicator) : Type 0 where
  pub reference : Small s.reference
  pub bid : Small s.bid
  pub offer : Small s.offer

pub small-empty : SmallState empty
small-empty = record { reference = omega arith; bid = omega arith; offer = omega arith }

-- of two, whichever a test picks
small-pick : (b : Bool) (x y : Indicator) → SmallState x → SmallState y → SmallState (cond b x y)
small-pick true x y h k = h
small-pick false x y h k = k

-- a side of a quote
small-side : (b : Bool) (p : Price) → nat_abs p.cents ≤ 99999999 → Small (side_of b p)
small-side true p h = h
small-side false p h = omega arith

-- a previous close where there was no trade
small-else : (r : Option Price) (p : Price) → Small r → nat_abs p.cents ≤ 99999999 → Small (else_at r p)
small-else None p h k = k
small-else (Some q) p h k = h

-- a field whose values are in their ranges keeps it so
pub small-taken : (i : ℕ) (s : Indicator) (f : Field) → SmallState s → Sound alone f → SmallState (taken i s f)
unfolding taken
small-taken i s (Header metal marks form) h k = h
small-taken i s (PreviousClose instrument price) h k =
    small-pick (eqb instrument i) (after_close s price) s (record { reference = small-else s.reference price h.reference (price-size instrument price k.1); bid = h.bid; offer = h.offer }) h
small-taken i s (Trade time instrument price lots) h k =
    small-pick (eqb instrument i) (after_trade s price) s (record { reference = price-size instrument price k.price-in; bid = h.bid; offer = h.offer }) h
small-taken i s (Quote time instrument sides bid offer) h k =
    let z = sides-size alone time instrument sides bid offer k in
    let new = after_quote s sides bid offer in
    small-pick (eqb instrument i) new s (record { reference = h.reference; bid = small-side (has_bid sides) bid z.0; offer = small-side (has_offer sides) offer z.1 }) h
small-taken i s (End count) h k = h

-- so do all fields of a list
small-after : (i t : ℕ) (s : Indicator) (fs : List Field) → SmallState s → Each (Sound alone) fs → SmallState (after_from i t s fs)
unfolding after_from
small-after i t s [] h k = h
small-after i t s (f ∷ fs) h k =
    small-after i t (cond (leb (stamp f) t) (taken i s f) s) fs (small-pick (leb (stamp f) t) (taken i s f) s (small-taken i s f h k.0) h) k.1

-- the indicator is one of the state's prices
small-cond : (b : Bool) (p q : Price) → nat_abs p.cents ≤ 99999999 → nat_abs q.cents ≤ 99999999 → nat_abs (cond b p q).cents ≤ 99999999
small-cond true p q h k = h
small-cond false p q h k = k

small-offer : (p : Price) (o : Option Price) → nat_abs p.cents ≤ 99999999 → Small o → nat_abs (below_offer p o).cents ≤ 99999999
small-offer p None h k = h
small-offer p (Some o) h k = small-cond (below o p) o p k h

small_by : (r b o : Option Price) → Small r → Small b → Small o → Small (value_by r b o)
small_by None b o h k l = h
small_by (Some p) None o h k l = small-offer p o h l
small_by (Some p) (Some b) o h k l = small-cond (below p b) b (below_offer p o) k (small-offer p o h l)

pub small-value : (s : Indicator) → SmallState s → Small (value_of s)
small-value s h = small_by s.reference s.bid s.offer h.reference h.bid h.offer

module _ (i : ℕ) (s : List ℕ) (a : Accepted s) where
  -- the indicator at a millisecond
  pub cents-size : (t : ℕ) → nat_abs (cents_at i (fields_of s) t) ≤ 99999999
  cents-size t = small-value (after i t (fields_of s)) (small-after i t empty (fields_of s) small-empty (accepted-sound s a.day a.judged))

  -- k milliseconds of it
  pub part-size : (start k : ℕ) → nat_abs (sum_from (cents_at i (fields_of s)) start k) ≤ k * 99999999
  part-size start k = sum-size (cents_at i (fields_of s)) start k 99999999 (λ j l h. cents-size j)

  -- a window of it
  pub span-size : (start : ℕ) → nat_abs (twap_sum i start (fields_of s)) ≤ 300000 * 99999999
  span-size start = omega (arith, part-size start window_length, window-length)
