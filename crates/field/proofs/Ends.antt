-- The two ends of a price's range, and a quote with both sides judged by them. The rules are Judging's, and these are proved to say the same:
--     price-ends    a price is right where it lies between its ends
--     both-sides    where the bid is not above the offer, one end is asked of each side
-- Assumes nothing.
use Rattle.std.specs.Prelude.{ℕ, ◌≤◌, ◌≡◌, Bool, true, false, eqb, ℤ, pos, negsuc, neg_ℤ}
use Rattle.std.proofs.Math.Path.{refl}
use Rattle.std.proofs.Common.{sym, ◌∙◌, leb-true, le-leb, eq-eqb, ne_eqb}
use native.Mathlib.Omega.{arith}
use Rattle.std.specs.Int.Signed.{le_z}
use Rattle.field.specs.declared.Price.{Price}
use Rattle.field.specs.declared.Field.TheVariants.{Quote}
use Rattle.market.specs.Market.{is_in, barred}
use Rattle.field.specs.Judging.{fine, both, pick, cents_within, instrument_right, price_right, alone, judge}
use Rattle.field.specs.laws.Field.{clash, both_true, both-holds}
use Rattle.field.proofs.Sound.{SoundQuote, sound, judge-sound}
use Rattle.field.specs.laws.Ends.{lowest_of, highest_of, lowest_price, highest_price, both_sides_right}

pub price-ends : (instrument : ℕ) (price : Price) → cents_within (lowest_price instrument).cents (highest_price instrument).cents price ≡ price_right instrument price
unfolding lowest_price highest_price pick
price-ends instrument price = by-test (eqb instrument 0)
  where
    by-test : (outright : Bool) → cents_within (lowest_of outright).cents (highest_of outright).cents price ≡ pick outright (cents_within (pos 1) (pos 99999999) price) (cents_within (neg_ℤ (pos 9999999)) (pos 9999999) price)
    by-test true = refl
    by-test false = refl

le-through : (a b c : ℤ) → le_z a b ≡ true → le_z b c ≡ true → le_z a c ≡ true
le-through (pos a) (pos b) (pos c) p q = le-leb a c (omega (arith, leb-true a b p, leb-true b c q))
le-through (pos a) (pos b) (negsuc c) p q = q
le-through (pos a) (negsuc b) c p q = clash cc
le-through (negsuc a) b (pos c) p q = refl
le-through (negsuc a) (pos b) (negsuc c) p q = clash cc
le-through (negsuc a) (negsuc b) (negsuc c) p q = le-leb c a (omega (arith, leb-true b a p, leb-true c b q))

-- a price is right exactly where it lies between its ends
inside : (instrument : ℕ) (price : Price) → le_z (lowest_price instrument).cents price.cents ≡ true → le_z price.cents (highest_price instrument).cents ≡ true → price_right instrument price ≡ true
inside instrument price low high = sym (price-ends instrument price) ∙ both-holds _ _ low high

ends : (instrument : ℕ) (price : Price) → price_right instrument price ≡ true → (le_z (lowest_price instrument).cents price.cents ≡ true) × (le_z price.cents (highest_price instrument).cents ≡ true)
ends instrument price e = both_true (le_z (lowest_price instrument).cents price.cents) (le_z price.cents (highest_price instrument).cents) (price-ends instrument price ∙ e)

module _ (instrument : ℕ) (bid offer : Price) where
  -- of a quote whose sides byte says both, these are the tests
  tested : SoundQuote alone 0 instrument 3 bid offer → ((price_right instrument bid ≡ true) × (price_right instrument offer ≡ true)) × (le_z bid.cents offer.cents ≡ true)
  unfolding pick both
  tested h = let u = both_true (price_right instrument bid) (price_right instrument offer) h.prices-in in (u, h.in_order)

  passes : instrument ≤ 11 → price_right instrument bid ≡ true → price_right instrument offer ≡ true → le_z bid.cents offer.cents ≡ true → SoundQuote alone 0 instrument 3 bid offer
  unfolding pick both barred is_in
  passes i b o order =
      record {
        stamp = record { on = record { in_table = i; let-be = refl }; in-day = omega arith; not-before = omega arith };
        sides-in = refl;
        prices-in = both-holds (price_right instrument bid) (price_right instrument offer) b o;
        in_order = order;
      }

  holds : both_sides_right instrument bid offer ≡ true → SoundQuote alone 0 instrument 3 bid offer
  holds e =
      let u = both_true (instrument_right instrument) _ e in
      let v = both_true (le_z (lowest_price instrument).cents bid.cents) _ u.1 in
      let w = both_true (le_z bid.cents offer.cents) (le_z offer.cents (highest_price instrument).cents) v.1 in
      let low = le-through (lowest_price instrument).cents bid.cents offer.cents v.0 w.0 in
      let high = le-through bid.cents offer.cents (highest_price instrument).cents w.0 w.1 in
      passes (leb-true instrument 11 u.0) (inside instrument bid v.0 high) (inside instrument offer low w.1) w.0

  held : SoundQuote alone 0 instrument 3 bid offer → both_sides_right instrument bid offer ≡ true
  held h =
      let t = tested h in
      both-holds _ _ (le-leb instrument 11 h.stamp.on.in_table) (both-holds _ _ (ends instrument bid t.0.0).0 (both-holds _ _ t.1 (ends instrument offer t.0.1).1))

  -- the judgement of a quote with both sides, its time put aside
  pub both-sides : both_sides_right instrument bid offer ≡ eqb (judge alone (Quote 0 instrument 3 bid offer)) fine
  both-sides = by-test (both_sides_right instrument bid offer) refl
    where
      by-test : (t : Bool) → both_sides_right instrument bid offer ≡ t → t ≡ eqb (judge alone (Quote 0 instrument 3 bid offer)) fine
      by-test true e = sym (eq-eqb _ fine (judge-sound alone (Quote 0 instrument 3 bid offer) (holds e)))
      by-test false e = sym (ne_eqb _ fine (λ h. clash (let t = held (sound alone (Quote 0 instrument 3 bid offer) h) in cc)))
