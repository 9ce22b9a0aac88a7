-- A field whose values earn no number, read the other way round: each value in its range. `sound` takes a judgement apart, `judge-sound` puts
-- it together.
-- Assumes nothing.
use Rattle.std.specs.Prelude.{ℕ, ◌≤◌, ◌≡◌, refl, Bool, true, false, leb, eqb, ℤ, pos, negsuc, neg_ℤ, nat_abs}
use Rattle.std.proofs.Common.{◌∙◌, arith, leb-true, le-leb}
use Rattle.std.specs.Int.Signed.{le_z}
use Rattle.market.specs.Market.{is_in, barred}
use Rattle.field.specs.declared.Price.{Price}
use Rattle.field.specs.declared.Before.{Before}
use Rattle.field.specs.declared.Field.{Field}
use Rattle.field.specs.declared.Field.TheVariants.{Header, PreviousClose, Trade, Quote, End}
use Rattle.field.specs.Judging.{fine, both, pick, if_present, if_absent, within, cents_within, third_of, header_right, instrument_right, allowed, time_right, price_right, lots_right, has_bid, has_offer, sides_right, side_prices_right, ordered, on_instrument, stamped, alone, judge}
use Rattle.field.specs.laws.Field.{clash, unless-fine, unless-passed, both_true, both-holds, within-true}

-- an instrument: one of the twelve, and not barred
pub record SoundOn (before : Before) (instrument : ℕ) : Type 0 where
  pub in_table : instrument ≤ 11
  pub let-be : allowed before.third instrument ≡ true

-- a record's instrument and time
pub record SoundStamp (before : Before) (time instrument : ℕ) : Type 0 where
  pub on : SoundOn before instrument
  pub in-day : time ≤ 86399999
  pub not-before : before.time ≤ time

-- a trade: its stamp, its price and its lots
pub record SoundTrade (before : Before) (time instrument : ℕ) (price : Price) (lots : ℕ) : Type 0 where
  pub stamp : SoundStamp before time instrument
  pub price-in : price_right instrument price ≡ true
  pub some : 1 ≤ lots
  pub most : lots ≤ 10000

-- a quote: its stamp, its sides with absent zeros, its prices, and the bid not above the offer
pub record SoundQuote (before : Before) (time instrument sides : ℕ) (bid offer : Price) : Type 0 where
  pub stamp : SoundStamp before time instrument
  pub sides-in : sides_right sides bid offer ≡ true
  pub prices-in : side_prices_right instrument sides bid offer ≡ true
  pub in_order : ordered sides bid offer ≡ true

-- the values of a field, each in its range, its instrument not barred and its time not below the least
abbrev pub Sound : Before → Field → Type 0
Sound before (Header metal marks form) = header_right metal marks (third_of form) ≡ true
Sound before (PreviousClose instrument price) = SoundOn before instrument × (price_right instrument price ≡ true)
Sound before (Trade time instrument price lots) = SoundTrade before time instrument price lots
Sound before (Quote time instrument sides bid offer) = SoundQuote before time instrument sides bid offer
Sound before (End count) = Unit {0}

on-sound : (before : Before) (instrument rest : ℕ) → on_instrument before instrument rest ≡ fine → SoundOn before instrument × (rest ≡ fine)
on-sound before instrument rest e =
    let u = unless-fine (instrument_right instrument) 6 _ e in
    let v = unless-fine (allowed before.third instrument) 17 rest u.1 in
    (record { in_table = leb-true instrument 11 u.0; let-be = v.0 }, v.1)

sound-on : (before : Before) (instrument rest : ℕ) → SoundOn before instrument → on_instrument before instrument rest ≡ rest
sound-on before instrument rest h = unless-passed _ 7 _ (le-leb instrument 11 h.in_table) ∙ unless-passed _ 18 rest h.let-be

stamp-sound : (before : Before) (time instrument rest : ℕ) → stamped before time instrument rest ≡ fine → SoundStamp before time instrument × (rest ≡ fine)
stamp-sound before time instrument rest e =
    let u = on-sound before instrument _ e in
    let v = unless-fine (time_right before.time time) 7 rest u.1 in
    let t = both_true (leb time 86399999) (leb before.time time) v.0 in
    (record { on = u.0; in-day = leb-true time 86399999 t.0; not-before = leb-true before.time time t.1 }, v.1)

sound-stamp : (before : Before) (time instrument rest : ℕ) → SoundStamp before time instrument → stamped before time instrument rest ≡ rest
sound-stamp before time instrument rest h =
    sound-on before instrument _ h.on
    ∙ unless-passed _ 8 rest (both-holds _ _ (le-leb time 86399999 h.in-day) (le-leb before.time time h.not-before))

-- values that earn no number are in their ranges
pub sound : (before : Before) (f : Field) → judge before f ≡ fine → Sound before f
unfolding judge
sound before (Header metal marks form) e = (unless-fine (header_right metal marks (third_of form)) 5 fine e).0
sound before (PreviousClose instrument price) e =
    let u = on-sound before instrument _ e in
    (u.0, (unless-fine (price_right instrument price) 8 fine u.1).0)
sound before (Trade time instrument price lots) e =
    let u = stamp-sound before time instrument _ e in
    let v = unless-fine (price_right instrument price) 8 _ u.1 in
    let w = within-true 1 10000 lots (unless-fine (lots_right lots) 9 fine v.1).0 in
    record { stamp = u.0; price-in = v.0; some = w.0; most = w.1 }
sound before (Quote time instrument sides bid offer) e =
    let u = stamp-sound before time instrument _ e in
    let v = unless-fine (sides_right sides bid offer) 10 _ u.1 in
    let w = unless-fine (side_prices_right instrument sides bid offer) 8 _ v.1 in
    record { stamp = u.0; sides-in = v.0; prices-in = w.0; in_order = (unless-fine (ordered sides bid offer) 10 fine w.1).0 }
sound before (End count) e = tt

-- the metal of a right header
pub metal-range : (metal marks third : ℕ) → header_right metal marks third ≡ true → (1 ≤ metal) × (metal ≤ 5)
metal-range metal marks third e = within-true 1 5 metal (both_true (within 1 5 metal) (both (leb marks 2047) (leb third 2)) e).0

-- marks and third value of a right header
pub marks-range : (metal marks third : ℕ) → header_right metal marks third ≡ true → (marks ≤ 2047) × (third ≤ 2)
marks-range metal marks third e =
    let u = both_true (leb marks 2047) (leb third 2) (both_true _ (both (leb marks 2047) (leb third 2)) e).1 in
    (leb-true marks 2047 u.0, leb-true third 2 u.1)

-- and the other way round
pub judge-sound : (before : Before) (f : Field) → Sound before f → judge before f ≡ fine
unfolding judge
judge-sound before (Header metal marks form) h = unless-passed _ 6 fine h
judge-sound before (PreviousClose instrument price) h = sound-on before instrument _ h.0 ∙ unless-passed _ 9 fine h.1
judge-sound before (Trade time instrument price lots) h =
    sound-stamp before time instrument _ h.stamp
    ∙ unless-passed _ 9 _ h.price-in
    ∙ unless-passed _ 10 fine (both-holds _ _ (le-leb 1 lots h.some) (le-leb lots 10000 h.most))
judge-sound before (Quote time instrument sides bid offer) h =
    sound-stamp before time instrument _ h.stamp
    ∙ unless-passed _ 11 _ h.sides-in
    ∙ unless-passed _ 9 _ h.prices-in
    ∙ unless-passed _ 11 fine h.in_order
judge-sound before (End count) h = refl

-- by themselves they still are: 0 bars no instrument, and no time is below 0
on-alone : (before : Before) (instrument : ℕ) → SoundOn before instrument → SoundOn alone instrument
unfolding barred is_in
on-alone before instrument h = record { in_table = h.in_table; let-be = refl }

stamp-alone : (before : Before) (time instrument : ℕ) → SoundStamp before time instrument → SoundStamp alone time instrument
stamp-alone before time instrument h = record { on = on-alone before instrument h.on; in-day = h.in-day; not-before = omega arith }

pub sound-alone : (before : Before) (f : Field) → Sound before f → Sound alone f
sound-alone before (Header metal marks form) h = h
sound-alone before (PreviousClose instrument price) h = (on-alone before instrument h.0, h.1)
sound-alone before (Trade time instrument price lots) h = record { stamp = stamp-alone before time instrument h.stamp; price-in = h.price-in; some = h.some; most = h.most }
sound-alone before (Quote time instrument sides bid offer) h =
    record { stamp = stamp-alone before time instrument h.stamp; sides-in = h.sides-in; prices-in = h.prices-in; in_order = h.in_order }
sound-alone before (End count) h = tt

-- ---- the size of a price

-- between two numbers of a size lie only numbers of that size
between : (low z high : ℤ) (size : ℕ) → nat_abs low ≤ size → nat_abs high ≤ size → le_z low z ≡ true → le_z z high ≡ true → nat_abs z ≤ size
between low (pos n) (pos b) size l h p q = omega (arith, leb-true n b q)
between low (pos n) (negsuc b) size l h p q = clash cc
between (pos a) (negsuc n) high size l h p q = clash cc
between (negsuc a) (negsuc n) high size l h p q = omega (arith, leb-true n a p)

cents-size : (low high : ℤ) (price : Price) (size : ℕ) → nat_abs low ≤ size → nat_abs high ≤ size → cents_within low high price ≡ true → nat_abs price.cents ≤ size
cents-size low high price size l h e =
    let u = both_true (le_z low price.cents) (le_z price.cents high) e in
    between low price.cents high size l h u.0 u.1

-- a price in its range, of an outright or of a spread, is at most 99,999,999
pub price-size : (instrument : ℕ) (price : Price) → price_right instrument price ≡ true → nat_abs price.cents ≤ 99999999
unfolding pick
price-size instrument price = by-test (eqb instrument 0)
  where
    by-test : (outright : Bool) → pick outright (cents_within (pos 1) (pos 99999999) price) (cents_within (neg_ℤ (pos 9999999)) (pos 9999999) price) ≡ true → nat_abs price.cents ≤ 99999999
    by-test true e = cents-size (pos 1) (pos 99999999) price 99999999 (omega arith) (omega arith) e
    by-test false e = cents-size (negsuc 9999998) (pos 9999999) price 99999999 (omega arith) (omega arith) e

-- so is a side: present, it is in its range; absent, it is zero
side-size : (present : Bool) (instrument : ℕ) (price : Price) → if_absent present (cents_within (pos 0) (pos 0) price) ≡ true → if_present present (price_right instrument price) ≡ true → nat_abs price.cents ≤ 99999999
unfolding pick
side-size true instrument price absent right = price-size instrument price right
side-size false instrument price absent right = cents-size (pos 0) (pos 0) price 99999999 (omega arith) (omega arith) absent

pub sides-size : (before : Before) (time instrument sides : ℕ) (bid offer : Price) → SoundQuote before time instrument sides bid offer → (nat_abs bid.cents ≤ 99999999) × (nat_abs offer.cents ≤ 99999999)
sides-size before time instrument sides bid offer h =
    let absent = both_true _ _ (both_true (leb sides 3) _ h.sides-in).1 in
    let present = both_true _ _ h.prices-in in
    (side-size (has_bid sides) instrument bid absent.0 present.0, side-size (has_offer sides) instrument offer absent.1 present.1)
