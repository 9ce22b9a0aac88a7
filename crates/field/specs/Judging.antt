-- SHEET 3, the ranges of the values, and 6 to 11 and 18 of SHEET 4: the first number that the values of one field earn, in the order of SHEET 5.
use Rattle.std.specs.Prelude.{ℕ, ◌/◌, ◌%◌, Bool, true, ◌&&◌, not, cond, leb, eqb, ℤ, pos, neg_ℤ}
use Rattle.std.specs.Int.Signed.{le_z}
use Rattle.market.specs.Market.{barred}
use Rattle.field.specs.declared.Price.{Price}
use Rattle.field.specs.declared.Form.{Form}
use Rattle.field.specs.declared.Form.TheVariants.{Short, Long}
use Rattle.field.specs.declared.Before.{Before}
use Rattle.field.specs.declared.Field.{Field}
use Rattle.field.specs.declared.Field.TheVariants.{Header, PreviousClose, Trade, Quote, End}

-- nothing is refused
abbrev pub fine : ℕ
fine = 0

-- the number of a test that fails; where it holds the rest decides
unfoldable pub unless : Bool → ℕ → ℕ → ℕ
unless test number rest = cond test rest number

-- one number, then another where the first found nothing
unfoldable pub also : ℕ → ℕ → ℕ
also first rest = cond (eqb first fine) rest first

-- two tests hold; one of two tests, as a third says; a test of what is present, and of what is absent
unfoldable pub both : Bool → Bool → Bool
both a b = a && b

unfoldable pub pick : Bool → Bool → Bool → Bool
pick which a b = cond which a b

abbrev pub if_present : Bool → Bool → Bool
if_present present test = pick present test true

abbrev pub if_absent : Bool → Bool → Bool
if_absent present test = pick present true test

-- from a least number to a greatest, both in
abbrev pub within : ℕ → ℕ → ℕ → Bool
within low high n = both (leb low n) (leb n high)

abbrev pub cents_within : ℤ → ℤ → Price → Bool
cents_within low high price = both (le_z low price.cents) (le_z price.cents high)

-- SHEET 3, the third value of a header: a short one has none, and prices as 0
abbrev pub third_of : Form → ℕ
third_of Short = 0
third_of (Long third) = third

-- SHEET 3, metal, marks and third value: metals 1 to 5, marks up to bit 10, third values up to 2
abbrev pub header_right : ℕ → ℕ → ℕ → Bool
header_right metal marks third = both (within 1 5 metal) (both (leb marks 2047) (leb third 2))

-- before a field that is judged by itself: no third value, no time
abbrev pub alone : Before
alone = record { third = 0; time = 0 }

-- SHEET 3, instrument: 0 to 11
abbrev pub instrument_right : ℕ → Bool
instrument_right instrument = leb instrument 11

-- SHEET 3, third value: it bars no field on this instrument
abbrev pub allowed : ℕ → ℕ → Bool
allowed third instrument = not (barred third instrument)

-- SHEET 3, time: 0 to 86,399,999, and not below the time before
abbrev pub time_right : ℕ → ℕ → Bool
time_right least time = both (leb time 86399999) (leb least time)

-- SHEET 3, price: 1 to 99,999,999 for the outright, -9,999,999 to 9,999,999 for a spread
abbrev pub price_right : ℕ → Price → Bool
price_right instrument price =
    pick (eqb instrument 0)
    (cents_within (pos 1) (pos 99999999) price)
    (cents_within (neg_ℤ (pos 9999999)) (pos 9999999) price)

-- SHEET 3, lots: 1 to 10,000
abbrev pub lots_right : ℕ → Bool
lots_right lots = within 1 10000 lots

-- SHEET 3, sides: bit 0 says the bid, bit 1 the offer
abbrev pub has_bid : ℕ → Bool
has_bid sides = eqb (sides % 2) 1

abbrev pub has_offer : ℕ → Bool
has_offer sides = eqb (sides / 2 % 2) 1

-- sides up to 3; an absent side holds zero
abbrev pub sides_right : ℕ → Price → Price → Bool
sides_right sides bid offer =
    both (leb sides 3)
    (both (if_absent (has_bid sides) (cents_within (pos 0) (pos 0) bid))
    (if_absent (has_offer sides) (cents_within (pos 0) (pos 0) offer)))

-- the prices of the sides: an absent side isn't tested
abbrev pub side_prices_right : ℕ → ℕ → Price → Price → Bool
side_prices_right instrument sides bid offer =
    both (if_present (has_bid sides) (price_right instrument bid))
    (if_present (has_offer sides) (price_right instrument offer))

-- the bid is not above the offer where both are present
abbrev pub ordered : ℕ → Price → Price → Bool
ordered sides bid offer = if_present (both (has_bid sides) (has_offer sides)) (le_z bid.cents offer.cents)

-- a field's instrument, 7 and 18, before the rest of it
abbrev pub on_instrument : Before → ℕ → ℕ → ℕ
on_instrument before instrument rest = unless (instrument_right instrument) 7 (unless (allowed before.third instrument) 18 rest)

-- a record's instrument and time, 7, 18 and 8, before the rest of it
abbrev pub stamped : Before → ℕ → ℕ → ℕ → ℕ
stamped before time instrument rest = on_instrument before instrument (unless (time_right before.time time) 8 rest)

-- SHEET 5: the field's values in the order of the numbers, with 18 behind 7; in a quote the sides (11) come before the prices (9), and the bid above the
-- offer (11) last
unfoldable pub judge : Before → Field → ℕ
judge before (Header metal marks form) = unless (header_right metal marks (third_of form)) 6 fine
judge before (PreviousClose instrument price) = on_instrument before instrument (unless (price_right instrument price) 9 fine)
judge before (Trade time instrument price lots) =
    stamped before time instrument
    (unless (price_right instrument price) 9
    (unless (lots_right lots) 10 fine))
judge before (Quote time instrument sides bid offer) =
    stamped before time instrument
    (unless (sides_right sides bid offer) 11
    (unless (side_prices_right instrument sides bid offer) 9
    (unless (ordered sides bid offer) 11 fine)))
judge before (End count) = fine
