-- RULES 7: the indicator of one instrument, a small state handed back changed by each record; and RULES 6: its sum over the milliseconds of a
-- window.
use Rattle.std.specs.Prelude.{ℕ, zero, suc, ◌+◌, Bool, true, false, cond, List, [], ◌∷◌, leb, eqb, ℤ, pos, ◌+ℤ◌, Option, Some, None}
use Rattle.std.specs.Int.Signed.{lt_z}
use Rattle.field.specs.declared.Price.{Price}
use Rattle.field.specs.declared.Field.{Field}
use Rattle.field.specs.declared.Field.TheVariants.{Header, PreviousClose, Trade, Quote, End}
use Rattle.field.specs.Judging.{has_bid, has_offer}
use Rattle.market.specs.Market.{window_length}
use Rattle.indicator.specs.declared.Indicator.{Indicator}

-- ---- the state

-- a price that is there or not
abbrev pub side_of : Bool → Price → Option Price
side_of here price = cond here (Some price) None

-- whether it is there
abbrev pub present : Option Price → Bool
present None = false
present (Some p) = true

-- its cents; a price that is not there counts 0, and 13 is given before it is counted
abbrev pub cents_of : Option Price → ℤ
cents_of None = pos 0
cents_of (Some p) = p.cents

-- no reference, and an empty book
abbrev pub empty : Indicator
empty = record { reference = None; bid = None; offer = None }

-- RULES 7: a trade becomes the reference
abbrev pub after_trade : Indicator → Price → Indicator
after_trade s price = record { reference = Some price; bid = s.bid; offer = s.offer }

-- the side where it is there, else the price
abbrev pub else_at : Option Price → Price → Option Price
else_at None price = Some price
else_at (Some p) price = Some p

-- RULES 7: the previous close is the reference where there was no trade
abbrev pub after_close : Indicator → Price → Indicator
after_close s price = record { reference = else_at s.reference price; bid = s.bid; offer = s.offer }

-- RULES 7: a quote replaces both sides; a side that it leaves out is absent
abbrev pub after_quote : Indicator → ℕ → Price → Price → Indicator
after_quote s sides bid offer = record { reference = s.reference; bid = side_of (has_bid sides) bid; offer = side_of (has_offer sides) offer }

-- a price is below another
abbrev pub below : Price → Price → Bool
below price other = lt_z price.cents other.cents

-- RULES 7: the offer where it is below the reference, else the reference
abbrev pub below_offer : Price → Option Price → Price
below_offer reference None = reference
below_offer reference (Some o) = cond (below o reference) o reference

-- RULES 7: the bid where it is above the reference
abbrev pub inside_book : Price → Option Price → Option Price → Price
inside_book reference None offer = below_offer reference offer
inside_book reference (Some b) offer = cond (below reference b) b (below_offer reference offer)

-- of reference, bid and offer; there is no indicator where there is no reference
abbrev pub value_by : Option Price → Option Price → Option Price → Option Price
value_by None bid offer = None
value_by (Some p) bid offer = Some (inside_book p bid offer)

-- the indicator of a state
abbrev pub value_of : Indicator → Option Price
value_of s = value_by s.reference s.bid s.offer

-- ---- the fields of a sheet

-- what a field does to the state of instrument i
unfoldable pub taken : ℕ → Indicator → Field → Indicator
taken i s (Header metal marks form) = s
taken i s (PreviousClose instrument price) = cond (eqb instrument i) (after_close s price) s
taken i s (Trade time instrument price lots) = cond (eqb instrument i) (after_trade s price) s
taken i s (Quote time instrument sides bid offer) = cond (eqb instrument i) (after_quote s sides bid offer) s
taken i s (End count) = s

-- the millisecond from which a field counts: a record's time; any other field counts all day
abbrev pub stamp : Field → ℕ
stamp (Header metal marks form) = 0
stamp (PreviousClose instrument price) = 0
stamp (Trade time instrument price lots) = time
stamp (Quote time instrument sides bid offer) = time
stamp (End count) = 0

-- the state s after every field of the list that counts at the millisecond t
unfoldable pub after_from : ℕ → ℕ → Indicator → List Field → Indicator
after_from i t s [] = s
after_from i t s (f ∷ fs) = after_from i t (cond (leb (stamp f) t) (taken i s f) s) fs

-- RULES 7: the state at the millisecond t. The day begins with no reference and an empty book, and each trade and quote up to t counts, in the window
-- or before it
abbrev pub after : ℕ → ℕ → List Field → Indicator
after i t fs = after_from i t empty fs

-- RULES 7: the indicator at a millisecond, behind every record of that millisecond
abbrev pub indicator_at : ℕ → ℕ → List Field → Option Price
indicator_at i t fs = value_of (after i t fs)

-- the same in cents, as a function of the millisecond
abbrev pub cents_at : ℕ → List Field → ℕ → ℤ
cents_at i fs t = cents_of (indicator_at i t fs)

-- f t + f (t + 1) + .., n of them
unfoldable pub sum_from : (ℕ → ℤ) → ℕ → ℕ → ℤ
sum_from f t zero = pos 0
sum_from f t (suc n) = sum_from f t n +ℤ f (t + n)

-- RULES 6: the sum of the indicator over the window's milliseconds
abbrev pub twap_sum : ℕ → ℕ → List Field → ℤ
twap_sum i start fs = sum_from (cents_at i fs) start window_length

-- RULES 9, 13: whether there is a reference at the window's first millisecond
abbrev pub has_reference : ℕ → ℕ → List Field → Bool
has_reference i start fs = present (after i start fs).reference
