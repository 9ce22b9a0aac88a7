-- RULES 11: a field with other prices. Both laws are about sheets whose fields of one instrument are changed so.
--     shift_field    every price moved by as many cents, as 3M's are when it is lifted
--     turn_field     a spread's field quoted the other way round
use Rattle.std.specs.Prelude.{ℕ, ◌+◌, ◌*◌, ◌/◌, ◌%◌, Bool, false, cond, eqb, ℤ, neg_ℤ, ◌+ℤ◌}
use Rattle.field.specs.declared.Price.{Price}
use Rattle.field.specs.declared.Field.{Field}
use Rattle.field.specs.declared.Field.TheVariants.{Header, PreviousClose, Trade, Quote, End}
use Rattle.field.specs.Judging.{has_bid, has_offer}

-- the field is of instrument i
abbrev pub concerns : ℕ → Field → Bool
concerns i (Header metal marks form) = false
concerns i (PreviousClose instrument price) = eqb instrument i
concerns i (Trade time instrument price lots) = eqb instrument i
concerns i (Quote time instrument sides bid offer) = eqb instrument i
concerns i (End count) = false

-- the change g at the fields of instrument i, and nowhere else
abbrev pub changed : ℕ → (Field → Field) → Field → Field
changed i g f = cond (concerns i f) (g f) f

-- what a quote says of its sides
pub record Sides : Type 0 where
  pub sides : ℕ
  pub bid : Price
  pub offer : Price

-- the prices of closes and trades by m, and a quote's sides by q
abbrev pub repriced : (Price → Price) → (ℕ → Price → Price → Sides) → Field → Field
repriced m q (Header metal marks form) = Header metal marks form
repriced m q (PreviousClose instrument price) = PreviousClose instrument (m price)
repriced m q (Trade time instrument price lots) = Trade time instrument (m price) lots
repriced m q (Quote time instrument sides bid offer) = Quote time instrument (q sides bid offer).sides (q sides bid offer).bid (q sides bid offer).offer
repriced m q (End count) = End count

-- a price moved by δ
abbrev pub shift_price : ℤ → Price → Price
shift_price δ p = record { cents = p.cents +ℤ δ }

-- a quote moved by δ: the sides that are present
abbrev pub shift_sides : ℤ → ℕ → Price → Price → Sides
shift_sides δ sides bid offer = record { sides = sides; bid = cond (has_bid sides) (shift_price δ bid) bid; offer = cond (has_offer sides) (shift_price δ offer) offer }

-- a field whose prices are moved by δ
abbrev pub shift_field : ℤ → Field → Field
shift_field δ = repriced (shift_price δ) (shift_sides δ)

-- a price negated
abbrev pub turn_price : Price → Price
turn_price p = record { cents = neg_ℤ p.cents }

-- a quote turned round: prices negated, bid and offer exchanged, and their bits too
abbrev pub turn_sides : ℕ → Price → Price → Sides
turn_sides sides bid offer = record { sides = 2 * (sides % 2) + sides / 2 % 2; bid = turn_price offer; offer = turn_price bid }

-- a field turned round
abbrev pub turn_field : Field → Field
turn_field = repriced turn_price turn_sides
