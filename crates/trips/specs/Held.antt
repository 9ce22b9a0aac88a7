-- Values that the wire can carry: each fits the bytes that a field has for it.
--     Held      each of a field's values fits its bytes
--     Counted   an end's count fits; SHEET 3 gives it no range, so no judgement of one field says it
use Rattle.std.specs.Prelude.{◌<◌}
use Rattle.std.specs.Int.{w32}
use Rattle.std.proofs.Common.{SFits}
use Rattle.field.specs.declared.Price.{Price}
use Rattle.field.specs.declared.Field.{Field}
use Rattle.field.specs.declared.Field.TheVariants.{Header, PreviousClose, Trade, Quote, End}

-- a price fits its four bytes
abbrev pub HeldPrice : Price → Type 0
HeldPrice price = SFits w32 price.cents

-- each value fits its bytes; a metal, a third value, an instrument and a sides byte are one byte as they are
abbrev pub Held : Field → Type 0
Held (Header metal marks form) = marks < 65536
Held (PreviousClose instrument price) = HeldPrice price
Held (Trade time instrument price lots) = (time < 4294967296) × HeldPrice price × (lots < 65536)
Held (Quote time instrument sides bid offer) = (time < 4294967296) × HeldPrice bid × HeldPrice offer
Held (End count) = count < 4294967296

-- a count fits its four bytes, as every count of the code does
abbrev pub Counted : Field → Type 0
Counted (Header metal marks form) = Unit {0}
Counted (PreviousClose instrument price) = Unit {0}
Counted (Trade time instrument price lots) = Unit {0}
Counted (Quote time instrument sides bid offer) = Unit {0}
Counted (End count) = count < 4294967296
