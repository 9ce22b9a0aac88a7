-- TAPE 1 to 4: a line of the tape, without its line feed, and the field that it stands for.
use Rattle.std.specs.Prelude.{ℕ, ◌+◌, ◌*◌, Bool, cond, List, [], ◌∷◌, pos, Option, Some, None}
use Rattle.text.specs.Ascii.{ascii}
use Rattle.text.specs.Decimal.{decimal}
use Rattle.numerals.specs.Numerals.{number, given}
use Rattle.field.specs.declared.Price.{Price}
use Rattle.field.specs.declared.Form.{Form}
use Rattle.field.specs.declared.Form.TheVariants.{Short, Long}
use Rattle.field.specs.declared.Field.{Field}
use Rattle.field.specs.declared.Field.TheVariants as F
use Rattle.field.specs.Judging.{has_bid, has_offer}
use Rattle.dollars.specs.Dollars.{priced, price, price_text}
use Rattle.names.specs.Names.{same, metal_in, instrument_in, metal_name, instrument_name}
use Rattle.items.specs.Items.{items, joined}

-- what a price gives, or what stands for none; what a side gives, by its bit and its price
abbrev pub paid : {A : Type 0} → A → Option Price → (Price → A) → A
paid none (Some p) behind = behind p
paid none None behind = none

-- the bit of a side, and its price, both 0 where it is absent
abbrev pub side_bit : Option Price → ℕ
side_bit None = 0
side_bit (Some p) = 1

abbrev pub side_price : Option Price → Price
side_price None = priced (pos 0)
side_price (Some p) = p

abbrev pub sided : {A : Type 0} → A → Option (Option Price) → (ℕ → Price → A) → A
sided none (Some side) behind = behind (side_bit side) (side_price side)
sided none None behind = none

-- TAPE 2, a side: its price, or a dash, which is an absent side
unfoldable pub side_in : List ℕ → Option (Option Price)
side_in s = cond (same (ascii "-") s) (Some None) (paid None (price s) (λ p. Some (Some p)))

-- TAPE 2, a trade and a quote: time, instrument, then price and lots, or bid and offer. A number stops rising at the width of its field
unfoldable pub trade_in : List ℕ → List ℕ → List ℕ → List ℕ → Option Field
trade_in time instrument cents lots =
    given None (number 4294967295 time)
    (λ t. given None (instrument_in instrument)
    (λ i. paid None (price cents)
    (λ p. given None (number 65535 lots)
    (λ l. Some (F.Trade t i p l)))))

unfoldable pub quote_in : List ℕ → List ℕ → List ℕ → List ℕ → Option Field
quote_in time instrument bid offer =
    given None (number 4294967295 time)
    (λ t. given None (instrument_in instrument)
    (λ i. sided None (side_in bid)
    (λ b p. sided None (side_in offer)
    (λ o q. Some (F.Quote t i (b + 2 * o) p q)))))

-- TAPE 2, a header of a form: metal and marks; a long one's third value stands behind them
unfoldable pub header_in : List ℕ → List ℕ → Form → Option Field
header_in metal marks form =
    given None (metal_in metal)
    (λ m. given None (number 65535 marks)
    (λ k. Some (F.Header m k form)))

unfoldable pub long_header_in : List ℕ → List ℕ → List ℕ → Option Field
long_header_in metal marks third = given None (number 255 third) (λ t. header_in metal marks (Long t))

-- TAPE 2, a previous close
unfoldable pub previous_in : List ℕ → List ℕ → Option Field
previous_in instrument cents =
    given None (instrument_in instrument)
    (λ i. paid None (price cents)
    (λ p. Some (F.PreviousClose i p)))

-- TAPE 2, the word that says which line it is: the first of three items and of four, the third of five
unfoldable pub three : List ℕ → List ℕ → List ℕ → Option Field
three a b c =
    cond (same (ascii "METAL") a) (header_in b c Short)
    (cond (same (ascii "PREV") a) (previous_in b c)
    None)

unfoldable pub four : List ℕ → List ℕ → List ℕ → List ℕ → Option Field
four a b c d = cond (same (ascii "METAL") a) (long_header_in b c d) None

unfoldable pub five : List ℕ → List ℕ → List ℕ → List ℕ → List ℕ → Option Field
five a b c d e =
    cond (same (ascii "TRADE") c) (trade_in a b d e)
    (cond (same (ascii "QUOTE") c) (quote_in a b d e)
    None)

-- by the number of items; any other number of them is no line
unfoldable pub field_of_items : List (List ℕ) → Option Field
field_of_items [] = None
field_of_items (a ∷ []) = None
field_of_items (a ∷ b ∷ []) = None
field_of_items (a ∷ b ∷ c ∷ []) = three a b c
field_of_items (a ∷ b ∷ c ∷ d ∷ []) = four a b c d
field_of_items (a ∷ b ∷ c ∷ d ∷ e ∷ []) = five a b c d e
field_of_items (a ∷ b ∷ c ∷ d ∷ e ∷ f ∷ is) = None

-- TAPE 1: commas between the items
unfoldable pub field_in : List ℕ → Option Field
field_in s = field_of_items (items s)

-- ---- a field's line, without its line feed. An end has none

unfoldable pub side_text : Bool → Price → List ℕ
side_text present p = cond present (price_text p.cents) (ascii "-")

abbrev pub form_items : Form → List (List ℕ)
form_items Short = []
form_items (Long third) = decimal third ∷ []

unfoldable pub items_of : Field → List (List ℕ)
items_of (F.Header metal marks form) = ascii "METAL" ∷ metal_name metal ∷ decimal marks ∷ form_items form
items_of (F.PreviousClose instrument p) = ascii "PREV" ∷ instrument_name instrument ∷ price_text p.cents ∷ []
items_of (F.Trade time instrument p lots) = decimal time ∷ instrument_name instrument ∷ ascii "TRADE" ∷ price_text p.cents ∷ decimal lots ∷ []
items_of (F.Quote time instrument sides bid offer) = decimal time ∷ instrument_name instrument ∷ ascii "QUOTE" ∷ side_text (has_bid sides) bid ∷ side_text (has_offer sides) offer ∷ []
items_of (F.End count) = []

unfoldable pub line_of : Field → List ℕ
line_of f = joined 44 (items_of f)
