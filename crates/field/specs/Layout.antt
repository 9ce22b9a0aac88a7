-- SHEET 1, the table of tags: a field's tag, its length and its body, as the bytes of its values and as the values of a body's bytes.
use Rattle.std.specs.Prelude.{ℕ, ◌+◌, Bool, cond, List, [], ◌∷◌, ◌++◌, eqb, get_or}
use Rattle.wire.specs.Big.{be2_at, be4_at, signed_at, bytes2, bytes4, signed_bytes}
use Rattle.field.specs.declared.Price.{Price}
use Rattle.field.specs.declared.Form.{Form}
use Rattle.field.specs.declared.Form.TheVariants.{Short, Long}
use Rattle.field.specs.declared.Field.{Field}
use Rattle.field.specs.declared.Field.TheVariants.{Header, PreviousClose, Trade, Quote, End}
use Rattle.field.specs.Judging.{within}

-- tags 1 to 6, and the length of each tag's body; no tag is 0
abbrev pub tag_right : ℕ → Bool
tag_right tag = within 1 6 tag

abbrev pub lengths : List ℕ
lengths = 0 ∷ 3 ∷ 5 ∷ 11 ∷ 14 ∷ 4 ∷ 4 ∷ []

abbrev pub length_of : ℕ → ℕ
length_of tag = get_or lengths tag 0

-- a field's tag; a header's goes by its form
abbrev pub form_tag : Form → ℕ
form_tag Short = 1
form_tag (Long third) = 6

unfoldable pub tag_of : Field → ℕ
tag_of (Header metal marks form) = form_tag form
tag_of (PreviousClose instrument price) = 2
tag_of (Trade time instrument price lots) = 3
tag_of (Quote time instrument sides bid offer) = 4
tag_of (End count) = 5

-- a field's body: header, metal (1), marks (2), in a long one the third value (1); previous close, instrument (1), price (4); trade, time (4),
-- instrument (1), price (4), lots (2); quote, time (4), instrument (1), sides (1), bid (4), offer (4); end, count of fields before it (4)
abbrev pub price_bytes : Price → List ℕ
price_bytes price = signed_bytes price.cents

abbrev pub form_bytes : Form → List ℕ
form_bytes Short = []
form_bytes (Long third) = third ∷ []

unfoldable pub body_bytes : Field → List ℕ
body_bytes (Header metal marks form) = metal ∷ bytes2 marks ++ form_bytes form
body_bytes (PreviousClose instrument price) = instrument ∷ price_bytes price
body_bytes (Trade time instrument price lots) = bytes4 time ++ instrument ∷ [] ++ price_bytes price ++ bytes2 lots
body_bytes (Quote time instrument sides bid offer) = bytes4 time ++ instrument ∷ sides ∷ [] ++ price_bytes bid ++ price_bytes offer
body_bytes (End count) = bytes4 count

-- the head: tag and length; the field: head and body, and how many bytes they are
abbrev pub head_bytes : ℕ → List ℕ
head_bytes tag = tag ∷ bytes2 (length_of tag)

abbrev pub field_bytes : Field → List ℕ
field_bytes f = head_bytes (tag_of f) ++ body_bytes f

abbrev pub size_of : ℕ → ℕ
size_of tag = 3 + length_of tag

-- the values of a body, by its tag
abbrev pub price_at : List ℕ → ℕ → Price
price_at b at = record { cents = signed_at b at }

abbrev pub header_by : Form → List ℕ → Field
header_by form b = Header (get_or b 0 0) (be2_at b 1) form

abbrev pub header_of : List ℕ → Field
header_of b = header_by Short b

abbrev pub previous_of : List ℕ → Field
previous_of b = PreviousClose (get_or b 0 0) (price_at b 1)

abbrev pub trade_of : List ℕ → Field
trade_of b = Trade (be4_at b 0) (get_or b 4 0) (price_at b 5) (be2_at b 9)

abbrev pub quote_of : List ℕ → Field
quote_of b = Quote (be4_at b 0) (get_or b 4 0) (get_or b 5 0) (price_at b 6) (price_at b 10)

abbrev pub end_of : List ℕ → Field
end_of b = End (be4_at b 0)

abbrev pub long_header_of : List ℕ → Field
long_header_of b = header_by (Long (get_or b 3 0)) b

unfoldable pub field_of : ℕ → List ℕ → Field
field_of tag b =
    cond (eqb tag 1) (header_of b)
    (cond (eqb tag 2) (previous_of b)
    (cond (eqb tag 3) (trade_of b)
    (cond (eqb tag 4) (quote_of b)
    (cond (eqb tag 5) (end_of b)
    (long_header_of b)))))
