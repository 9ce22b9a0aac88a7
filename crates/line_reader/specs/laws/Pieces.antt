-- The pieces of each line with its line feed, as they are put and as they are found: what stands between two numbers, names or prices is one piece.
-- Assumes nothing.
use Rattle.std.specs.Prelude.{ℕ, ◌≡◌, List, [], ◌∷◌, ◌++◌}
use Rattle.std.proofs.Common.{append_assoc}
use Rattle.text.specs.Ascii.{ascii}
use Rattle.text.specs.Decimal.{decimal}
use Rattle.field.specs.declared.Price.{Price}
use Rattle.field.specs.declared.Form.{Form}
use Rattle.field.specs.declared.Form.TheVariants.{Short, Long}
use Rattle.field.specs.declared.Field.TheVariants as F
use Rattle.field.specs.Judging.{has_bid, has_offer}
use Rattle.dollars.specs.Dollars.{price_text}
use Rattle.names.specs.Names.{metal_name, instrument_name}
use Rattle.line_reader.specs.Lines.{side_text, items_of, line_of}

-- what a header's form puts behind its marks
abbrev pub form_text : Form → List ℕ
form_text Short = []
form_text (Long third) = ascii "," ++ decimal third

pub header-line : (metal marks : ℕ) (form : Form) → ascii "METAL," ++ (metal_name metal ++ (ascii "," ++ (decimal marks ++ (form_text form ++ ascii "\n")))) ≡ line_of (F.Header metal marks form) ++ 10 ∷ []
unfolding line_of items_of
header-line metal marks Short = simp append_assoc
header-line metal marks (Long third) = simp append_assoc

pub previous-line : (instrument : ℕ) (p : Price) → ascii "PREV," ++ (instrument_name instrument ++ (ascii "," ++ (price_text p.cents ++ ascii "\n"))) ≡ line_of (F.PreviousClose instrument p) ++ 10 ∷ []
unfolding line_of items_of
previous-line instrument p = simp append_assoc

pub trade-line : (time instrument : ℕ) (p : Price) (lots : ℕ) → (decimal time ++ 44 ∷ instrument_name instrument) ++ (ascii ",TRADE," ++ (price_text p.cents ++ (ascii "," ++ (decimal lots ++ ascii "\n")))) ≡ line_of (F.Trade time instrument p lots) ++ 10 ∷ []
unfolding line_of items_of
trade-line time instrument p lots = simp append_assoc

pub quote-line : (time instrument sides : ℕ) (bid offer : Price) → (decimal time ++ 44 ∷ instrument_name instrument) ++ (ascii ",QUOTE," ++ (side_text (has_bid sides) bid ++ (ascii "," ++ (side_text (has_offer sides) offer ++ ascii "\n")))) ≡ line_of (F.Quote time instrument sides bid offer) ++ 10 ∷ []
unfolding line_of items_of
quote-line time instrument sides bid offer = simp append_assoc
