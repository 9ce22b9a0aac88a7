-- What is handed over to a C or a Rust program: numbers, and their order in lent memory.
--     a refusal is its number; 0 says yes. What goes with a yes or with a no is laid into lent memory, and the rest of it stays as it was
use Rattle.std.specs.Prelude.{ℕ, List, [], ◌∷◌, ◌++◌, ℤ, pos, Option, Some, None}
use Rattle.field.specs.declared.Price.{Price}
use Rattle.field.specs.declared.Field.{Field}
use Rattle.field.specs.declared.Field.TheVariants.{Header, PreviousClose, Trade, Quote, End}
use Rattle.field.specs.Judging.{third_of}
use Rattle.field.specs.Layout.{form_tag}
use Rattle.field.specs.Said.{Said, gives, refuses}
use Rattle.sheet.specs.Judgement.{Verdict, accepts, refuses-at}
use Rattle.price_rules.specs.declared.Method.{Method}
use Rattle.price_rules.specs.declared.Method.TheVariants.{Vwap, Twap}
use Rattle.price_rules.specs.Closing.{Told, close, refused, Answers, six, none-priced}

-- ---- the list: its length; no list has length 0

abbrev pub length_or0 : Option ℕ → ℕ
length_or0 (Some n) = n
length_or0 None = 0

-- ---- a sheet's judgement: the number, and the byte that goes with a refusal

abbrev pub verdict_number : Verdict → ℕ
verdict_number (accepts day) = 0
verdict_number (refuses-at number at) = number

abbrev pub verdict_byte : ℕ → Verdict → ℕ
verdict_byte old (accepts day) = old
verdict_byte old (refuses-at number at) = at

-- ---- the six answers: a row each of three numbers, in pricing order

abbrev pub method_number : Method → ℕ
method_number Vwap = 1
method_number Twap = 2

-- the method, or the refusal's number, 13 to 15; the close in cents, 0 where there is none; the lots
abbrev pub row_of : Told → List ℕ
row_of (close method m lots) = method_number method ∷ m ∷ lots ∷ []
row_of (refused number lots) = number ∷ 0 ∷ lots ∷ []

abbrev pub rows_of : List Told → List ℕ
rows_of [] = []
rows_of (t ∷ ts) = row_of t ++ rows_of ts

abbrev pub answers_number : Answers → ℕ
answers_number (six day tolds) = 0
answers_number (none-priced number at) = number

abbrev pub answers_byte : ℕ → Answers → ℕ
answers_byte old (six day tolds) = old
answers_byte old (none-priced number at) = at

abbrev pub answers_rows : List ℕ → Answers → List ℕ
answers_rows old (six day tolds) = rows_of tolds
answers_rows old (none-priced number at) = old

-- ---- what was put at the start of a buffer: the number, and the length or the place that goes with it

abbrev pub filled_number : Said (Unit {0}) → ℕ
filled_number (gives given length) = 0
filled_number (refuses number place) = number

abbrev pub filled_length : ℕ → Said (Unit {0}) → ℕ
filled_length old (gives given length) = length
filled_length old (refuses number place) = old

abbrev pub filled_place : ℕ → Said (Unit {0}) → ℕ
filled_place old (gives given length) = old
filled_place old (refuses number place) = place

-- ---- one field: its tag, its values in the order of its body, and zeros up to six numbers; a short header has no third value, and so a zero there

abbrev pub values_of : Field → List ℤ
values_of (Header metal marks form) = pos (form_tag form) ∷ pos metal ∷ pos marks ∷ pos (third_of form) ∷ pos 0 ∷ pos 0 ∷ []
values_of (PreviousClose instrument price) = pos 2 ∷ pos instrument ∷ price.cents ∷ pos 0 ∷ pos 0 ∷ pos 0 ∷ []
values_of (Trade time instrument price lots) = pos 3 ∷ pos time ∷ pos instrument ∷ price.cents ∷ pos lots ∷ pos 0 ∷ []
values_of (Quote time instrument sides bid offer) = pos 4 ∷ pos time ∷ pos instrument ∷ pos sides ∷ bid.cents ∷ offer.cents ∷ []
values_of (End count) = pos 5 ∷ pos count ∷ pos 0 ∷ pos 0 ∷ pos 0 ∷ pos 0 ∷ []

-- a price that is handed over as its cents
abbrev pub price_of : ℤ → Price
price_of cents = record { cents = cents }

-- yes or a number, for a field that is read and one that is written
abbrev pub said_number : {A : Type 0} → Said A → ℕ
said_number (gives given next) = 0
said_number (refuses number at) = number

abbrev pub said_next : {A : Type 0} → ℕ → Said A → ℕ
said_next old (gives given next) = next
said_next old (refuses number at) = old

abbrev pub read_values : List ℤ → Said Field → List ℤ
read_values old (gives f next) = values_of f
read_values old (refuses number at) = old
