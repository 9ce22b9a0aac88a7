-- RULES 10: the text that is printed for a sheet.
use Rattle.std.specs.Prelude.{ℕ, suc, cond, List, [], ◌∷◌, ◌++◌, leb, length}
use Rattle.text.specs.Decimal.{decimal}
use Rattle.price_rules.specs.Closing.{Told, close, refused, Answers, six, none-priced, answers_of}
use Rattle.names.specs.Names.{metal_name, contract_name, method_name, refused_name, too_long_name}

-- the byte between items
abbrev pub space : ℕ
space = 32

-- the byte behind a line
abbrev pub line_feed : ℕ
line_feed = 10

-- a line: a space between its items, a line feed at its end
abbrev pub line : List (List ℕ) → List ℕ
line [] = line_feed ∷ []
line (last ∷ []) = last ++ line_feed ∷ []
line (item ∷ next ∷ items) = item ++ space ∷ line (next ∷ items)

-- a refusal: the word, the number, and a contract's lots or a sheet's byte
abbrev pub refusal : ℕ → ℕ → List (List ℕ)
refusal number n = refused_name ∷ decimal number ∷ decimal n ∷ []

-- what stands behind the contract: method, close in cents and lots; or a refusal with the lots
abbrev pub answer_items : Told → List (List ℕ)
answer_items (close method cents lots) = method_name method ∷ decimal cents ∷ decimal lots ∷ []
answer_items (refused number lots) = refusal number lots

-- a contract's line: its name, and its answer
unfoldable pub answer_line : ℕ → Told → List ℕ
answer_line contract told = line (contract_name contract ∷ answer_items told)

-- the contracts' lines in pricing order, from a contract on
unfoldable pub answer_lines : ℕ → List Told → List ℕ
answer_lines contract [] = []
answer_lines contract (told ∷ more) = answer_line contract told ++ answer_lines (suc contract) more

-- the metal's name on a line of its own, then the contracts; of a refused sheet its refusal alone
unfoldable pub list_text : Answers → List ℕ
list_text (six day tolds) = line (metal_name day.metal ∷ []) ++ answer_lines 0 tolds
list_text (none-priced number at) = line (refusal number at)

-- a sheet of up to 65,536 bytes is listed; of a longer one the line says so
unfoldable pub list_of : List ℕ → List ℕ
list_of sheet = cond (leb (length sheet) 65536) (list_text (answers_of sheet)) (line (too_long_name ∷ []))
