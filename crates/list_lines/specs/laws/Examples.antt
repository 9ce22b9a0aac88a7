-- The list of the Nickel sheet of RULES 10, and the lines of refusals. Assumes nothing.
use Rattle.std.specs.Prelude.{◌≡◌, refl, [], ◌∷◌}
use Rattle.text.specs.Ascii.{ascii}
use Rattle.text.specs.Decimal.{decimal_in}
use Rattle.field.specs.declared.Form.TheVariants.{Short}
use Rattle.sheet.specs.declared.Day.{Day}
use Rattle.price_rules.specs.declared.Method.TheVariants.{Vwap, Twap}
use Rattle.price_rules.specs.Closing.{close, refused, six, none-priced}
use Rattle.names.specs.Names.{metal_name, contract_name}
use Rattle.list_lines.specs.Listing.{list_text, answer_line, answer_lines}

-- its header: short, metal 1, no mark; 11 fields with the end
abbrev nickel : Day
nickel = record { metal = 1; marks = 0; form = Short; fields = 11 }

-- its answers as they are printed
pub nickel-list :
    list_text (six nickel (close Vwap 1800100 6 ∷ close Vwap 1799601 6 ∷ close Vwap 1799301 5 ∷ close Vwap 1800011 5 ∷ close Twap 1799185 0 ∷ close Twap 1798935 0 ∷ []))
    ≡ ascii "Nickel\n3M VWAP 1800100 6\nM3 VWAP 1799601 6\nM2 VWAP 1799301 5\nM4 VWAP 1800011 5\nM1 TWAP 1799185 0\nCash TWAP 1798935 0\n"
unfolding list_text answer_line answer_lines metal_name contract_name decimal_in
nickel-list = refl

-- a contract that is refused: contract, `refused`, the number, lots
pub refused-line : answer_line 4 (refused 13 4) ≡ ascii "M1 refused 13 4\n"
unfolding answer_line contract_name decimal_in
refused-line = refl

-- the empty sheet
pub empty-sheet : list_text (none-priced 2 0) ≡ ascii "refused 2 0\n"
unfolding list_text decimal_in
empty-sheet = refl
