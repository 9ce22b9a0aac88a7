-- RULES 10 and TAPE 3: the names on the closing list and on the tape, as they are printed, and the number of a name.
use Rattle.std.specs.Prelude.{ℕ, zero, suc, ◌-◌, Bool, true, false, cond, List, [], ◌∷◌, ◌++◌, eqb, length, get_or, replicate, Option, Some, None}
use Rattle.text.specs.Ascii.{ascii}
use Rattle.price_rules.specs.declared.Method.{Method}
use Rattle.price_rules.specs.declared.Method.TheVariants.{Vwap, Twap}
use Rattle.names.specs.declared.Name.{Name}

-- the metals, 1 to 5
abbrev pub metal_names : List (List ℕ)
metal_names = ascii "Nickel" ∷ ascii "Aluminium" ∷ ascii "Zinc" ∷ ascii "Copper" ∷ ascii "Lead" ∷ []

-- a metal's name, counted from 1; no bytes where there is none
unfoldable pub metal_name : ℕ → List ℕ
metal_name zero = []
metal_name (suc m) = get_or metal_names m []

-- the contracts in pricing order
abbrev pub contract_names : List (List ℕ)
contract_names = ascii "3M" ∷ ascii "M3" ∷ ascii "M2" ∷ ascii "M4" ∷ ascii "M1" ∷ ascii "Cash" ∷ []

-- a contract's name, counted from 0; no bytes where there is none
unfoldable pub contract_name : ℕ → List ℕ
contract_name c = get_or contract_names c []

-- the instruments, 0 to 11
abbrev pub instrument_names : List (List ℕ)
instrument_names =
    ascii "3M" ∷ ascii "M3-3M" ∷ ascii "M2-3M" ∷ ascii "M2-M3" ∷ ascii "M2-M4" ∷ ascii "M3-M4" ∷
    ascii "3M-M4" ∷ ascii "M1-M2" ∷ ascii "M1-M3" ∷ ascii "M1-3M" ∷ ascii "M1-M4" ∷ ascii "Cash-M1" ∷ []

-- an instrument's name, counted from 0; no bytes where there is none
unfoldable pub instrument_name : ℕ → List ℕ
instrument_name i = get_or instrument_names i []

-- a method's name
abbrev pub method_name : Method → List ℕ
method_name Vwap = ascii "VWAP"
method_name Twap = ascii "TWAP"

-- what stands in the place of method and cents, and before a refused sheet's number
abbrev pub refused_name : List ℕ
refused_name = ascii "refused"

-- the line of a sheet that is not listed
abbrev pub too_long_name : List ℕ
too_long_name = ascii "too long"

-- ---- the number of a name

-- the same bytes
unfoldable pub same : List ℕ → List ℕ → Bool
same [] [] = true
same [] (b ∷ s) = false
same (a ∷ name) [] = false
same (a ∷ name) (b ∷ s) = cond (eqb b a) (same name s) false

-- the number of the first of the names that s is; the first name has the number k
abbrev pub number_of : List ℕ → List (List ℕ) → ℕ → Option ℕ
number_of s [] k = None
number_of s (name ∷ names) k = cond (same name s) (Some k) (number_of s names (suc k))

-- a metal's number, counted from 1, and an instrument's, counted from 0
unfoldable pub metal_in : List ℕ → Option ℕ
metal_in s = number_of s metal_names 1

unfoldable pub instrument_in : List ℕ → Option ℕ
instrument_in s = number_of s instrument_names 0

-- ---- what each answer of the code says

-- a name by value: its bytes, and spaces behind them up to nine
abbrev pub in_name : List ℕ → Name
in_name s = record { bytes = s ++ replicate (9 - length s) 32; len = length s }
