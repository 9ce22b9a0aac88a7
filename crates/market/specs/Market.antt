-- RULES 1 to 4: the tables by metal, by contract, by instrument and by the header's third value, what a row of each says, the windows, the marks and
-- the minimum.
use Rattle.std.specs.Prelude.{ℕ, zero, suc, ◌+◌, ◌/◌, ◌%◌, ◌^◌, Bool, false, ◌&&◌, ◌||◌, cond, List, [], ◌∷◌, eqb, leb, ltb, get_or}
use Rattle.market.specs.declared.Metal.{Metal}
use Rattle.market.specs.declared.Contract.{Contract}
use Rattle.market.specs.declared.Leg.{Leg}
use Rattle.market.specs.declared.Leg.TheVariants.{Outright, Over, Under}

-- RULES 3, by metal: spread start, anchor start, 3M step
abbrev pub metals : List (List ℕ)
metals =
    (58200000 ∷ 58500000 ∷ 100 ∷ []) ∷  -- 1 Nickel
    (58800000 ∷ 59100000 ∷ 50 ∷ []) ∷  -- 2 Aluminium
    (59400000 ∷ 59700000 ∷ 50 ∷ []) ∷  -- 3 Zinc
    (60000000 ∷ 60300000 ∷ 50 ∷ []) ∷  -- 4 Copper
    (60600000 ∷ 60900000 ∷ 50 ∷ []) ∷  -- 5 Lead
    []

-- the cells of a row by name; a cell that is not there is 0
abbrev pub metal_by : List ℕ → Metal
metal_by row = record { spread = get_or row 0 0; anchor = get_or row 1 0; step = get_or row 2 0 }

-- a metal's row, counted from 1; zeros where there is none
unfoldable pub metal_of : ℕ → Metal
metal_of zero = metal_by []
metal_of (suc m) = metal_by (get_or metals m [])

-- RULES 1, by contract in pricing order: VWAP from the first instrument up to the one before the second, TWAP from the third; rounded to the
-- fourth, or where that is 0 to the metal's step (RULES 3)
abbrev pub contracts : List (List ℕ)
contracts =
    (0 ∷ 1 ∷ 0 ∷ 0 ∷ []) ∷  -- 3M: VWAP from 0, TWAP from 0
    (1 ∷ 2 ∷ 1 ∷ 1 ∷ []) ∷  -- M3: 1; 1
    (2 ∷ 4 ∷ 3 ∷ 1 ∷ []) ∷  -- M2: 2, 3; 3
    (4 ∷ 7 ∷ 5 ∷ 1 ∷ []) ∷  -- M4: 4, 5, 6; 5
    (7 ∷ 11 ∷ 7 ∷ 1 ∷ []) ∷  -- M1: 7, 8, 9, 10; 7
    (11 ∷ 12 ∷ 11 ∷ 1 ∷ []) ∷  -- Cash: 11; 11
    []

-- the cells of a row by name; a cell that is not there is 0
abbrev pub contract_by : List ℕ → Contract
contract_by row = record { first = get_or row 0 0; past = get_or row 1 0; twap = get_or row 2 0; step = get_or row 3 0 }

-- a contract's row, counted from 0 in pricing order; zeros where there is none
unfoldable pub contract_of : ℕ → Contract
contract_of c = contract_by (get_or contracts c [])

-- the contracts by their place in pricing order
abbrev pub 3M : ℕ
3M = 0

abbrev pub M3 : ℕ
M3 = 1

abbrev pub M2 : ℕ
M2 = 2

abbrev pub M4 : ℕ
M4 = 3

abbrev pub M1 : ℕ
M1 = 4

abbrev pub Cash : ℕ
Cash = 5

-- RULES 1, by instrument: A and B of each A-B; the outright has 3M for both
abbrev pub instruments : List (List ℕ)
instruments =
    (3M ∷ 3M ∷ []) ∷  -- 0 3M outright
    (M3 ∷ 3M ∷ []) ∷  -- 1 M3-3M
    (M2 ∷ 3M ∷ []) ∷  -- 2 M2-3M
    (M2 ∷ M3 ∷ []) ∷  -- 3 M2-M3
    (M2 ∷ M4 ∷ []) ∷  -- 4 M2-M4
    (M3 ∷ M4 ∷ []) ∷  -- 5 M3-M4
    (3M ∷ M4 ∷ []) ∷  -- 6 3M-M4
    (M1 ∷ M2 ∷ []) ∷  -- 7 M1-M2
    (M1 ∷ M3 ∷ []) ∷  -- 8 M1-M3
    (M1 ∷ 3M ∷ []) ∷  -- 9 M1-3M
    (M1 ∷ M4 ∷ []) ∷  -- 10 M1-M4
    (Cash ∷ M1 ∷ []) ∷  -- 11 Cash-M1
    []

-- RULES 1, by the header's third value: the contract that 3M is, and the instruments on which no field may be then
abbrev pub named_by : List (List ℕ)
named_by =
    [] ∷  -- 0: 3M is no monthly contract
    (M3 ∷ []) ∷  -- 1: 3M is M3
    (M4 ∷ []) ∷  -- 2: 3M is M4
    []

abbrev pub barred_by : List (List ℕ)
barred_by =
    [] ∷  -- 0: none
    (1 ∷ 2 ∷ 6 ∷ 9 ∷ []) ∷  -- 1: M3-3M, M2-3M, 3M-M4, M1-3M
    (4 ∷ 5 ∷ 6 ∷ 10 ∷ []) ∷  -- 2: M2-M4, M3-M4, 3M-M4, M1-M4
    []

-- a number is in a row
unfoldable pub is_in : ℕ → List ℕ → Bool
is_in n [] = false
is_in n (m ∷ ms) = eqb n m || is_in n ms

unfoldable pub named : ℕ → ℕ → Bool
named third contract = is_in contract (get_or named_by third [])

unfoldable pub barred : ℕ → ℕ → Bool
barred third instrument = is_in instrument (get_or barred_by third [])

-- RULES 2: the later of A and B in pricing order is priced. A is B's close plus the spread, B is A's close less it
abbrev pub leg_by : ℕ → ℕ → Leg
leg_by a b = cond (ltb b a) (Over b) (cond (ltb a b) (Under a) Outright)

-- A and B are the cells of a row
abbrev pub row_leg : List ℕ → Leg
row_leg row = leg_by (get_or row 0 0) (get_or row 1 0)

-- the leg of an instrument; one that is in no row is as the outright
unfoldable pub leg_of : ℕ → Leg
leg_of i = row_leg (get_or instruments i [])

-- RULES 3: the anchor window for the outright, the spread window for every spread
unfoldable pub start_of : ℕ → ℕ → ℕ
start_of metal i = cond (eqb i 0) (metal_of metal).anchor (metal_of metal).spread

-- RULES 3: 3M is rounded to its metal's step, every other contract to 1 cent
unfoldable pub step_of : ℕ → ℕ → ℕ
step_of metal c = cond (eqb (contract_of c).step 0) (metal_of metal).step (contract_of c).step

-- RULES 3: a window's milliseconds. A number that nothing computes with unasked, since all its milliseconds can be counted
unfoldable pub window_length : ℕ
window_length = 300000

-- RULES 4: the least lots, over all of a contract's VWAP instruments together, at which its trades price it
abbrev pub minimum_lots : ℕ
minimum_lots = 5

-- RULES 3: a window's start is in, and the millisecond 300,000 later is out
unfoldable pub in_window : ℕ → ℕ → Bool
in_window start time = leb start time && ltb time (start + window_length)

-- RULES 2: bit i-1 marks spread i; the outright has no mark
unfoldable pub marked : ℕ → ℕ → Bool
marked marks zero = false
marked marks (suc i) = eqb (marks / 2 ^ i % 2) 1
