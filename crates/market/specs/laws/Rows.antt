-- The definitions of the tables at the places where the code stands: a row that is there, a row that isn't, and the two tests.
-- Assumes nothing.
use Rattle.std.specs.Prelude.{ℕ, zero, suc, ◌+◌, ◌-◌, ◌/◌, ◌%◌, ◌^◌, ◌≤◌, ◌<◌, ◌≡◌, Bool, true, false, not, ◌||◌, cond, List, [], ◌∷◌, T, leb, ltb, eqb, get_or, length}
use Rattle.std.proofs.Math.Path.{refl}
use Rattle.std.proofs.Common.{sym, ap, ◌∙◌, lt_of_lt_of_le, arith, le-leb, lt-ltb, le-ltb, leb-true, ltb-true, ltb-false, ne_eqb}
use Rattle.std.proofs.Math.Nat.{div-eq_of_lt, pow-le-pow_right}
use Rattle.std.proofs.Math.Decide.{dec_lt}
use Rattle.std.proofs.lemmas.Bool.{lt-leb}
use Rattle.std.proofs.Math.ListN.{get_or-eq_default}
use Rattle.market.specs.laws.Table.{both, both_left, both_right, up_to, below}
use Rattle.market.specs.declared.Metal.{Metal}
use Rattle.market.specs.declared.Leg.TheVariants.{Outright}
use Rattle.market.specs.Market.{metals, metal_by, metal_of, contracts, contract_by, contract_of, instruments, row_leg, leg_of, start_of, window_length, in_window, marked, named_by, barred_by, is_in, named, barred}

-- the number itself, for a proof that asks for it
pub window-length : window_length ≡ 300000
unfolding window_length
window-length = refl

-- A and B of an instrument's row; an instrument with no row has 3M for both
abbrev pub cells : List ℕ → ℕ × ℕ
cells row = (get_or row 0 0, get_or row 1 0)

abbrev pub pair_of : ℕ → ℕ × ℕ
pair_of i = cells (get_or instruments i [])

pub pair-none : (i : ℕ) → 12 ≤ i → (0, 0) ≡ pair_of i
pair-none i h = ap cells (sym (get_or-eq_default instruments [] {n = i} (omega arith)))

-- a metal's row as the code counts, and a metal with no row
pub metal-row : (m : ℕ) → 0 < m → metal_by (get_or metals (m - 1) []) ≡ metal_of m
unfolding metal_of
metal-row zero h = absurd (omega arith)
metal-row (suc m) h = let e : suc m - 1 ≡ m = omega arith in ap (λ (k : ℕ). metal_by (get_or metals k [])) e

pub metal-none : (m : ℕ) → 5 < m → metal_by [] ≡ metal_of m
metal-none m h = let e : 5 ≤ m - 1 = omega arith in sym (ap metal_by (get_or-eq_default metals [] e)) ∙ metal-row m (omega arith)

pub contract-none : (c : ℕ) → 6 ≤ c → contract_by [] ≡ contract_of c
unfolding contract_of
contract-none c h = sym (ap contract_by (get_or-eq_default contracts [] h))

pub leg-none : (i : ℕ) → 12 ≤ i → Outright ≡ leg_of i
unfolding leg_of
leg-none i h = sym (ap row_leg (get_or-eq_default instruments [] h))

-- an instrument's start by the row of its metal
unfoldable pub start_in : Metal → ℕ → ℕ
start_in row i = cond (eqb i 0) row.anchor row.spread

pub start-in : (metal i : ℕ) → start_in (metal_of metal) i ≡ start_of metal i
unfolding start_in start_of
start-in metal i = refl

-- a time before the start, and one from it on
pub window-before : (start time : ℕ) → time < start → in_window start time ≡ false
unfolding in_window
window-before start time h = simp (lt-leb start time h)

pub window-from : (start time : ℕ) → start ≤ time → in_window start time ≡ ltb (time - start) 300000
unfolding in_window
window-from start time h = simp (le-leb start time h) (by-test (dec_lt (time - start) 300000))
  where
    by-test : Dec (time - start < 300000) → ltb time (start + window_length) ≡ ltb (time - start) 300000
    by-test (yes l) = lt-ltb time (start + window_length) (omega (arith, window-length)) ∙ sym (lt-ltb (time - start) 300000 l)
    by-test (no l) = le-ltb time (start + window_length) (omega (arith, window-length)) ∙ sym (le-ltb (time - start) 300000 (omega arith))

-- what the test says
pub window-told : (start time : ℕ) → in_window start time ≡ true → (start ≤ time) × (time < start + window_length)
unfolding in_window
window-told start time e = by_first (leb start time) refl
  where
    by_first : (b : Bool) → leb start time ≡ b → (start ≤ time) × (time < start + window_length)
    by_first true h = (leb-true start time h, ltb-true time (start + window_length) (simp h at e))
    by_first false h = let z : ◌≡◌ {A = ℕ} 0 1 = cc in absurd (omega arith)

pub window-in : (start time : ℕ) → start ≤ time → time < start + window_length → in_window start time ≡ true
unfolding in_window
window-in start time l h = simp (le-leb start time l, lt-ltb time (start + window_length) h)

pub window-behind : (start time : ℕ) → start + window_length ≤ time → in_window start time ≡ false
unfolding in_window
window-behind start time h = simp (le-leb start time (omega arith), le-ltb time (start + window_length) h)

-- the mark of a spread as the code counts; no u16 has a bit above 15
pub marked-at : (marks i : ℕ) → (i ≡ 0 → ⊥) → marked marks i ≡ eqb (marks / 2 ^ (i - 1) % 2) 1
unfolding marked
marked-at marks zero h = absurd (h refl)
marked-at marks (suc i) h = let e : suc i - 1 ≡ i = omega arith in ap (λ (k : ℕ). eqb (marks / 2 ^ k % 2) 1) (sym e)

pub marked-above : (marks i : ℕ) → marks < 65536 → 16 < i → marked marks i ≡ false
marked-above marks i m h =
    let small : marks < 2 ^ (i - 1) = lt_of_lt_of_le m (pow-le-pow_right {n = 2} (omega arith) {i = 16} {j = i - 1} (omega arith)) in
    marked-at marks i (λ e. omega arith) ∙ simp (div-eq_of_lt small)

-- ---- the contract that 3M is, and the barred instruments, as the code counts: rows for 1 and 2 alone

rowed : (P : ℕ → Type 0) → P 1 → P 2 → (third : ℕ) → 0 < third → third ≤ 2 → P third
rowed P one two zero low high = absurd (omega arith)
rowed P one two (suc zero) low high = one
rowed P one two (suc (suc zero)) low high = two
rowed P one two (suc (suc (suc n))) low high = absurd (omega arith)

-- a contract in a row of one
in_one : (n m : ℕ) → eqb n m ≡ is_in n (m ∷ [])
unfolding is_in
in_one n m = by-test (eqb n m)
  where
    by-test : (t : Bool) → t ≡ (t || false)
    by-test true = refl
    by-test false = refl

pub named-row : (third contract : ℕ) → 0 < third → third ≤ 2 → eqb contract (get_or (1 ∷ 3 ∷ []) (third - 1) 0) ≡ named third contract
unfolding named
named-row third contract = rowed (λ t. eqb contract (get_or (1 ∷ 3 ∷ []) (t - 1) 0) ≡ named t contract) (in_one contract 1) (in_one contract 3) third

-- an instrument's bit, in a row of bits; a number that is none has 12
unfoldable pub bit_of : ℕ → ℕ
bit_of i = cond (ltb i 12) i 12

abbrev pub has_bit : ℕ → ℕ → Bool
has_bit row i = eqb (row / 2 ^ bit_of i % 2) 1

pub bit-small : (i : ℕ) → bit_of i < 16
unfolding bit_of
bit-small i = by-test (ltb i 12) refl
  where
    by-test : (t : Bool) → ltb i 12 ≡ t → cond t i 12 < 16
    by-test true e = let h : i < 12 = ltb-true i 12 e in omega arith
    by-test false e = omega arith

holds : (t : Bool) → T t → t ≡ true
holds true h = refl
holds false h = absurd h

-- two tests say the same
abbrev agree : Bool → Bool → Bool
agree a b = cond a b (not b)

agree-is : (a b : Bool) → T (agree a b) → a ≡ b
agree-is true true h = refl
agree-is true false h = absurd h
agree-is false true h = absurd h
agree-is false false h = refl

-- a row of bits has just the instruments of a list, by one computed test: bit for bit, not bit 12, and none of the list above 11
abbrev lows : List ℕ → Bool
lows [] = true
lows (m ∷ ms) = both (ltb m 12) (lows ms)

abbrev same_bits : ℕ → List ℕ → ℕ → Bool
same_bits row is i = agree (eqb (row / 2 ^ i % 2) 1) (is_in i is)

abbrev lists : ℕ → List ℕ → Bool
lists row is = both (up_to (same_bits row is) 12) (both (agree (eqb (row / 2 ^ 12 % 2) 1) false) (lows is))

none_above : (is : List ℕ) (i : ℕ) → 12 ≤ i → T (lows is) → is_in i is ≡ false
unfolding is_in
none_above [] i h t = refl
none_above (m ∷ ms) i h t = simp (ne_eqb i m (λ e. omega (arith, low))) (none_above ms i h (both_right (ltb m 12) (lows ms) t))
  where
    low : m < 12
    low = ltb-true m 12 (holds (ltb m 12) (both_left (ltb m 12) (lows ms) t))

row-bits : (row : ℕ) (is : List ℕ) → T (lists row is) → (i : ℕ) → has_bit row i ≡ is_in i is
unfolding bit_of
row-bits row is t i = by-test (ltb i 12) refl
  where
    low : Bool
    low = agree (eqb (row / 2 ^ 12 % 2) 1) false

    rest : T (both low (lows is))
    rest = both_right (up_to (same_bits row is) 12) (both low (lows is)) t

    by-test : (l : Bool) → ltb i 12 ≡ l → eqb (row / 2 ^ cond l i 12 % 2) 1 ≡ is_in i is
    by-test true e = agree-is (eqb (row / 2 ^ i % 2) 1) (is_in i is) (below (same_bits row is) 12 i (both_left (up_to (same_bits row is) 12) (both low (lows is)) t) (ltb-true i 12 e))
    by-test false e = agree-is (eqb (row / 2 ^ 12 % 2) 1) false (both_left low (lows is) rest) ∙ sym (none_above is i (ltb-false i 12 e) (both_right low (lows is) rest))

pub barred-row : (third i : ℕ) → 0 < third → third ≤ 2 → has_bit (get_or (582 ∷ 1136 ∷ []) (third - 1) 0) i ≡ barred third i
unfolding barred is_in
barred-row third i =
    rowed (λ t. has_bit (get_or (582 ∷ 1136 ∷ []) (t - 1) 0) i ≡ barred t i)
    (row-bits 582 (1 ∷ 2 ∷ 6 ∷ 9 ∷ []) tt i)
    (row-bits 1136 (4 ∷ 5 ∷ 6 ∷ 10 ∷ []) tt i)
    third

-- no row
no_row : (rows : List (List ℕ)) (third n : ℕ) → length rows ≤ third → false ≡ is_in n (get_or rows third [])
unfolding is_in
no_row rows third n h = rw (get_or-eq_default rows [] h) refl

module _ (third n : ℕ) where
  pub named_none : third ≡ 0 → false ≡ named third n
  unfolding named is_in
  named_none z = rw z refl

  pub named-above : 2 < third → false ≡ named third n
  unfolding named
  named-above h = no_row named_by third n h

  pub barred-none : third ≡ 0 → false ≡ barred third n
  unfolding barred is_in
  barred-none z = rw z refl

  pub barred-above : 2 < third → false ≡ barred third n
  unfolding barred
  barred-above h = no_row barred_by third n h
