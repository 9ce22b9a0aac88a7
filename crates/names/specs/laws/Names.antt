-- The numbers that have no name, how long a name can be, and that every metal of a right header has one. Assumes nothing.
use Rattle.std.specs.Prelude.{ℕ, zero, suc, ◌-◌, ◌≤◌, ◌≡◌, refl, Bool, true, List, [], ◌∷◌, ◌++◌, T, leb, get_or, length, take, drop, replicate}
use Rattle.std.proofs.Common.{sym, ap, ◌∙◌, arith, leb→le}
use Rattle.std.proofs.Math.ListN.{get_or-eq_default}
use Rattle.std.proofs.Math.Seq.{take-length, take-append_seam}
use Rattle.market.specs.laws.Table.{both, both_left, both_right, from_one}
use Rattle.field.specs.Judging.{header_right}
use Rattle.field.proofs.Sound.{metal-range}
use Rattle.price_rules.specs.declared.Method.{Method}
use Rattle.price_rules.specs.declared.Method.TheVariants.{Vwap, Twap}
use Rattle.names.specs.declared.Name.{Name}
use Rattle.names.specs.Names.{metal_names, metal_name, contract_names, contract_name, instrument_names, instrument_name, method_name, in_name}

-- ---- numbers that have no name, as the last arm of a `match` says that a number is none of the others

pub metal-none : (m : ℕ) → (((((Unit {0} × (m ≡ 1 → ⊥)) × (m ≡ 2 → ⊥)) × (m ≡ 3 → ⊥)) × (m ≡ 4 → ⊥)) × (m ≡ 5 → ⊥)) → [] ≡ metal_name m
unfolding metal_name
metal-none zero h = refl
metal-none (suc m) h = sym (get_or-eq_default metal_names [] {n = m} (omega (arith, h.0.0.0.0.1, h.0.0.0.1, h.0.0.1, h.0.1, h.1)))

pub contract-none : (c : ℕ) → ((((((Unit {0} × (c ≡ 0 → ⊥)) × (c ≡ 1 → ⊥)) × (c ≡ 2 → ⊥)) × (c ≡ 3 → ⊥)) × (c ≡ 4 → ⊥)) × (c ≡ 5 → ⊥)) → [] ≡ contract_name c
unfolding contract_name
contract-none c h = sym (get_or-eq_default contract_names [] {n = c} (omega (arith, h.0.0.0.0.0.1, h.0.0.0.0.1, h.0.0.0.1, h.0.0.1, h.0.1, h.1)))

pub instrument-none : (i : ℕ) → ((((((((((((Unit {0} × (i ≡ 0 → ⊥)) × (i ≡ 1 → ⊥)) × (i ≡ 2 → ⊥)) × (i ≡ 3 → ⊥)) × (i ≡ 4 → ⊥)) × (i ≡ 5 → ⊥)) × (i ≡ 6 → ⊥)) × (i ≡ 7 → ⊥)) × (i ≡ 8 → ⊥)) × (i ≡ 9 → ⊥)) × (i ≡ 10 → ⊥)) × (i ≡ 11 → ⊥)) → [] ≡ instrument_name i
unfolding instrument_name
instrument-none i h =
    let low : 6 ≤ i = omega (arith, h.0.0.0.0.0.0.0.0.0.0.0.1, h.0.0.0.0.0.0.0.0.0.0.1, h.0.0.0.0.0.0.0.0.0.1, h.0.0.0.0.0.0.0.0.1, h.0.0.0.0.0.0.0.1, h.0.0.0.0.0.0.1) in
    sym (get_or-eq_default instrument_names [] {n = i} (omega (arith, h.0.0.0.0.0.1, h.0.0.0.0.1, h.0.0.0.1, h.0.0.1, h.0.1, h.1)))

-- ---- names by value

-- bytes that are all a space
abbrev blank : ℕ → List ℕ
blank n = replicate n 32

spaces : (k n : ℕ) → drop k (blank n) ≡ blank (n - k)
spaces zero n = let z : n ≡ n - 0 = omega arith in ap blank z
spaces (suc k) zero = let z : 0 ≡ 0 - suc k = omega arith in ap blank z
spaces (suc k) (suc n) = let z : n - k ≡ suc n - suc k = omega arith in spaces k n ∙ ap blank z

-- bytes copied over nine spaces are a name by value
pub laid : (s out : List ℕ) (len : ℕ) → len ≡ length s → out ≡ take (length s) s ++ drop (length s) (blank 9) → ◌≡◌ {A = Name} (record { bytes = out; len = len }) (in_name s)
laid s out len e f = let g : out ≡ s ++ blank (9 - length s) = f ∙ simp (take-length, spaces) in simp (e, g)

-- and give the bytes back
pub name-bytes : (s : List ℕ) (name : Name) → name ≡ in_name s → take name.len name.bytes ≡ s
name-bytes s name e = simp e (take-append_seam s (blank (9 - length s)))

pub name-short : (s : List ℕ) (name : Name) → name ≡ in_name s → length s ≤ 9 → name.len ≤ 9
name-short s name e h = simp e h

-- ---- lengths

-- no name of a table is longer than n, and no bytes are none
abbrev short : ℕ → List (List ℕ) → Bool
short n [] = true
short n (name ∷ names) = both (leb (length name) n) (short n names)

name-length : (n : ℕ) (names : List (List ℕ)) → T (short n names) → (i : ℕ) → length (get_or names i []) ≤ n
name-length n [] t i = omega arith
name-length n (name ∷ names) t zero = leb→le (length name) n (both_left (leb (length name) n) (short n names) t)
name-length n (name ∷ names) t (suc i) = name-length n names (both_right (leb (length name) n) (short n names) t) i

pub metal-length : (m : ℕ) → length (metal_name m) ≤ 9
unfolding metal_name
metal-length zero = omega arith
metal-length (suc m) = name-length 9 metal_names tt m

pub contract-length : (c : ℕ) → length (contract_name c) ≤ 4
unfolding contract_name
contract-length c = name-length 4 contract_names tt c

pub instrument-length : (i : ℕ) → length (instrument_name i) ≤ 7
unfolding instrument_name
instrument-length i = name-length 7 instrument_names tt i

pub method-length : (m : Method) → length (method_name m) ≤ 4
method-length Vwap = omega arith
method-length Twap = omega arith

-- ---- every metal that is admitted has a name, so that no list stands under an empty line

pub named : (m marks third : ℕ) → header_right m marks third ≡ true → 1 ≤ length (metal_name m)
unfolding metal_name
named m marks third e =
    let range = metal-range m marks third e in
    leb→le 1 (length (metal_name m)) (from_one (λ m. leb 1 (length (metal_name m))) 5 m tt range.0 (omega (arith, range.1)))
