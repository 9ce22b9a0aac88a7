-- A name is found by its number, and a number by its name. Assumes nothing.
use Rattle.std.specs.Prelude.{ℕ, zero, suc, ◌+◌, ◌-◌, ◌≤◌, ◌<◌, Bool, true, false, cond, ◌≡◌, List, [], ◌∷◌, T, eqb, get_or, take, drop, Option, Some, None}
use Rattle.std.proofs.Math.Path.{refl}
use Rattle.std.proofs.Common.{sym, ap, ◌∙◌, arith, add-one, eq-eqb, ne_eqb, eqb-true}
use Rattle.std.proofs.Math.ListN.{length, drop_of_length-le}
use Rattle.std.proofs.Math.Seq.{drop-cons}
use Rattle.numerals.specs.laws.Lacks.{lacks}
use Rattle.numerals.specs.laws.Numerals.{clash}
use Rattle.market.specs.laws.Table.{both, both_left, both_right, below, from_one}
use Rattle.names.specs.declared.Name.{Name}
use Rattle.names.specs.Names.{metal_names, metal_name, instrument_names, instrument_name, same, number_of, metal_in, instrument_in, in_name}
use Rattle.names.specs.laws.Names.{name-bytes, name-short, metal-length, instrument-length}

-- ---- the same bytes

pub same-is : (n s : List ℕ) → same n s ≡ true → n ≡ s
unfolding same
same-is [] [] e = refl
same-is [] (b ∷ s) e = clash cc
same-is (a ∷ n) [] e = clash cc
same-is (a ∷ n) (b ∷ s) e = by-test (eqb b a) refl e (λ g. same-is n s g)
  where
    by-test : (t : Bool) → eqb b a ≡ t → cond t (same n s) false ≡ true → (same n s ≡ true → n ≡ s) → a ∷ n ≡ b ∷ s
    by-test true h g k = let p = k g in let q : b ≡ a = eqb-true b a h in cc
    by-test false h g k = clash cc

-- bytes of another length are another name
pub same-long : (n s : List ℕ) → (length s ≡ length n → ⊥) → false ≡ same n s
unfolding same
same-long [] [] h = absurd (h refl)
same-long [] (b ∷ s) h = refl
same-long (a ∷ n) [] h = refl
same-long (a ∷ n) (b ∷ s) h = by-test (eqb b a) (same-long n s (λ e. h (ap suc e)))
  where
    by-test : (t : Bool) → false ≡ same n s → false ≡ cond t (same n s) false
    by-test true e = e
    by-test false e = refl

-- as the code compares: up to a place they are alike
pub record Alike (n s : List ℕ) (i : ℕ) : Type 0 where
  pub rest : same n s ≡ same (drop i n) (drop i s)
  pub long : length s ≡ length n

module _ (n s : List ℕ) where
  pub alike-start : length s ≡ length n → Alike n s 0
  alike-start h = record { rest = refl; long = h }

  pub alike-not : (i : ℕ) → Alike n s i → i < length s → (get_or s i 0 ≡ get_or n i 0 → ⊥) → false ≡ same n s
  unfolding same
  alike-not i o h e =
      let l : i < length n = omega (arith, o.long) in
      rw (o.rest, drop-cons s i 0 h, drop-cons n i 0 l) (simp (ne_eqb (get_or s i 0) (get_or n i 0) e))

  pub alike_next : (i : ℕ) → Alike n s i → i < length s → get_or s i 0 ≡ get_or n i 0 → Alike n s (i + 1)
  unfolding same
  alike_next i o h e =
      let l : i < length n = omega (arith, o.long) in
      record { rest = o.rest ∙ rw (drop-cons s i 0 h, drop-cons n i 0 l, add-one) (simp (eq-eqb (get_or s i 0) (get_or n i 0) e)); long = o.long }

  pub alike_end : (i : ℕ) → Alike n s i → length s ≤ i → true ≡ same n s
  unfolding same
  alike_end i o h =
      let l : length n ≤ i = omega (arith, o.long) in
      rw (o.rest, drop_of_length-le s h, drop_of_length-le n l) refl

-- ---- a table looked through from its first name on, which has the number `from`

pub record Seeking (names : List (List ℕ)) (from : ℕ) (s : List ℕ) (k : ℕ) : Type 0 where
  pub least : from ≤ k
  pub same_answer : number_of s names from ≡ number_of s (drop (k - from) names) k

module _ (names : List (List ℕ)) (from : ℕ) (s : List ℕ) where
  pub seek-start : Seeking names from s from
  seek-start = let z : from - from ≡ 0 = omega arith in record { least = omega arith; same_answer = rw z refl }

  module _ (k : ℕ) (o : Seeking names from s k) where
    here : k < from + length names → drop (k - from) names ≡ get_or names (k - from) [] ∷ drop (k + 1 - from) names
    here h =
        let z : suc (k - from) ≡ k + 1 - from = omega (arith, o.least) in
        drop-cons names (k - from) [] (omega (arith, o.least)) ∙ ap (λ (i : ℕ). get_or names (k - from) [] ∷ drop i names) z

    seek_found : k < from + length names → same (get_or names (k - from) []) s ≡ true → Some k ≡ number_of s names from
    seek_found h e = rw (o.same_answer, here h) (simp e)

    seek-next : k < from + length names → same (get_or names (k - from) []) s ≡ false → Seeking names from s (k + 1)
    seek-next h e = record { least = omega (arith, o.least); same_answer = o.same_answer ∙ rw (here h) (simp (e, add-one)) }

    pub seek-none : from + length names ≤ k → None ≡ number_of s names from
    seek-none h = rw (o.same_answer, drop_of_length-le names {i = k - from} (omega (arith, o.least))) refl

-- what the code compares with: a metal's name, an instrument's name, is that of the table
pub seek-metal : (m : ℕ) → 1 ≤ m → metal_name m ≡ get_or metal_names (m - 1) []
unfolding metal_name
seek-metal zero h = absurd (omega arith)
seek-metal (suc m) h = let z : m ≡ suc m - 1 = omega arith in ap (λ (i : ℕ). get_or metal_names i []) z

pub seek-instrument : (i : ℕ) → 0 ≤ i → instrument_name i ≡ get_or instrument_names (i - 0) []
unfolding instrument_name
seek-instrument i h = let z : i ≡ i - 0 = omega arith in ap (λ (k : ℕ). get_or instrument_names k []) z

-- what a comparison with a name by value says of the table's name
compared : (row name s : List ℕ) (held : Name) (r : Bool) → row ≡ name → held ≡ in_name row → r ≡ same (take held.len held.bytes) s → same name s ≡ r
compared row name s held r e h q = sym (q ∙ ap (λ n. same n s) (name-bytes row held h ∙ e))

-- a turn of the code, for a table whose names are given by number
module _ (names : List (List ℕ)) (from : ℕ) (name : ℕ → List ℕ) (row : (k : ℕ) → from ≤ k → name k ≡ get_or names (k - from) []) where
  module _ (s : List ℕ) (k : ℕ) (o : Seeking names from s k) (h : k < from + length names) (held : Name) (r : Bool) (e : held ≡ in_name (name k)) (q : r ≡ same (take held.len held.bytes) s) where
    asked : same (get_or names (k - from) []) s ≡ r
    asked = compared (name k) _ s held r (row k o.least) e q

    pub turn-found : r ≡ true → Some k ≡ number_of s names from
    turn-found d = seek_found names from s k o h (asked ∙ d)

    pub turn-next : r ≡ false → Seeking names from s (k + 1)
    turn-next d = seek-next names from s k o h (asked ∙ d)

-- ---- a number that was found

pub record Found (s : List ℕ) (names : List (List ℕ)) (k i : ℕ) : Type 0 where
  pub from : k ≤ i
  pub below : i < k + length names
  pub name : get_or names (i - k) [] ≡ s

found : (s : List ℕ) (names : List (List ℕ)) (k i : ℕ) → number_of s names k ≡ Some i → Found s names k i
found s [] k i e = clash cc
found s (n ∷ names) k i e = by-test (same n s) refl e (λ g. found s names (suc k) i g)
  where
    by-test : (t : Bool) → same n s ≡ t → cond t (Some k) (number_of s names (suc k)) ≡ Some i → (number_of s names (suc k) ≡ Some i → Found s names (suc k) i) → Found s (n ∷ names) k i
    by-test true h g f =
        let w : k ≡ i = cc in
        let z : i - k ≡ 0 = omega arith in
        record { from = omega arith; below = omega arith; name = rw z (same-is n s h) }
    by-test false h g f =
        let w = f g in
        let z : i - k ≡ suc (i - suc k) = omega (arith, w.from) in
        record { from = omega (arith, w.from); below = omega (arith, w.below); name = rw z w.name }

pub instrument-found : (s : List ℕ) (i : ℕ) → instrument_in s ≡ Some i → (i ≤ 11) × (instrument_name i ≡ s)
unfolding instrument_in
instrument-found s i e = let f = found s instrument_names 0 i e in (omega (arith, f.below), seek-instrument i f.from ∙ f.name)

pub metal-found : (s : List ℕ) (m : ℕ) → metal_in s ≡ Some m → (1 ≤ m) × (m ≤ 5) × (metal_name m ≡ s)
unfolding metal_in
metal-found s m e = let f = found s metal_names 1 m e in (f.from, omega (arith, f.below), seek-metal m f.from ∙ f.name)

-- ---- a name that is known: its number is found again, and neither a comma nor a line feed stands in it

abbrev says : Option ℕ → ℕ → Bool
says (Some n) i = eqb n i
says None i = false

pub record Known (number : Option ℕ) (name : List ℕ) (i : ℕ) : Type 0 where
  pub found : number ≡ Some i
  pub plain : lacks 44 name ≡ true
  pub one_line : lacks 10 name ≡ true

abbrev knows : Option ℕ → List ℕ → ℕ → Bool
knows number name i = both (says number i) (both (lacks 44 name) (lacks 10 name))

is_true : (b : Bool) → T b → b ≡ true
is_true true t = refl
is_true false t = absurd t

is-value : (number : Option ℕ) (i : ℕ) → T (says number i) → number ≡ Some i
is-value (Some n) i t = ap Some (eqb-true n i (is_true (eqb n i) t))
is-value None i t = absurd t

known : (number : Option ℕ) (name : List ℕ) (i : ℕ) → T (knows number name i) → Known number name i
known number name i t =
    let rest = both_right (says number i) (both (lacks 44 name) (lacks 10 name)) t in
    record {
      found = is-value number i (both_left (says number i) (both (lacks 44 name) (lacks 10 name)) t);
      plain = is_true (lacks 44 name) (both_left (lacks 44 name) (lacks 10 name) rest);
      one_line = is_true (lacks 10 name) (both_right (lacks 44 name) (lacks 10 name) rest);
    }

pub instrument-known : (i : ℕ) → i ≤ 11 → Known (instrument_in (instrument_name i)) (instrument_name i) i
unfolding instrument_in instrument_name same
instrument-known i h = known (instrument_in (instrument_name i)) (instrument_name i) i (below (λ i. knows (instrument_in (instrument_name i)) (instrument_name i) i) 12 i tt (omega arith))

pub metal-known : (m : ℕ) → 1 ≤ m → m ≤ 5 → Known (metal_in (metal_name m)) (metal_name m) m
unfolding metal_in metal_name same
metal-known m l h = known (metal_in (metal_name m)) (metal_name m) m (from_one (λ m. knows (metal_in (metal_name m)) (metal_name m) m) 5 m tt l h)

-- so the bytes of a known name have its number, as the code compares them with a name by value
pub instrument-is : (i : ℕ) (s : List ℕ) (held : Name) (r : Bool) → held ≡ in_name (instrument_name i) → r ≡ same (take held.len held.bytes) s → r ≡ true → i ≤ 11 → Some i ≡ instrument_in s
instrument-is i s held r h q e l = sym (instrument-known i l).found ∙ ap instrument_in (same-is (instrument_name i) s (compared (instrument_name i) _ s held r refl h q ∙ e))

-- how long a name by value is
pub instrument-short : (i : ℕ) (held : Name) → held ≡ in_name (instrument_name i) → held.len ≤ 9
instrument-short i held h = name-short (instrument_name i) held h (omega (arith, instrument-length i))

pub metal-short : (m : ℕ) (held : Name) → held ≡ in_name (metal_name m) → held.len ≤ 9
metal-short m held h = name-short (metal_name m) held h (metal-length m)
