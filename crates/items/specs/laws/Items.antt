-- Cutting and joining undo each other: the pieces of a text joined are that text, and pieces without the stop are those of their join.
-- Assumes nothing.
use Prim.Native.Nat.{ℕ, suc, ◌+◌, ◌-◌, ◌≤◌, ◌<◌}
use Rattle.std.specs.Prelude.{Bool, true, false, cond, ◌≡◌, refl, eqb, length, take}
use Rattle.std.proofs.Common.{sym, ◌∙◌, drop-drop, eq-eqb, eqb-true}
use Rattle.std.proofs.Math.Path.{ap}
use mathlib.Core.List.{List, [], ◌∷◌, ◌++◌}
use native.Mathlib.Omega.{arith}
use Rattle.std.proofs.Math.ListN.{drop, length-drop}
use Rattle.numerals.specs.laws.Lacks.{lacks, lacks-join}
use Rattle.numerals.specs.laws.Numerals.{clash}
use Rattle.items.specs.Items.{first, rest, pieces, joined_to, joined, end_of}

join_more : (stop : ℕ) (b : ℕ) (i : List ℕ) (is : List (List ℕ)) → joined_to stop (b ∷ i) is ≡ b ∷ joined_to stop i is
join_more stop b i [] = refl
join_more stop b i (j ∷ is) = refl

pub join-items : (stop : ℕ) (s : List ℕ) → joined stop (pieces stop s) ≡ s
unfolding first rest
join-items stop [] = refl
join-items stop (b ∷ s) = by-test (eqb b stop) refl (join-items stop s)
  where
    by-test : (t : Bool) → eqb b stop ≡ t → joined_to stop (first stop s) (rest stop s) ≡ s → joined_to stop (cond (eqb b stop) [] (b ∷ first stop s)) (cond (eqb b stop) (first stop s ∷ rest stop s) (rest stop s)) ≡ b ∷ s
    by-test true e h = simp e (ap (λ (v : List ℕ). stop ∷ v) h ∙ ap (λ (v : ℕ). v ∷ s) (sym (eqb-true b stop e)))
    by-test false e h = simp e (join_more stop b (first stop s) (rest stop s) ∙ ap (λ (v : List ℕ). b ∷ v) h)

-- ---- pieces that lack the stop

pub record Cut (stop : ℕ) (s i : List ℕ) (is : List (List ℕ)) : Type 0 where
  pub head : first stop s ≡ i
  pub tail : rest stop s ≡ is

cut-end : (stop : ℕ) (i : List ℕ) → lacks stop i ≡ true → Cut stop i i []
unfolding first rest
cut-end stop [] h = record { head = refl; tail = refl }
cut-end stop (b ∷ i) h = by-test (eqb b stop) refl h (λ g. cut-end stop i g)
  where
    by-test : (t : Bool) → eqb b stop ≡ t → cond t false (lacks stop i) ≡ true → (lacks stop i ≡ true → Cut stop i i []) → Cut stop (b ∷ i) (b ∷ i) []
    by-test true e g k = clash cc
    by-test false e g k = let c = k g in record { head = simp (e, c.head); tail = simp (e, c.tail) }

pub cut_at : (stop : ℕ) (i t : List ℕ) → lacks stop i ≡ true → Cut stop (i ++ stop ∷ t) i (pieces stop t)
unfolding first rest
cut_at stop [] t h = record { head = simp (eq-eqb stop stop refl); tail = simp (eq-eqb stop stop refl) }
cut_at stop (b ∷ i) t h = by-test (eqb b stop) refl h (λ g. cut_at stop i t g)
  where
    by-test : (u : Bool) → eqb b stop ≡ u → cond u false (lacks stop i) ≡ true → (lacks stop i ≡ true → Cut stop (i ++ stop ∷ t) i (pieces stop t)) → Cut stop (b ∷ i ++ stop ∷ t) (b ∷ i) (pieces stop t)
    by-test true e g k = clash cc
    by-test false e g k = let c = k g in record { head = simp (e, c.head); tail = simp (e, c.tail) }

-- each piece lacks the stop
abbrev pub Plain : ℕ → List (List ℕ) → Type 0
Plain stop [] = Unit {0}
Plain stop (i ∷ is) = (lacks stop i ≡ true) × Plain stop is

cut-join : (stop : ℕ) (i : List ℕ) (is : List (List ℕ)) → lacks stop i ≡ true → Plain stop is → pieces stop (joined_to stop i is) ≡ i ∷ is
cut-join stop i [] h p = let c = cut-end stop i h in simp (c.head, c.tail)
cut-join stop i (j ∷ is) h p =
    let c = cut_at stop i (joined_to stop j is) h in
    simp (c.head, c.tail) (ap (λ (v : List (List ℕ)). i ∷ v) (cut-join stop j is p.0 p.1))

pub items-join : (stop : ℕ) (i : List ℕ) (is : List (List ℕ)) → Plain stop (i ∷ is) → pieces stop (joined stop (i ∷ is)) ≡ i ∷ is
items-join stop i is p = cut-join stop i is p.0 p.1

-- ---- an item at a place

first-take : (stop : ℕ) (s : List ℕ) → first stop s ≡ take (length (first stop s)) s
unfolding first
first-take stop [] = refl
first-take stop (b ∷ s) = by-test (eqb b stop) (first-take stop s)
  where
    by-test : (t : Bool) → first stop s ≡ take (length (first stop s)) s → cond t [] (b ∷ first stop s) ≡ take (length (cond t [] (b ∷ first stop s))) (b ∷ s)
    by-test true h = refl
    by-test false h = ap (λ (v : List ℕ). b ∷ v) h

rest-none : (stop : ℕ) (s : List ℕ) → length s ≤ length (first stop s) → rest stop s ≡ []
unfolding first rest
rest-none stop [] h = refl
rest-none stop (b ∷ s) h = by-test (eqb b stop) h (λ g. rest-none stop s g)
  where
    by-test : (t : Bool) → suc (length s) ≤ length (cond t [] (b ∷ first stop s)) → (length s ≤ length (first stop s) → rest stop s ≡ []) → cond t (first stop s ∷ rest stop s) (rest stop s) ≡ []
    by-test true g k = absurd (omega arith)
    by-test false g k = k (omega arith)

rest_some : (stop : ℕ) (s : List ℕ) → length (first stop s) < length s → rest stop s ≡ pieces stop (drop (suc (length (first stop s))) s)
unfolding first rest
rest_some stop [] h = absurd (omega arith)
rest_some stop (b ∷ s) h = by-test (eqb b stop) h (λ g. rest_some stop s g)
  where
    by-test : (t : Bool) → length (cond t [] (b ∷ first stop s)) < suc (length s) → (length (first stop s) < length s → rest stop s ≡ pieces stop (drop (suc (length (first stop s))) s)) → cond t (first stop s ∷ rest stop s) (rest stop s) ≡ pieces stop (drop (length (cond t [] (b ∷ first stop s))) s)
    by-test true g k = refl
    by-test false g k = k (omega arith)

module _ (stop : ℕ) (s : List ℕ) (from e : ℕ) (q : e ≡ end_of stop s from) where
  size : e - from ≡ length (first stop (drop from s))
  unfolding end_of
  size = omega arith

  here : first stop (drop from s) ≡ take (e - from) (drop from s)
  here = first-take stop (drop from s) ∙ ap (λ (n : ℕ). take n (drop from s)) (sym size)

  -- the last item, and one behind which others stand
  pub last-item : length s ≤ e → pieces stop (drop from s) ≡ take (e - from) (drop from s) ∷ []
  last-item h = simp (rest-none stop (drop from s) (omega (arith, size, length-drop from s))) (ap (λ (i : List ℕ). i ∷ []) here)

  pub next-item : e < length s → (is : List (List ℕ)) → pieces stop (drop (e + 1) s) ≡ is → pieces stop (drop from s) ≡ take (e - from) (drop from s) ∷ is
  unfolding end_of
  next-item h is g =
      let n : from + suc (length (first stop (drop from s))) ≡ e + 1 = omega arith in
      let r : rest stop (drop from s) ≡ is = rest_some stop (drop from s) (omega (arith, size, length-drop from s)) ∙ ap (pieces stop) (drop-drop (suc (length (first stop (drop from s)))) from s ∙ ap (λ (k : ℕ). drop k s) n) ∙ g in
      simp r (ap (λ (i : List ℕ). i ∷ is) here)

-- ---- where an item can end

first_short : (stop : ℕ) (s : List ℕ) → length (first stop s) ≤ length s
unfolding first
first_short stop [] = omega arith
first_short stop (b ∷ s) = by-test (eqb b stop) (first_short stop s)
  where
    by-test : (t : Bool) → length (first stop s) ≤ length s → length (cond t [] (b ∷ first stop s)) ≤ suc (length s)
    by-test true h = omega arith
    by-test false h = omega arith

pub end-least : (stop : ℕ) (s : List ℕ) (from e : ℕ) → e ≡ end_of stop s from → from ≤ e
unfolding end_of
end-least stop s from e q = omega arith

pub end-most : (stop : ℕ) (s : List ℕ) (b e : ℕ) → e ≡ end_of stop s (b + 1) → b < length s → e ≤ length s
unfolding end_of
end-most stop s b e q h = omega (arith, first_short stop (drop (b + 1) s), length-drop (b + 1) s)

pub end-in : (stop : ℕ) (s : List ℕ) (from e : ℕ) → e ≡ end_of stop s from → from ≤ length s → e ≤ length s
unfolding end_of
end-in stop s from e q h = omega (arith, first_short stop (drop from s), length-drop from s)

-- ---- joined pieces lack what each lacks

join-lacks : (stop c : ℕ) (i : List ℕ) (is : List (List ℕ)) → eqb stop c ≡ false → lacks c i ≡ true → Plain c is → lacks c (joined_to stop i is) ≡ true
join-lacks stop c i [] e h p = h
join-lacks stop c i (j ∷ is) e h p = lacks-join c i (stop ∷ joined_to stop j is) h (simp e (join-lacks stop c j is e p.0 p.1))

pub joined-lacks : (stop c : ℕ) (is : List (List ℕ)) → eqb stop c ≡ false → Plain c is → lacks c (joined stop is) ≡ true
joined-lacks stop c [] e p = refl
joined-lacks stop c (i ∷ is) e p = join-lacks stop c i is e p.0 p.1
