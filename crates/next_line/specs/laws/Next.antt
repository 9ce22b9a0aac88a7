-- What the line at a place of a text is, and what its callers learn. Assumes nothing.
use Rattle.std.specs.Prelude.{◌≡◌, ℕ, ◌+◌, ◌-◌, ◌<◌, ◌≤◌, List, [], ◌∷◌, ◌++◌, length, take, drop, Option, Some, None, Result, Ok, Err}
use Rattle.std.proofs.Math.Path.{refl, sym, subst}
use Rattle.std.proofs.Common.{ap, ◌∙◌, append_assoc, length-append, length-drop}
use Rattle.std.proofs.Math.Decide.{dec_le}
use native.Mathlib.Omega.{arith}
use Rattle.field.specs.declared.Field.{Field}
use Rattle.items.specs.Items.{first, rest, pieces, end_of}
use Rattle.items.specs.laws.Items.{Cut, cut_at, join-items, last-item, next-item, end-least}
use Rattle.line_reader.specs.Lines.{field_in, line_of}
use Rattle.line_reader.specs.laws.Trips.{legible-read, legible-lacks}
use Rattle.next_line.specs.declared.Malformed.{Malformed}
use Rattle.next_line.specs.laws.Records.{Record-is}

-- what the bytes before the next line feed say, the place behind it, and the lines behind it: none where there is no line feed
abbrev pub Next : Type 0
Next = Result (Option (Field × ℕ)) Malformed

abbrev pub bad : Next
bad = Err (record {})

unfoldable pub line_said : Option Field → ℕ → List (List ℕ) → Next
line_said l next [] = Ok None
line_said (Some f) next (m ∷ ls) = Ok (Some (f, next))
line_said None next (m ∷ ls) = bad

unfoldable pub next_line : List ℕ → ℕ → Next
next_line s at = line_said (field_in (first 10 (drop at s))) (at + length (first 10 (drop at s)) + 1) (rest 10 (drop at s))

-- ---- as the code finds it

pub next-right : (s : List ℕ) (at : ℕ) (r : Field × ℕ) → Record-is s at r.0 r.1 → Ok (Some r) ≡ next_line s at
unfolding next_line line_said
next-right s at (f, next) h =
    let t : drop at s ≡ line_of f ++ 10 ∷ drop next s = h.line.there ∙ append_assoc (line_of f) (10 ∷ []) (drop next s) in
    let c = cut_at 10 (line_of f) (drop next s) (legible-lacks f h.legible) in
    let n : next ≡ at + length (line_of f) + 1 = omega (arith, h.line.behind, length-append (line_of f) (10 ∷ [])) in
    rw (t, c.head, c.tail, legible-read f h.legible h.lined, ← n) refl

cut-is : (s : List ℕ) (i : List ℕ) (is : List (List ℕ)) → pieces 10 s ≡ i ∷ is → Cut 10 s i is
cut-is s i is e = record { head = cc; tail = cc }

module _ (s : List ℕ) (at e : ℕ) (q : e ≡ end_of 10 s at) where
  pub next_last : length s ≤ e → Ok None ≡ next_line s at
  unfolding next_line line_said
  next_last h = let c = cut-is _ _ _ (last-item 10 s at e q h) in rw c.tail refl

  module _ (h : e < length s) where
    cut : Cut 10 (drop at s) (take (e - at) (drop at s)) (pieces 10 (drop (e + 1) s))
    cut = cut-is _ _ _ (next-item 10 s at e q h _ refl)

    behind : at + length (first 10 (drop at s)) + 1 ≡ e + 1
    unfolding end_of
    behind = omega arith

    pub next_field : (r : Option Field) (f : Field) → r ≡ field_in (take (e - at) (drop at s)) → r ≡ Some f → Ok (Some (f, e + 1)) ≡ next_line s at
    unfolding next_line line_said
    next_field r f w d = rw (behind, cut.head, cut.tail, sym w ∙ d) refl

    pub next-bad : (r : Option Field) → r ≡ field_in (take (e - at) (drop at s)) → r ≡ None → bad ≡ next_line s at
    unfolding next_line line_said
    next-bad r w d = rw (cut.head, cut.tail, sym w ∙ d) refl

-- ---- what a caller learns

-- no line feed follows
pub record Ends (s : List ℕ) (at : ℕ) : Type 0 where
  pub none : rest 10 (drop at s) ≡ []
  pub size : length (first 10 (drop at s)) ≡ length s - at

-- a line feed follows, and lines from a place on
pub record Goes (s : List ℕ) (at : ℕ) (said : Option Field) (next : ℕ) : Type 0 where
  pub line : field_in (first 10 (drop at s)) ≡ said
  pub later : rest 10 (drop at s) ≡ pieces 10 (drop next s)
  pub ahead : at < next
  pub within : next ≤ length s

-- by each answer
Means : List ℕ → ℕ → Next → Type 0
Means s at (Ok (Some (f, next))) = Goes s at (Some f) next
Means s at (Ok None) = Ends s at
Means s at (Err e) = Goes s at None (end_of 10 s at + 1)

no_more : (t : List ℕ) → rest 10 t ≡ [] → first 10 t ≡ t
no_more t e = rw e at (join-items 10 t)

means : (s : List ℕ) (at : ℕ) → Means s at (next_line s at)
unfolding Means
means s at = by-test (dec_le (length s) (end_of 10 s at))
  where
    by-line : (h : end_of 10 s at < length s) (l : Option Field) → field_in (take (end_of 10 s at - at) (drop at s)) ≡ l → Means s at (next_line s at)
    by-line h (Some f) d =
        let c = cut s at (end_of 10 s at) refl h in
        subst (Means s at) (next_field s at (end_of 10 s at) refl h (Some f) f (sym d) refl)
        (record { line = ap field_in c.head ∙ d; later = c.tail; ahead = omega (arith, end-least 10 s at _ refl); within = omega arith })
    by-line h None d =
        let c = cut s at (end_of 10 s at) refl h in
        subst (Means s at) (next-bad s at (end_of 10 s at) refl h None (sym d) refl)
        (record { line = ap field_in c.head ∙ d; later = c.tail; ahead = omega (arith, end-least 10 s at _ refl); within = omega arith })

    by-test : Dec (length s ≤ end_of 10 s at) → Means s at (next_line s at)
    by-test (yes h) =
        let c = cut-is _ _ _ (last-item 10 s at (end_of 10 s at) refl h) in
        subst (Means s at) (next_last s at (end_of 10 s at) refl h)
        (record { none = c.tail; size = ap length (no_more (drop at s) c.tail) ∙ length-drop at s })
    by-test (no h) = by-line (omega arith) _ refl

module _ (s : List ℕ) (at : ℕ) (r : Next) (q : r ≡ next_line s at) where
  pub was-last : r ≡ Ok None → Ends s at
  unfolding Means
  was-last d = subst (Means s at) (sym q ∙ d) (means s at)

  pub was_field : (f : Field) (next : ℕ) → r ≡ Ok (Some (f, next)) → Goes s at (Some f) next
  unfolding Means
  was_field f next d = subst (Means s at) (sym q ∙ d) (means s at)

  pub was-bad : (e : Malformed) → r ≡ Err e → Goes s at None (end_of 10 s at + 1)
  unfolding Means
  was-bad e d = subst (Means s at) (sym q ∙ d) (means s at)
