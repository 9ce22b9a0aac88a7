-- Laws of the judge's loop. The premises are the facts as they stand in the code. Assumes nothing.
use Rattle.std.specs.Prelude.{ℕ, ◌+◌, ◌-◌, ◌≤◌, ◌<◌, ◌≡◌, refl, length, drop, Option, Some, None, Result, Ok, Err}
use Rattle.std.proofs.Common.{sym, ◌∙◌, arith}
use Rattle.std.proofs.Math.Path.{ap}
use mathlib.Core.List.{List}
use borrow.Author.Tests.{eq-eqb, ne_eqb, le-leb, lt-leb}
use Rattle.field.specs.declared.Field.{Field}
use Rattle.field.specs.declared.Fault.{Fault}
use Rattle.admit.specs.declared.Progress.{Progress}
use Rattle.admit.specs.declared.Admitted.{Admitted}
use Rattle.admit.specs.declared.Admitted.TheVariants as A
use Rattle.admit.specs.Admitting.{start, admit, admit_says}
use Rattle.items.specs.Items.{first, rest}
use Rattle.next_line.specs.declared.Malformed.{Malformed}
use Rattle.next_line.specs.laws.Next.{Next, next_line, Goes, was-last, was_field, was-bad}
use Rattle.field.specs.declared.Refusal.{Refusal}
use Rattle.field.specs.Said.{Said, gives, refuses, fault_number}
use Rattle.tape.specs.Tape.{LinesSay, bad, with, capped, at_last, onward, say_line, say_lines, text_says}
use Rattle.tape.specs.laws.Measuring.{grown, measured, measured-with, measured-none, stop-most}

-- ---- the small functions

pub capped_same : (p : Progress) → p.count ≤ 1048575 → p ≡ capped p
unfolding capped
capped_same p h = simp (le-leb p.count 1048575 h)

pub capped-less : (p : Progress) → 1048575 < p.count → record { stage = p.stage; metal = p.metal; marks = p.marks; form = p.form; instrument = p.instrument; time = p.time; count = 1048575 } ≡ capped p
unfolding capped
capped-less p h = simp (lt-leb p.count 1048575 h)

module _ (line bytes size : ℕ) (p : Progress) where
  pub last_more : (size ≡ 0 → ⊥) → refuses 17 line ≡ measured bytes (at_last line p size)
  unfolding at_last
  last_more h = simp (ne_eqb size 0 h)

  pub last_none : size ≡ 0 → p.stage ≡ 0 → refuses 5 1 ≡ measured bytes (at_last line p size)
  unfolding at_last
  last_none h g = simp (eq-eqb size 0 h, eq-eqb p.stage 0 g)

  pub last-good : size ≡ 0 → (p.stage ≡ 0 → ⊥) → bytes ≤ 1048577 → gives tt bytes ≡ measured bytes (at_last line p size)
  unfolding at_last
  last-good h g m = simp (eq-eqb size 0 h, ne_eqb p.stage 0 g) (measured-none bytes m)

-- what the lines say by what was kept behind a field, or refused it
abbrev pub placed_says : Field → Result Progress Refusal → (Progress → LinesSay) → LinesSay
placed_says f (Ok q) later = with f (later q)
placed_says f (Err refusal) later = bad (fault_number refusal.fault) refusal.at

-- ---- the loop

-- measuring from here on gives what measuring the whole text gives
pub record OnTape (s : List ℕ) (at line bytes : ℕ) (p : Progress) : Type 0 where
  pub same : measured bytes (say_lines line p (first 10 (drop at s)) (rest 10 (drop at s))) ≡ measured 0 (text_says s)
  pub within : at ≤ length s
  pub lines : line ≤ at + 1
  pub small : bytes ≤ 1048577

pub t-start : (s : List ℕ) (p : Progress) → p ≡ start → OnTape s 0 1 0 p
t-start s p e = rw e (record { same = refl; within = omega arith; lines = omega arith; small = omega arith })

module _ (s : List ℕ) (at line bytes : ℕ) (p : Progress) (o : OnTape s at line bytes p) (r : Next) (q : r ≡ next_line s at) where
  pub t-last : r ≡ Ok None → (m : Said (Unit {0})) → m ≡ measured bytes (at_last line p (length s - at)) → m ≡ measured 0 (text_says s)
  unfolding say_lines
  t-last d m w =
      let e = was-last s at r q d in
      w ∙ ap (λ (v : ℕ). measured bytes (at_last line p v)) (sym e.size) ∙ ap (λ (ls : List (List ℕ)). measured bytes (say_lines line p (first 10 (drop at s)) ls)) (sym e.none) ∙ o.same

  here : (l : Option Field) (next : ℕ) → Goes s at l next → measured bytes (say_line line p l (λ x. say_lines (line + 1) x (first 10 (drop next s)) (rest 10 (drop next s)))) ≡ measured 0 (text_says s)
  unfolding say_lines
  here l next g =
      ap (λ (v : Option Field). measured bytes (say_line line p v (λ x. say_lines (line + 1) x (first 10 (drop next s)) (rest 10 (drop next s))))) (sym g.line)
      ∙ ap (λ (ls : List (List ℕ)). measured bytes (say_lines line p (first 10 (drop at s)) ls)) (sym g.later) ∙ o.same

  pub t-bad : (e : Malformed) → r ≡ Err e → refuses 17 line ≡ measured 0 (text_says s)
  unfolding say_line
  t-bad e d = here _ _ (was-bad s at r q e d)

  module _ (f : Field) (next : ℕ) (d : r ≡ Ok (Some (f, next))) where
    went : Goes s at (Some f) next
    went = was_field s at r q f next d

    pub t-less : length s - next < length s - at
    t-less = omega (arith, went.ahead, went.within)

    pub t-counts : line + 1 ≤ length s + 1
    t-counts = omega (arith, o.lines, went.ahead, went.within)

    module _ (t : Result Progress Refusal) (a : (later : Progress → LinesSay) → placed_says f t later ≡ onward line f (admit (capped p) f) later) where
      placed-on : measured bytes (placed_says f t (λ x. say_lines (line + 1) x (first 10 (drop next s)) (rest 10 (drop next s)))) ≡ measured 0 (text_says s)
      unfolding say_line
      placed-on = ap (measured bytes) (a _) ∙ here _ _ went

      pub placed-stop : (refusal : Refusal) → t ≡ Err refusal → (m : Said (Unit {0})) → m ≡ refuses (fault_number refusal.fault) refusal.at → m ≡ measured 0 (text_says s)
      placed-stop refusal z m e = e ∙ (rw z at placed-on)

      pub placed-next : (x : Progress) (n : ℕ) → t ≡ Ok x → n ≡ grown bytes f → OnTape s next (line + 1) n x
      placed-next x n z g = record {
        same = rw g (sym (measured-with bytes f (say_lines (line + 1) x (first 10 (drop next s)) (rest 10 (drop next s)))) ∙ (rw z at placed-on));
        within = went.within;
        lines = omega (arith, o.lines, went.ahead);
        small = rw g (stop-most _);
      }

    -- by what admitting the field says
    module _ (c : Progress) (k : c ≡ capped p) (t : Result Admitted Fault) (a : admit_says t ≡ admit c f) where
      on : measured bytes (onward line f (admit_says t) (λ x. say_lines (line + 1) x (first 10 (drop next s)) (rest 10 (drop next s)))) ≡ measured 0 (text_says s)
      unfolding say_line
      on = rw (a, k) (here _ _ went)

      pub t-stop : (fault : Fault) → t ≡ Err fault → refuses (fault_number fault) line ≡ measured 0 (text_says s)
      unfolding onward
      t-stop fault z = simp z at on

      pub t-ends : t ≡ Ok A.Ended → refuses 17 line ≡ measured 0 (text_says s)
      unfolding onward
      t-ends z = simp z at on

      pub t-next : (x : Progress) (n : ℕ) → t ≡ Ok (A.Next x) → n ≡ grown bytes f → OnTape s next (line + 1) n x
      unfolding onward
      t-next x n z g = record {
        same = rw g (sym (measured-with bytes f (say_lines (line + 1) x (first 10 (drop next s)) (rest 10 (drop next s)))) ∙ (simp z at on));
        within = went.within;
        lines = omega (arith, o.lines, went.ahead);
        small = rw g (stop-most _);
      }
