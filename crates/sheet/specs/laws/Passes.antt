-- A pass over a sheet's bytes that reads by `shape_at` until it refuses, and makes anything of the fields so far: the loop's invariant as a
-- record, `Sofar`, and a law for each place of the loop. A pass cites them at what it makes of the fields.
-- Assumes nothing.
use Rattle.std.specs.Prelude.{ℕ, ◌≤◌, ◌≡◌, refl, List, [], ◌∷◌, ◌++◌, length, Result, Ok, Err}
use Rattle.std.proofs.Common.{sym, ◌∙◌, ap, append_assoc, append-nil, arith, length-append}
use Rattle.field.specs.declared.Field.{Field}
use Rattle.field.specs.declared.Refusal.{Refusal}
use Rattle.field.specs.Said.{read_says}
use Rattle.field.specs.Reading.{shape_at}
use Rattle.sheet.specs.Fields.{fields_at, fields_of, Each}
use Rattle.sheet.specs.laws.Walk.{shape-grows, fields-gave, fields-stop, read-gave, read-stopped}

-- `a` is what h makes of the fields before `at`, which are no more than the bytes there
pub record Sofar {A : Type 0} (h : List Field → A) (s : List ℕ) (at : ℕ) (a : A) : Type 0 where
  pub before : List Field
  pub split : fields_of s ≡ before ++ fields_at s at
  pub short : length before ≤ at
  pub within : at ≤ length s
  pub same : a ≡ h before

pub sofar-start : {A : Type 0} (h : List Field → A) (s : List ℕ) {a : A} → a ≡ h [] → Sofar h s 0 a
sofar-start h s e = record { before = []; split = refl; short = omega arith; within = omega arith; same = e }

-- what holds of each of two lists' fields
pub each_first : (P : Field → Type 0) (fs gs : List Field) → Each P (fs ++ gs) → Each P fs
each_first P [] gs k = tt
each_first P (f ∷ fs) gs k = (k.0, each_first P fs gs k.1)

pub each-second : (P : Field → Type 0) (fs gs : List Field) → Each P (fs ++ gs) → Each P gs
each-second P [] gs k = k
each-second P (f ∷ fs) gs k = each-second P fs gs k.1

-- what holds of all fields holds of those before a place
pub sofar-each : {A : Type 0} (h : List Field → A) (s : List ℕ) (at : ℕ) (a : A) (o : Sofar h s at a) (P : Field → Type 0) → Each P (fields_of s) → Each P o.before
sofar-each h s at a o P k = each_first P o.before (fields_at s at) (rw o.split at k)

module _ {A : Type 0} (h : List Field → A) (s : List ℕ) (at : ℕ) (a : A) (o : Sofar h s at a) {r : Result (Field × ℕ) Refusal} (e : read_says r ≡ shape_at s at) where
  pub sofar-stop : {refusal : Refusal} → r ≡ Err refusal → a ≡ h (fields_of s)
  sofar-stop d =
      let none : fields_of s ≡ o.before ++ [] = rw (fields-stop s at (read-stopped s at e d)) at o.split in
      o.same ∙ ap h (sym (none ∙ append-nil o.before))

  -- one field more, where h goes on by g
  pub sofar-next : (g : A → Field → A) → ((fs : List Field) (f : Field) → h (fs ++ (f ∷ [])) ≡ g (h fs) f) → {f : Field} {next : ℕ} {b : A} → r ≡ Ok (f, next) → b ≡ g a f → Sofar h s next b
  sofar-next g step {f} {next} d k =
      let w = shape-grows s at (read-gave s at e d) in
      let q : fields_of s ≡ o.before ++ (f ∷ fields_at s next) = rw (fields-gave s at (read-gave s at e d)) at o.split in
      record {
        before = o.before ++ (f ∷ []);
        split = q ∙ sym (append_assoc o.before (f ∷ []) (fields_at s next));
        short = simp length-append (omega (arith, o.short, w.0));
        within = w.1;
        same = k ∙ ap (λ (x : A). g x f) o.same ∙ sym (step o.before f);
      }

  -- what holds of all fields holds of the one that stands there
  pub sofar-here : (P : Field → Type 0) → Each P (fields_of s) → {f : Field} {next : ℕ} → r ≡ Ok (f, next) → P f
  sofar-here P k {f} {next} d =
      let l : Each P (fields_at s at) = each-second P o.before (fields_at s at) (rw o.split at k) in
      let q : Each P (f ∷ fields_at s next) = rw (fields-gave s at (read-gave s at e d)) at l in
      q.0
