-- Laws of judging a sheet field after field: what one field and its admission say of the judgement from a place on.
--     OnTrack    judging from here on says what judging the whole sheet says
--     on-..      where none stands, and where a field stands
--     at-..      the same with the facts as they stand in the code: what a call ensures of its result, and the case that the result was found to be
-- Assumes nothing.
use Rattle.std.specs.Prelude.{ℕ, ◌<◌, ◌≤◌, ◌≡◌, List, length, Result, Ok, Err}
use Rattle.std.proofs.Common.{sym, ◌∙◌, ap, arith, le-leb}
use Rattle.std.proofs.lemmas.Bool.{lt-leb}
use Rattle.field.specs.declared.Field.{Field}
use Rattle.field.specs.declared.Fault.{Fault}
use Rattle.field.specs.declared.Refusal.{Refusal}
use Rattle.field.specs.Said.{gives, refuses, fault_number, read_says}
use Rattle.field.specs.Reading.{shape_at}
use Rattle.field.specs.laws.Field.{shape-refused}
use Rattle.admit.specs.declared.Progress.{Progress}
use Rattle.admit.specs.declared.Admitted.{Admitted}
use Rattle.admit.specs.declared.Admitted.TheVariants as A
use Rattle.admit.specs.Admitting.{start, Step, goes, ends, stops, admit, admit_says}
use Rattle.admit.specs.laws.Admitting.{went-counts}
use Rattle.sheet.specs.Fields.{reads_at}
use Rattle.sheet.specs.Judgement.{Verdict, refuses-at, at_end, after, judge_reads, judge_sheet}
use Rattle.sheet.specs.laws.Walk.{shape-grows, reads-gave, reads-stop, read-gave, read-stopped}

pub record OnTrack (s : List ℕ) (at : ℕ) (p : Progress) : Type 0 where
  pub small : length s ≤ 1048576
  pub within : at ≤ length s
  pub counts : p.count ≤ at
  pub same : judge_reads (length s) at p (reads_at s at) ≡ judge_sheet s

pub too_long : (s : List ℕ) → 1048576 < length s → refuses-at 1 0 ≡ judge_sheet s
unfolding judge_sheet
too_long s h = simp (lt-leb (length s) 1048576 h)

pub at-start : (s : List ℕ) {p : Progress} → p ≡ start → length s ≤ 1048576 → OnTrack s 0 p
unfolding judge_sheet
at-start s {p} e h = rw e (record { small = h; within = omega arith; counts = omega arith; same = simp (le-leb (length s) 1048576 h) })

-- ---- where none stands, and where a field stands

pub on-refusal : (s : List ℕ) (at : ℕ) (p : Progress) → OnTrack s at p → {number place : ℕ} → shape_at s at ≡ refuses number place → refuses-at number place ≡ judge_sheet s
unfolding judge_reads
on-refusal s at p o {number} e = ap (refuses-at number) (sym (shape-refused s at _ _ e).1) ∙ (rw (reads-stop s at e) at o.same)

module _ (s : List ℕ) (at : ℕ) (p : Progress) (o : OnTrack s at p) {f : Field} {next : ℕ} (shape : shape_at s at ≡ gives f next) where
  pub on_room : p.count < 1048576
  on_room = omega (arith, shape-grows s at shape, o.small, o.counts)

  judged : {x : Step} → admit p f ≡ x → after (length s) at next p x (λ q. judge_reads (length s) next q (reads_at s next)) ≡ judge_sheet s
  unfolding judge_reads
  judged h = rw (reads-gave s at shape, h) at o.same

  pub on-stop : {number : ℕ} → admit p f ≡ stops number → refuses-at number at ≡ judge_sheet s
  unfolding after
  on-stop h = judged h

  pub on-last : {x : Verdict} → admit p f ≡ ends → x ≡ at_end (length s) next p → x ≡ judge_sheet s
  unfolding after
  on-last h z = z ∙ judged h

  pub on-next : {q : Progress} → admit p f ≡ goes q → OnTrack s next q
  unfolding after
  on-next {q} h =
      let g = shape-grows s at shape in
      record { small = o.small; within = g.1; counts = omega (arith, went-counts p f q h, o.counts, g.0); same = judged h }

-- ---- as the judge of any field finds it

module _ (s : List ℕ) (at : ℕ) (p : Progress) (o : OnTrack s at p) {r : Result (Field × ℕ) Refusal} (e : read_says r ≡ shape_at s at) where
  pub at-refusal : {refusal : Refusal} → r ≡ Err refusal → refuses-at (fault_number refusal.fault) at ≡ judge_sheet s
  unfolding judge_reads
  at-refusal d = rw (reads-stop s at (read-stopped s at e d)) at o.same

  -- the refusal's own place is that place
  pub told-refusal : {refusal : Refusal} → r ≡ Err refusal → refuses-at (fault_number refusal.fault) refusal.at ≡ judge_sheet s
  told-refusal d = on-refusal s at p o (read-stopped s at e d)

  module _ {f : Field} {next : ℕ} (d : r ≡ Ok (f, next)) where
    pub at_room : p.count < 1048576
    at_room = on_room s at p o (read-gave s at e d)

    module _ {t : Result Admitted Fault} (k : admit_says t ≡ admit p f) where
      pub at-stop : {fault : Fault} → t ≡ Err fault → refuses-at (fault_number fault) at ≡ judge_sheet s
      at-stop w = on-stop s at p o (read-gave s at e d) (sym k ∙ ap admit_says w)

      pub at_last : {x : Verdict} → t ≡ Ok A.Ended → x ≡ at_end (length s) next p → x ≡ judge_sheet s
      at_last w z = on-last s at p o (read-gave s at e d) (sym k ∙ ap admit_says w) z

      pub at_next : {q : Progress} → t ≡ Ok (A.Next q) → OnTrack s next q
      at_next w = on-next s at p o (read-gave s at e d) (sym k ∙ ap admit_says w)
