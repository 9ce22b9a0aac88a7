-- A refusal's byte is that of the field that earned it, and nothing else is refused.
--     Earned        what it is for a sheet to earn a number at a byte: the table of SHEET 4, case by case
--     earned        a refusal was earned;  earned-refused    and what is earned is refused
--     refused-long  1 is earned by length alone;  refused-byte    every byte of a refusal is in the sheet or at its end
-- Assumes nothing.
use Rattle.std.specs.Prelude.{ℕ, ◌+◌, ◌≤◌, ◌<◌, ◌≡◌, Bool, true, false, List, [], ◌∷◌, ◌++◌, leb, eqb, length, drop}
use Rattle.std.proofs.Math.Path.{refl}
use Rattle.std.proofs.Common.{◌∙◌, subst, arith, le-leb, leb-true, leb-false, ne_eqb}
use Rattle.std.proofs.lemmas.Bool.{lt-leb, eqb-false}
use Rattle.wire.specs.Big.{Bytes}
use Rattle.field.specs.declared.Field.{Field}
use Rattle.field.specs.Said.{gives, refuses}
use Rattle.field.specs.Reading.{shape_at}
use Rattle.field.specs.laws.Field.{clash, head-all, shape-refused}
use Rattle.admit.specs.declared.Progress.{Progress}
use Rattle.admit.specs.Admitting.{start, Step, goes, ends, stops, admit}
use Rattle.admit.specs.laws.Admitting.{stopped, went-counts, admit-all}
use Rattle.sheet.specs.Fields.{reads_at, encode}
use Rattle.sheet.specs.Judgement.{accepts, refuses-at, day_of, at_end, after, judge_reads, judge_sheet}
use Rattle.sheet.specs.laws.Walk.{shape-grows, reads-gave, reads-stop, walk-ind}
use Rattle.sheet.specs.laws.Led.{Led, none, one, led-more, Stood, here, then, stood-more, led-judges, stood-bytes}

-- the bytes before a place are those of fields admitted in order from the start, none of them the end; p is what is kept behind them
pub record Before (s : List ℕ) (at : ℕ) : Type 0 where
  pub fields : List Field
  pub progress : Progress
  pub led : Led start fields progress
  pub stood : Stood s 0 fields at

pub data Earned (s : List ℕ) : ℕ → ℕ → Type 0 where
  -- 1: the sheet is longer than 1,048,576 bytes; byte 0
  too_long : 1048576 < length s → Earned s 1 0
  -- 2, 3, 4, 2: behind fields admitted in order no field has its shape
  bad-shape : {n at place : ℕ} → length s ≤ 1048576 → Before s at → shape_at s at ≡ refuses n place → Earned s n at
  -- 5 to 12: the field there may not come next
  bad-field : {n at next : ℕ} {f : Field} → length s ≤ 1048576 → (b : Before s at) → shape_at s at ≡ gives f next → admit b.progress f ≡ stops n → Earned s n at
  -- 5: the field there is the right end, and bytes follow it
  trailing : {at next : ℕ} {f : Field} → length s ≤ 1048576 → (b : Before s at) → shape_at s at ≡ gives f next → admit b.progress f ≡ ends → (next ≡ length s → ⊥) → Earned s 5 next

-- along two equations
subst2 : (P : ℕ → ℕ → Type 0) {a b c d : ℕ} → a ≡ b → c ≡ d → P a c → P b d
subst2 P {c = c} e g h = subst (P _) g (subst (λ x. P x c) e h)

-- the bytes before the place, as they stand
pub before-bytes : (s : List ℕ) → Bytes s → (at : ℕ) → (b : Before s at) → s ≡ encode b.fields ++ drop at s
before-bytes s h at b = stood-bytes s h b.stood

-- ---- a refusal was earned

-- behind an end only bytes that follow are refused: 5 at the first of them
end_refused : (length next : ℕ) (p : Progress) (n at : ℕ) → at_end length next p ≡ refuses-at n at → (next ≡ length → ⊥) × ((5 ≡ n) × (next ≡ at))
unfolding at_end
end_refused length next p n at h = by-test (eqb next length) refl
  where
    by-test : (t : Bool) → eqb next length ≡ t → (next ≡ length → ⊥) × ((5 ≡ n) × (next ≡ at))
    by-test true e = let j : accepts (day_of p) ≡ refuses-at n at = simp e at h in clash cc
    by-test false e = let j : refuses-at 5 next ≡ refuses-at n at = simp e at h in (eqb-false next length e, (cc, cc))

module _ (s : List ℕ) (small : length s ≤ 1048576) (n at : ℕ) where
  EarnedFrom : ℕ → Type 0
  EarnedFrom from = (b : Before s from) → judge_reads (length s) from b.progress (reads_at s from) ≡ refuses-at n at → Earned s n at

  from-stop : (from number place : ℕ) → shape_at s from ≡ refuses number place → EarnedFrom from
  unfolding EarnedFrom judge_reads
  from-stop from number place e b h =
      let j : refuses-at number from ≡ refuses-at n at = rw (reads-stop s from e) at h in
      let same : number ≡ n = cc in
      let byte : from ≡ at = cc in
      subst2 (Earned s) same byte (bad-shape small b e)

  -- by what the admission made of the field
  from-by : (from next : ℕ) (f : Field) (b : Before s from) (t : Step) → admit b.progress f ≡ t → shape_at s from ≡ gives f next → EarnedFrom next
      → after (length s) from next b.progress t (λ q. judge_reads (length s) next q (reads_at s next)) ≡ refuses-at n at → Earned s n at
  unfolding EarnedFrom after
  from-by from next f b (goes q) k d rest h =
      rest (record { fields = b.fields ++ (f ∷ []); progress = q; led = led-more f b.led k; stood = stood-more b.stood d }) h
  from-by from next f b ends k d rest h =
      let u = end_refused (length s) next b.progress n at h in
      subst2 (Earned s) u.1.0 u.1.1 (trailing small b d k u.0)
  from-by from next f b (stops number) k d rest h =
      let same : number ≡ n = cc in
      let byte : from ≡ at = cc in
      subst2 (Earned s) same byte (bad-field small b d k)

  from-gave : (from : ℕ) (f : Field) (next : ℕ) → shape_at s from ≡ gives f next → EarnedFrom next → EarnedFrom from
  unfolding EarnedFrom judge_reads
  from-gave from f next e rest b h = from-by from next f b (admit b.progress f) refl e rest (rw (reads-gave s from e) at h)

  earned-small : judge_reads (length s) 0 start (reads_at s 0) ≡ refuses-at n at → Earned s n at
  unfolding EarnedFrom
  earned-small h = walk-ind s EarnedFrom from-stop from-gave 0 (record { fields = []; progress = start; led = none; stood = here }) h

pub earned : (s : List ℕ) (n at : ℕ) → judge_sheet s ≡ refuses-at n at → Earned s n at
unfolding judge_sheet
earned s n at h = by-test (leb (length s) 1048576) refl
  where
    by-test : (t : Bool) → leb (length s) 1048576 ≡ t → Earned s n at
    by-test true e = earned-small s (leb-true (length s) 1048576 e) n at (simp e at h)
    by-test false e =
        let j : refuses-at 1 0 ≡ refuses-at n at = simp e at h in
        let same : 1 ≡ n = cc in
        let byte : 0 ≡ at = cc in
        subst2 (Earned s) same byte (too_long (leb-false (length s) 1048576 e))

-- ---- and what is earned is refused

-- judging from the start is judging behind the fields before the place
before-judges : (s : List ℕ) (at : ℕ) → length s ≤ 1048576 → (b : Before s at) → judge_sheet s ≡ judge_reads (length s) at b.progress (reads_at s at)
unfolding judge_sheet
before-judges s at small b = simp (le-leb (length s) 1048576 small) (led-judges (length s) b.led b.stood)

pub earned-refused : (s : List ℕ) (n at : ℕ) → Earned s n at → judge_sheet s ≡ refuses-at n at
unfolding judge_reads after at_end judge_sheet
earned-refused s n at (too_long h) = simp (lt-leb (length s) 1048576 h)
earned-refused s n at (bad-shape small b e) = before-judges s at small b ∙ rw (reads-stop s at e) refl
earned-refused s n at (bad-field small b e k) = before-judges s at small b ∙ rw (reads-gave s at e, k) refl
earned-refused s n at (trailing {at = from} {next = next} small b e k h) = before-judges s from small b ∙ rw (reads-gave s from e, k) (simp (ne_eqb next (length s) h))

-- ---- the number and the byte of a refusal

-- a field has a byte or more, so that no more fields than bytes stand before a place
before-counts : {s : List ℕ} {at next : ℕ} {p q : Progress} {fs : List Field} → Led p fs q → Stood s at fs next → q.count + at ≤ p.count + next
before-counts none here = omega arith
before-counts {s} {at} (one {p = p} {q = q} {f = f} e l) (then d t) = omega (arith, went-counts p f q e, shape-grows s at d, before-counts l t)

-- 1 is earned by length alone
pub refused-long : (s : List ℕ) (at : ℕ) → judge_sheet s ≡ refuses-at 1 at → 1048576 < length s
refused-long s at h = by-cause (earned s 1 at h) refl
  where
    by-cause : {n at : ℕ} → Earned s n at → n ≡ 1 → 1048576 < length s
    by-cause (too_long l) e = l
    by-cause (bad-shape {n = n} {at = at} {place = place} small b d) e =
        absurd (head-all (λ m. m ≡ 1 → ⊥) (λ g. omega arith) (λ g. omega arith) (λ g. omega arith) (λ g. omega arith) s at _ ((shape-refused s at n place d).0 ∙ e))
    by-cause (bad-field {n = n} {at = at} {f = f} small b d k) e =
        let room : b.progress.count < 1048576 = omega (arith, before-counts b.led b.stood, shape-grows s at d) in
        absurd (admit-all (λ m. m ≡ 1 → ⊥) (λ g. omega arith) (λ g. omega arith) (λ g. omega arith) (λ g. omega arith) (λ g. omega arith) (λ g. omega arith) (λ g. omega arith) (λ g. omega arith) (λ g. omega arith) (λ g. omega arith) b.progress f room (stopped b.progress f n k ∙ e))
    by-cause (trailing small b d k l) e = absurd (omega arith)

-- a place behind fields that stand in the sheet is in it or at its end
stood-inside : {s : List ℕ} {at next : ℕ} {fs : List Field} → at ≤ length s → Stood s at fs next → next ≤ length s
stood-inside h here = h
stood-inside {s} {at} h (then d t) = stood-inside (shape-grows s at d).1 t

-- every refusal's byte is one of the sheet's, or its length
pub refused-byte : (s : List ℕ) (n at : ℕ) → judge_sheet s ≡ refuses-at n at → at ≤ length s
refused-byte s n at h = by-cause (earned s n at h)
  where
    by-cause : {n at : ℕ} → Earned s n at → at ≤ length s
    by-cause (too_long l) = omega arith
    by-cause (bad-shape small b d) = stood-inside (omega arith) b.stood
    by-cause (bad-field small b d k) = stood-inside (omega arith) b.stood
    by-cause (trailing {at = from} small b d k l) = (shape-grows s from d).1
