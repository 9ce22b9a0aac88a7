-- What an accepted sheet is: its fields lead from the start to the end, each by an admission. All else that holds of accepted sheets follows
-- from that chain by induction on the list, with no byte in sight.
--     accepted-chain    the chain;  accepted-stood    its fields fill the sheet;  accepted-small    at most 1,048,576 bytes
--     accepted-rises    times never fall;  accepted-sound    every value is in its range
--     accepted-header   exactly one header, first;  accepted-right    its metal and marks are right;  accepted-closes    previous closes strictly rising, before all records
--     accepted-let      no field is on a barred instrument;  accepted-end    exactly one end, last, with the right count
-- Assumes nothing.
use Rattle.std.specs.Prelude.{ℕ, ◌+◌, ◌≤◌, ◌≡◌, Bool, true, false, cond, List, [], ◌∷◌, ◌++◌, eqb, leb}
use Rattle.std.proofs.Math.Path.{refl}
use Rattle.std.proofs.Common.{sym, ◌∙◌, ap, subst, inl, inr, arith}
use borrow.Author.Tests.{eqb-true, leb-true}
use Rattle.std.proofs.Math.ListN.{length}
use Rattle.field.specs.declared.Field.{Field}
use Rattle.field.specs.Said.{gives, refuses}
use Rattle.field.specs.declared.Field.TheVariants.{Header, PreviousClose, Trade, Quote, End}
use Rattle.field.specs.Judging.{header_right, third_of, allowed, alone}
use Rattle.field.specs.Layout.{tag_of}
use Rattle.field.specs.declared.Before.{Before}
use Rattle.field.proofs.Sound.{Sound, sound}
use Rattle.field.specs.Reading.{shape_at}
use Rattle.field.specs.laws.Field.{clash}
use Rattle.admit.specs.declared.Progress.{Progress}
use Rattle.admit.specs.Admitting.{start, before_of, Step, goes, ends, stops, admit}
use Rattle.admit.specs.laws.Admitting.{Passed, went, ended, time_from, went-times, went-counts, passed-times, passed-sound, first-header, Later, later-not-header, kept, header-kept, close-kept, record-kept, end_is, close-placed, late-not-close, late-stays}
use Rattle.sheet.specs.declared.Day.{Day}
use Rattle.sheet.specs.Fields.{reads_at, fields_at, fields_of, Each}
use Rattle.sheet.specs.Judgement.{Verdict, accepts, refuses-at, day_of, at_end, after, judge_reads, judge_sheet}
use Rattle.sheet.specs.laws.Walk.{reads-gave, reads-stop, fields-gave, fields-stop, walk-ind, shape-past}
use Rattle.sheet.specs.laws.Led.{Stood, here, then}

-- the fields lead from p to the end, behind which the day is told
pub data Chain : Progress → List Field → Day → Type 0 where
  last : {p : Progress} {f : Field} → admit p f ≡ ends → Chain p (f ∷ []) (day_of p)
  more : {p q : Progress} {f : Field} {fs : List Field} {day : Day} → admit p f ≡ goes q → Chain q fs day → Chain p (f ∷ fs) day

-- ---- from the judgement to the chain

-- a test before a refusal held
picked : (b : Bool) (v : Verdict) (n at : ℕ) (day : Day) → cond b v (refuses-at n at) ≡ accepts day → (b ≡ true) × (v ≡ accepts day)
picked true v n at day e = (refl, e)
picked false v n at day e = clash cc

module _ (s : List ℕ) (day : Day) where
  -- from a place on the fields lead to the end, and stand in the sheet up to its length
  EndsAt : ℕ → Type 0
  EndsAt at = (p : Progress) → judge_reads (length s) at p (reads_at s at) ≡ accepts day → Chain p (fields_at s at) day × Stood s at (fields_at s at) (length s)

  ends-stop : (at number place : ℕ) → shape_at s at ≡ refuses number place → EndsAt at
  unfolding EndsAt judge_reads
  ends-stop at number place e p h = let j : refuses-at number at ≡ accepts day = rw (reads-stop s at e) at h in clash cc

  -- by what the admission made of the field
  ends_by : (at next : ℕ) (f : Field) (p : Progress) (t : Step) → admit p f ≡ t → shape_at s at ≡ gives f next → EndsAt next
      → after (length s) at next p t (λ q. judge_reads (length s) next q (reads_at s next)) ≡ accepts day → Chain p (f ∷ fields_at s next) day × Stood s at (f ∷ fields_at s next) (length s)
  unfolding EndsAt after at_end
  ends_by at next f p (goes q) k d rest h = let r = rest q h in (more k r.0, then d r.1)
  ends_by at next f p ends k d rest h =
      let u = picked (eqb next (length s)) (accepts (day_of p)) 5 next day h in
      let day-is : day_of p ≡ day = cc in
      let end : next ≡ length s = eqb-true next (length s) u.0 in
      let past = shape-past s next (omega (arith, end)) in
      rw (fields-stop s next past) (subst (Chain p (f ∷ [])) day-is (last k), then d (subst (Stood s next []) end here))
  ends_by at next f p (stops number) k d rest h = clash cc

  ends-gave : (at : ℕ) (f : Field) (next : ℕ) → shape_at s at ≡ gives f next → EndsAt next → EndsAt at
  unfolding EndsAt judge_reads
  ends-gave at f next e rest p h = rw (fields-gave s at e) (ends_by at next f p (admit p f) refl e rest (rw (reads-gave s at e) at h))

  accepted-ends : judge_sheet s ≡ accepts day → Chain start (fields_of s) day × Stood s 0 (fields_of s) (length s)
  unfolding EndsAt judge_sheet
  accepted-ends h = walk-ind s EndsAt ends-stop ends-gave 0 start (picked (leb (length s) 1048576) (judge_reads (length s) 0 start (reads_at s 0)) 1 0 day h).1

  pub accepted-chain : judge_sheet s ≡ accepts day → Chain start (fields_of s) day
  accepted-chain h = (accepted-ends h).0

  pub accepted-stood : judge_sheet s ≡ accepts day → Stood s 0 (fields_of s) (length s)
  accepted-stood h = (accepted-ends h).1

  pub accepted-small : judge_sheet s ≡ accepts day → length s ≤ 1048576
  unfolding judge_sheet
  accepted-small h = leb-true _ _ (picked (leb (length s) 1048576) (judge_reads (length s) 0 start (reads_at s 0)) 1 0 day h).0

-- ---- times never fall

-- no time is below the one before it
abbrev pub Rising : ℕ → List Field → Type 0
Rising t [] = Unit {0}
Rising t (f ∷ fs) = (t ≤ time_from t f) × Rising (time_from t f) fs

pub chain-rises : {p : Progress} {fs : List Field} {day : Day} → Chain p fs day → Rising p.time fs
chain-rises (last {p = p} {f = f} e) = (passed-times p f (ended p f e).0, tt)
chain-rises (more {p = p} {q = q} {f = f} {fs = fs} e c) =
    (passed-times p f (went p f q e).0, subst (λ (t : ℕ). Rising t fs) (went-times p f q e) (chain-rises c))

pub accepted-rises : (s : List ℕ) (day : Day) → judge_sheet s ≡ accepts day → Rising 0 (fields_of s)
accepted-rises s day h = chain-rises (accepted-chain s day h)

-- ---- every value is in its range

pub chain-sound : {p : Progress} {fs : List Field} {day : Day} → Chain p fs day → Each (Sound alone) fs
chain-sound (last {p = p} {f = f} e) = (passed-sound p f (ended p f e).0, tt)
chain-sound (more {p = p} {q = q} {f = f} e c) = (passed-sound p f (went p f q e).0, chain-sound c)

pub accepted-sound : (s : List ℕ) (day : Day) → judge_sheet s ≡ accepts day → Each (Sound alone) (fields_of s)
accepted-sound s day h = chain-sound (accepted-chain s day h)

-- ---- exactly one header, first

-- no field has this tag
abbrev pub Without : ℕ → List Field → Type 0
Without tag fs = Each (λ f. tag_of f ≡ tag → ⊥) fs

-- the first field is a header with these values, and no other is one
pub record HeaderFirst (fs : List Field) (day : Day) : Type 0 where
  pub rest : List Field
  pub is : fs ≡ Header day.metal day.marks day.form ∷ rest
  pub only : Each Later rest

-- what the header said is what the day tells
record Said (p : Progress) (day : Day) : Type 0 where
  metal : day.metal ≡ p.metal
  marks : day.marks ≡ p.marks
  form : day.form ≡ p.form

-- behind the header none comes, and what it said stays
chain-later : {p : Progress} {fs : List Field} {day : Day} → Chain p fs day → 1 ≤ p.stage → Each Later fs × Said p day
chain-later (last {p = p} {f = f} e) l = ((later-not-header p f (ended p f e).0 l, tt), record { metal = refl; marks = refl; form = refl })
chain-later (more {p = p} {q = q} {f = f} e c) l =
    let k = kept p f q e in
    let r = chain-later c k.later in
    ((later-not-header p f (went p f q e).0 l, r.0), record { metal = r.1.metal ∙ k.metal-stays l; marks = r.1.marks ∙ k.marks_stay l; form = r.1.form ∙ k.form-stays l })

chain-header : {p : Progress} {fs : List Field} {day : Day} → Chain p fs day → p.stage ≡ 0 → HeaderFirst fs day
chain-header (last {p = p} {f = f} e) z =
    let h = first-header p f (ended p f e).0 z in
    let no : Header h.metal h.marks h.form ≡ End p.count = sym h.is ∙ end_is p f e in
    clash cc
chain-header (more {p = p} {q = q} {f = f} {fs = fs} {day = day} e c) z =
    let h = first-header p f (went p f q e).0 z in
    let k = header-kept p h.metal h.marks h.form q (rw h.is at e) in
    let r = chain-later c (kept p f q e).later in
    let metal : day.metal ≡ h.metal = r.1.metal ∙ ap (λ (x : Progress). x.metal) k in
    let marks : day.marks ≡ h.marks = r.1.marks ∙ ap (λ (x : Progress). x.marks) k in
    let form : day.form ≡ h.form = r.1.form ∙ ap (λ (x : Progress). x.form) k in
    record { rest = fs; is = rw (metal, marks, form) (ap (λ (g : Field). g ∷ fs) h.is); only = r.0 }

pub accepted-header : (s : List ℕ) (day : Day) → judge_sheet s ≡ accepts day → HeaderFirst (fields_of s) day
accepted-header s day h = chain-header (accepted-chain s day h) refl

-- and its values are right
pub accepted-right : (s : List ℕ) (day : Day) → judge_sheet s ≡ accepts day → header_right day.metal day.marks (third_of day.form) ≡ true
accepted-right s day a =
    let h = accepted-header s day a in
    let sounds : Each (Sound alone) (Header day.metal day.marks day.form ∷ h.rest) = rw h.is at (accepted-sound s day a) in
    sounds.0

-- ---- no field is on an instrument that the header bars

abbrev pub Let : ℕ → Field → Type 0
Let third (Header metal marks form) = Unit {0}
Let third (PreviousClose instrument price) = allowed third instrument ≡ true
Let third (Trade time instrument price lots) = allowed third instrument ≡ true
Let third (Quote time instrument sides bid offer) = allowed third instrument ≡ true
Let third (End count) = Unit {0}

let-sound : (before : Before) (f : Field) → Sound before f → Let before.third f
let-sound before (Header metal marks form) h = tt
let-sound before (PreviousClose instrument price) h = h.0.let-be
let-sound before (Trade time instrument price lots) h = h.stamp.on.let-be
let-sound before (Quote time instrument sides bid offer) h = h.stamp.on.let-be
let-sound before (End count) h = tt

let-passed : (p : Progress) (f : Field) → Passed p f → Let (third_of p.form) f
let-passed p f h = let-sound (before_of p) f (sound (before_of p) f h.values)

chain-let : {p : Progress} {fs : List Field} {day : Day} → Chain p fs day → 1 ≤ p.stage → Each (Let (third_of day.form)) fs
chain-let (last {p = p} {f = f} e) l = (let-passed p f (ended p f e).0, tt)
chain-let (more {p = p} {q = q} {f = f} e c) l =
    let told = (chain-later (more {p = p} {q = q} {f = f} e c) l).1.form in
    (rw told (let-passed p f (went p f q e).0), chain-let c (kept p f q e).later)

-- behind the header, whose own instrument there is none
chain-all-let : {p : Progress} {fs : List Field} {day : Day} → Chain p fs day → p.stage ≡ 0 → Each (Let (third_of day.form)) fs
chain-all-let (last {p = p} {f = f} e) z = rw (end_is p f e) (tt, tt)
chain-all-let (more {p = p} {q = q} {f = f} e c) z = (rw (first-header p f (went p f q e).0 z).is tt, chain-let c (kept p f q e).later)

pub accepted-let : (s : List ℕ) (day : Day) → judge_sheet s ≡ accepts day → Each (Let (third_of day.form)) (fields_of s)
accepted-let s day h = chain-all-let (accepted-chain s day h) refl

-- ---- exactly one end, last, with the right count

-- the last field is an end that counts the fields before it, none of which is one
pub record EndLast (count : ℕ) (fs : List Field) (day : Day) : Type 0 where
  pub before : List Field
  pub is : fs ≡ before ++ (End (count + length before) ∷ [])
  pub alone : Without 5 before
  pub counted : day.fields ≡ count + length fs

pub chain-end : {p : Progress} {fs : List Field} {day : Day} → Chain p fs day → EndLast p.count fs day
chain-end (last {p = p} {f = f} e) =
    let none : p.count ≡ p.count + 0 = omega arith in
    record { before = []; is = ap (λ (g : Field). g ∷ []) (end_is p f e ∙ ap End none); alone = tt; counted = refl }
chain-end (more {p = p} {q = q} {f = f} {fs = fs} {day = day} e c) =
    let r = chain-end c in
    let n : q.count ≡ p.count + 1 = went-counts p f q e in
    let shift : q.count + length r.before ≡ p.count + length (f ∷ r.before) = omega arith in
    record {
      before = f ∷ r.before;
      is = ap (λ (l : List Field). f ∷ l) (r.is ∙ ap (λ (k : ℕ). r.before ++ (End k ∷ [])) shift);
      alone = ((kept p f q e).no_end, r.alone);
      counted = omega (arith, r.counted);
    }

pub accepted-end : (s : List ℕ) (day : Day) → judge_sheet s ≡ accepts day → EndLast 0 (fields_of s) day
accepted-end s day h = chain-end (accepted-chain s day h)

-- ---- previous closes strictly rising, before all records

-- each instrument is at least the given one, and above that of the close before it; behind a trade or a quote no close comes
abbrev pub Closes : ℕ → List Field → Type 0
Closes least [] = Unit {0}
Closes least (Header metal marks form ∷ fs) = Closes least fs
Closes least (PreviousClose instrument price ∷ fs) = (least ≤ instrument) × Closes (instrument + 1) fs
Closes least (Trade time instrument price lots ∷ fs) = Without 2 fs
Closes least (Quote time instrument sides bid offer ∷ fs) = Without 2 fs
Closes least (End count ∷ fs) = Without 2 fs

chain-no-close : {p : Progress} {fs : List Field} {day : Day} → Chain p fs day → p.stage ≡ 2 → Without 2 fs
chain-no-close (last {p = p} {f = f} e) z = (late-not-close p f (ended p f e).0 z, tt)
chain-no-close (more {p = p} {q = q} {f = f} e c) z = (late-not-close p f (went p f q e).0 z, chain-no-close c (late-stays p f q e z))

-- one field before a chain of which that holds
closes-more : (p : Progress) (f : Field) {q : Progress} {fs : List Field} {day : Day} → admit p f ≡ goes q → Chain q fs day → Closes q.instrument fs → Closes p.instrument (f ∷ fs)
unfolding tag_of
closes-more p (Header metal marks form) {q} {fs} e c r = subst (λ (n : ℕ). Closes n fs) (ap (λ (x : Progress). x.instrument) (header-kept p metal marks form q e)) r
closes-more p (PreviousClose instrument price) {q} {fs} e c r =
    ((close-placed p instrument price (went p (PreviousClose instrument price) q e).0).1, subst (λ (n : ℕ). Closes n fs) (ap (λ (x : Progress). x.instrument) (close-kept p instrument price q e)) r)
closes-more p (Trade time instrument price lots) {q} e c r = chain-no-close c (record-kept p (Trade time instrument price lots) q e (inl refl))
closes-more p (Quote time instrument sides bid offer) {q} e c r = chain-no-close c (record-kept p (Quote time instrument sides bid offer) q e (inr refl))
closes-more p (End count) {q} e c r = absurd ((kept p (End count) q e).no_end refl)

pub chain-closes : {p : Progress} {fs : List Field} {day : Day} → Chain p fs day → Closes p.instrument fs
chain-closes (last {p = p} {f = f} e) = rw (end_is p f e) tt
chain-closes (more {p = p} {f = f} e c) = closes-more p f e c (chain-closes c)

pub accepted-closes : (s : List ℕ) (day : Day) → judge_sheet s ≡ accepts day → Closes 0 (fields_of s)
accepted-closes s day h = chain-closes (accepted-chain s day h)
