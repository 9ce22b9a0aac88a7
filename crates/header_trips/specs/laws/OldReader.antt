-- A reader that knows the short header alone: it accepts an accepted sheet that has it, and with it what was moved back; a sheet with the long header it
-- refuses with 3 at byte 0.
--     old-reads    where no long header stands, it reads as any reader
--     reads_old, read-law, unread-law    the laws
-- Assumes nothing.
use Prim.Native.Nat.{ℕ, zero, suc, ◌-◌, ◌≤◌}
use Rattle.std.specs.Prelude.{Bool, ◌≡◌, eqb, get_or}
use Rattle.std.proofs.Math.Bool.{true, false, cond}
use Rattle.std.proofs.Math.Path.{refl}
use Rattle.std.proofs.Common.{sym, ap, ◌∙◌, subst, arith}
use mathlib.Core.List.{List, [], ◌∷◌, ◌++◌}
use borrow.Author.Tests.{eqb-true, eq-eqb, le-leb, leb-true}
use Rattle.std.proofs.Math.Dec.{leb}
use Rattle.std.proofs.Math.ListN.{length}
use Rattle.field.specs.declared.Form.{Form}
use Rattle.field.specs.declared.Form.TheVariants.{Short, Long}
use Rattle.field.specs.declared.Field.{Field}
use Rattle.field.specs.declared.Field.TheVariants.{Header, PreviousClose, Trade, Quote, End}
use Rattle.field.specs.Judging.{unless}
use Rattle.field.specs.Layout.{tag_of, field_bytes, field_of}
use Rattle.field.specs.Said.{Said, gives, refuses}
use Rattle.field.specs.Reading.{shape_at, body_at}
use Rattle.field.specs.laws.Field.{shaped}
use Rattle.admit.specs.Admitting.{start}
use Rattle.admit.specs.laws.Admitting.{Later}
use Rattle.sheet.specs.declared.Day.{Day}
use Rattle.sheet.specs.Fields.{behind, reads_from, reads_at, fields_of, encode, Each}
use Rattle.sheet.specs.Judgement.{accepts, refuses-at, judge_reads, judge_sheet}
use Rattle.sheet.specs.laws.Walk.{shape-past}
use Rattle.sheet.specs.laws.Led.{Stood, here, then}
use Rattle.sheet.specs.laws.Accepted.{accepted-header, accepted-stood, accepted-small}
use Rattle.header_mover.specs.laws.Moving.{Accepted, header_size}
use Rattle.header_mover.proofs.Moving.{rest_of, sheet-is, header-inside}
use Rattle.header_trips.specs.Moves.{day_in, old_shape_at, old_reads_from, judge_old, ReadLaw, UnreadLaw}
use Rattle.header_trips.specs.laws.Moved.{moves, again}

-- ---- where no long header stands

-- a field has no long header's tag
abbrev Known : Field → Type 0
Known (Header metal marks Short) = Unit {0}
Known (Header metal marks (Long third)) = ⊥
Known (PreviousClose instrument price) = Unit {0}
Known (Trade time instrument price lots) = Unit {0}
Known (Quote time instrument sides bid offer) = Unit {0}
Known (End count) = Unit {0}

later-known : (f : Field) → Later f → Known f
later-known (Header metal marks form) h = absurd h
later-known (PreviousClose instrument price) h = tt
later-known (Trade time instrument price lots) h = tt
later-known (Quote time instrument sides bid offer) h = tt
later-known (End count) h = tt

rest-known : (fs : List Field) → Each Later fs → Each Known fs
rest-known [] h = tt
rest-known (f ∷ fs) h = (later-known f h.0, rest-known fs h.1)

-- a tag 6 is a long header's
long-unknown : (tag : ℕ) (body : List ℕ) (f : Field) → tag ≡ 6 → field_of tag body ≡ f → Known f → ⊥
unfolding field_of
long-unknown tag body f e v k = subst Known (sym v ∙ ap (λ (n : ℕ). field_of n body) e) k

module _ (s : List ℕ) where
  old-shape : (at : ℕ) {next : ℕ} {f : Field} → shape_at s at ≡ gives f next → Known f → old_shape_at s at ≡ gives f next
  old-shape at {next} {f} d k = by (eqb (get_or s at 0) 6) refl
    where
      by : (t : Bool) → eqb (get_or s at 0) 6 ≡ t → cond t (refuses (unless (leb 3 (length s - at)) 2 3) at) (shape_at s at) ≡ gives f next
      by true e = absurd (long-unknown (get_or s at 0) (body_at s at (get_or s at 0)) f (eqb-true (get_or s at 0) 6 e) (shaped s at f next d).values k)
      by false e = d

  -- behind the last byte it finds as little as any reader
  old-past : old_shape_at s (length s) ≡ refuses 2 (length s)
  unfolding unless
  old-past = by (eqb (get_or s (length s) 0) 6) (leb 3 (length s - length s)) refl
    where
      by : (t u : Bool) → leb 3 (length s - length s) ≡ u → cond t (refuses (unless u 2 3) (length s)) (shape_at s (length s)) ≡ refuses 2 (length s)
      by true true e = absurd (omega (arith, leb-true 3 (length s - length s) e))
      by true false e = refl
      by false u e = shape-past s (length s) (omega arith)

  old-reads : (k : ℕ) {at : ℕ} {fs : List Field} → Stood s at fs (length s) → Each Known fs → old_reads_from k s at ≡ reads_from k s at
  unfolding old_reads_from reads_from behind
  old-reads zero st h = refl
  old-reads (suc k) here h = rw (old-past, shape-past s (length s) (omega arith)) refl
  old-reads (suc k) {at} (then {next = next} {f = f} d t) h = rw (old-shape at d h.0, d) (ap (λ (l : List (Said Field)). gives f next ∷ l) (old-reads k t h.1))

-- ---- the laws

pub reads_old : (s : List ℕ) (day : Day) → judge_sheet s ≡ accepts day → day.form ≡ Short → judge_old s ≡ accepts day
unfolding judge_old judge_sheet reads_at
reads_old s day a z =
    let first = accepted-header s day a in
    let all : length s ≡ length s - 0 = omega arith in
    let known : Each Known (fields_of s) = subst (Each Known) (sym first.is) (subst (λ (form : Form). Known (Header day.metal day.marks form)) (sym z) tt, rest-known first.rest first.only) in
    ap (λ (l : List (Said Field)). cond (leb (length s) 1048576) (judge_reads (length s) 0 start l) (refuses-at 1 0)) (old-reads s (suc (length s)) (accepted-stood s day a) known ∙ ap (λ (n : ℕ). reads_from (suc n) s 0) all) ∙ a

pub read-law : ReadLaw
read-law s s' room e =
    let k = moves Short room s s' e in
    let read : judge_old s' ≡ accepts (day_in Short k.day) = reads_old s' (day_in Short k.day) (again Short s s' k).accepted refl in
    (k.day, k.accepted, cc)

pub unread-law : UnreadLaw
unfolding judge_old old_reads_from judge_reads encode tag_of unless
unread-law s day third b a z =
    let ok : Accepted s day = record { bytes = b; judged = a } in
    let six : get_or s 0 0 ≡ 6 = ap (λ (l : List ℕ). get_or l 0 0) (sheet-is s day ok) ∙ ap (λ (form : Form). get_or (field_bytes (Header day.metal day.marks form) ++ encode (rest_of s day ok)) 0 0) z in
    let long : 7 ≤ length s = omega (arith, header-inside s day ok, ap header_size z) in
    simp (le-leb (length s) 1048576 (accepted-small s day a), eq-eqb (get_or s 0 0) 6 six, le-leb 3 (length s - 0) (omega arith))
