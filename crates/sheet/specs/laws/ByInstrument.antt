-- A pass over a sheet that fields fill, by their tags, that makes something of the fields of each instrument: a list with one place for each
-- instrument, 0 to 11. A pass cites these laws at what it makes, and says what a field does to one instrument's.
--     Filled               fields stand one after the other up to the sheet's end, and their values are in their ranges
--     Kept                 at each instrument's place is what is made of the fields;  kept-none, kept-one    with a field more
--     Passing              at a place of the sheet: kept of the fields before it, and fields stand from there to the end
--     here-..              the field that stands at the place, by its tag;  size-..    the bytes of a trade and of a quote
--     pass-..              the pass begins, goes on behind a field, and ends
-- Assumes nothing.
use Rattle.std.specs.Prelude.{ℕ, ◌+◌, ◌≤◌, ◌<◌, ◌≡◌, refl, Bool, true, false, List, [], ◌∷◌, ◌++◌, eqb, length, get_or, set, Ok, Err}
use Rattle.std.proofs.Common.{sym, ap, subst, ◌∙◌, arith, eqb-true, length-set, get_or-set_same, get_or-set_other}
use Rattle.std.proofs.Math.Path.{subst⁻¹}
use Rattle.std.proofs.lemmas.Bool.{eqb-false}
use Rattle.field.specs.declared.Field.{Field}
use Rattle.field.specs.declared.Fault.TheVariants.{Bytes}
use Rattle.field.specs.Layout.{size_of, field_of}
use Rattle.field.specs.Said.{gives}
use Rattle.field.specs.Reading.{body_at, shape_at}
use Rattle.field.specs.laws.Field.{Headed, Shaped, shaped}
use Rattle.field.specs.Judging.{alone}
use Rattle.field.proofs.Sound.{Sound}
use Rattle.sheet.specs.declared.Day.{Day}
use Rattle.sheet.specs.Fields.{fields_at, fields_of, Each}
use Rattle.sheet.specs.Judgement.{accepts, judge_sheet}
use Rattle.sheet.specs.laws.Walk.{fields-gave, shape-past}
use Rattle.sheet.specs.laws.Led.{Stood, here, then}
use Rattle.sheet.specs.laws.Accepted.{accepted-stood, accepted-sound}
use Rattle.sheet.specs.laws.Passes.{Sofar, sofar-start, sofar-each, sofar-here, sofar-next, sofar-stop}

-- ---- a sheet that fields fill

pub record Filled (s : List ℕ) : Type 0 where
  pub stood : Stood s 0 (fields_of s) (length s)
  pub sound : Each (Sound alone) (fields_of s)

pub accepted-filled : (s : List ℕ) (day : Day) → judge_sheet s ≡ accepts day → Filled s
accepted-filled s day a = record { stood = accepted-stood s day a; sound = accepted-sound s day a }

-- before the end a field stands at a place, and behind it they go on
pub record Here (s : List ℕ) (at : ℕ) : Type 0 where
  pub field : Field
  pub next : ℕ
  pub shape : shape_at s at ≡ gives field next
  pub rest : Stood s next (fields_at s next) (length s)

here-by : (s : List ℕ) (at end : ℕ) (fs : List Field) → Stood s at fs end → fs ≡ fields_at s at → end ≡ length s → at < length s → Here s at
here-by s at end fs here e g l = absurd (omega arith)
here-by s at end fs (then {next = next} {f = f} {fs = more} d t) e g l =
    let same : more ≡ fields_at s next = tail-same (e ∙ fields-gave s at d) in
    record { field = f; next = next; shape = d; rest = rw (sym same, sym g) t }
  where
    tail-same : {a b : Field} {xs ys : List Field} → a ∷ xs ≡ b ∷ ys → xs ≡ ys
    tail-same h = cc

pub here-at : (s : List ℕ) (at : ℕ) → Stood s at (fields_at s at) (length s) → at < length s → Here s at
here-at s at t l = here-by s at (length s) (fields_at s at) t refl refl l

-- by its tag: the head, the place behind it, and its values
module _ (s : List ℕ) (at : ℕ) (h : Here s at) {tag : ℕ} (k : tag ≡ get_or s at 0) where
  shape : Shaped s at h.field h.next
  shape = shaped s at h.field h.next h.shape

  pub here-headed : Headed s at tag
  here-headed = rw k shape.head

  pub here-behind : {n : ℕ} → n ≡ size_of tag → h.next ≡ at + n
  here-behind e = sym shape.behind ∙ ap (λ (x : ℕ). at + size_of x) (sym k) ∙ ap (λ (x : ℕ). at + x) (sym e)

  pub here-inside : {n : ℕ} → n ≡ size_of tag → at + n ≤ length s
  here-inside e = omega (arith, here-headed.whole)

  pub here-is : h.field ≡ field_of tag (body_at s at tag)
  here-is = sym shape.values ∙ ap (λ (x : ℕ). field_of x (body_at s at x)) (sym k)

-- the bytes of a trade and of a quote
pub size-three : {tag : ℕ} → tag ≡ 3 → 14 ≡ size_of tag
size-three e = rw e refl

pub size-four : {tag : ℕ} → tag ≡ 4 → 17 ≡ size_of tag
size-four e = rw e refl

-- ---- what is made of the fields of each instrument

pub record Kept {A : Type 0} (h : ℕ → List Field → A) (d : A) (fs : List Field) (xs : List A) : Type 0 where
  pub long : length xs ≡ 12
  pub each : (i : ℕ) → i < 12 → get_or xs i d ≡ h i fs

-- fields go on by g: what a field does to an instrument's
module _ {A : Type 0} (h : ℕ → List Field → A) (d : A) (g : ℕ → A → Field → A) (goes : (i : ℕ) (fs : List Field) (f : Field) → h i (fs ++ (f ∷ [])) ≡ g i (h i fs) f) where
  module _ {fs : List Field} {xs : List A} (k : Kept h d fs xs) (f : Field) where
    stays : (i : ℕ) → i < 12 → ((x : A) → g i x f ≡ x) → get_or xs i d ≡ h i (fs ++ (f ∷ []))
    stays i l same = k.each i l ∙ sym (goes i fs f ∙ same (h i fs))

    -- a field that does nothing
    pub kept-none : ((i : ℕ) → i < 12 → (x : A) → g i x f ≡ x) → Kept h d (fs ++ (f ∷ [])) xs
    kept-none same = record { long = k.long; each = λ i l. stays i l (same i l) }

    -- a field of one instrument
    module _ (j : ℕ) (on : j < 12) (same : (i : ℕ) → i < 12 → (x : A) → (j ≡ i → ⊥) → g i x f ≡ x) {y : A} (e : y ≡ g j (get_or xs j d) f) where
      at_place : (i : ℕ) → i < 12 → (b : Bool) → eqb j i ≡ b → get_or (set xs j y) i d ≡ h i (fs ++ (f ∷ []))
      at_place i l true t =
          let own = eqb-true j i t in
          rw (sym own) (get_or-set_same xs j y d (omega (arith, k.long)) ∙ e ∙ ap (λ (x : A). g j x f) (k.each j on) ∙ sym (goes j fs f))
      at_place i l false t =
          let other = eqb-false j i t in
          get_or-set_other xs j i y d (λ p. other (sym p)) ∙ stays i l (λ x. same i l x other)

      pub kept-one : Kept h d (fs ++ (f ∷ [])) (set xs j y)
      kept-one = record { long = length-set xs j y ∙ k.long; each = λ i l. at_place i l (eqb j i) refl }

-- ---- the pass

pub record Passing {A : Type 0} (h : ℕ → List Field → A) (d : A) (s : List ℕ) (at : ℕ) (xs : List A) : Type 0 where
  pub before : List Field
  pub sofar : Sofar (λ fs. fs) s at before
  pub kept : Kept h d before xs
  pub stood : Stood s at (fields_at s at) (length s)

module _ {A : Type 0} (h : ℕ → List Field → A) (d : A) (s : List ℕ) where
  pub pass-first : {xs : List A} → Filled s → Kept h d [] xs → Passing h d s 0 xs
  pass-first f k = record { before = []; sofar = sofar-start (λ fs. fs) s refl; kept = k; stood = f.stood }

  module _ (at : ℕ) (xs : List A) (o : Passing h d s at xs) where
    -- behind the last field
    pub pass-last : length s ≤ at → Kept h d (fields_of s) xs
    pass-last l = subst (λ (fs : List Field). Kept h d fs xs) (sofar-stop (λ fs. fs) s at o.before o.sofar {r = Err (record { fault = Bytes; at = at })} (sym (shape-past s at l)) refl) o.kept

    -- the fields before the place are right, and no more than its bytes
    pub pass-sounds : Filled s → Each (Sound alone) o.before
    pass-sounds f = subst⁻¹ (Each (Sound alone)) o.sofar.same (sofar-each (λ fs. fs) s at o.before o.sofar (Sound alone) f.sound)

    pub pass-few : length o.before ≤ length s
    pass-few = rw o.sofar.same (omega (arith, o.sofar.short, o.sofar.within))

    module _ (l : at < length s) where
      pub pass-here : Here s at
      pass-here = here-at s at o.stood l

      pub pass-right : Filled s → Sound alone pass-here.field
      pass-right f = sofar-here (λ fs. fs) s at o.before o.sofar {r = Ok (pass-here.field, pass-here.next)} (sym pass-here.shape) (Sound alone) f.sound refl

      -- behind the field that stands there
      pub pass-next : {tag n : ℕ} → tag ≡ get_or s at 0 → n ≡ size_of tag → {ys : List A} → Kept h d (o.before ++ (pass-here.field ∷ [])) ys → Passing h d s (at + n) ys
      pass-next k e kept = rw (sym (here-behind s at pass-here k e)) (record {
        before = o.before ++ (pass-here.field ∷ []);
        sofar = sofar-next (λ fs. fs) s at o.before o.sofar {r = Ok (pass-here.field, pass-here.next)} (sym pass-here.shape) (λ fs f. fs ++ (f ∷ [])) (λ fs f. refl) refl refl;
        kept = kept;
        stood = pass-here.rest;
      })
