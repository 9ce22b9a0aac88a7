-- Fields that are admitted one after the other, and that stand one after the other in a sheet.
--     Led           the fields lead from one progress to another, none of them the end
--     Stood         the fields stand in the sheet from one place to another
--     led-judges, stood-fields     judging and listing go on behind such fields
--     stood-bytes, bytes-stood     fields that stand there are their bytes, and the other way round
-- Assumes nothing.
use Rattle.std.specs.Prelude.{ℕ, ◌+◌, ◌≤◌, ◌≡◌, refl, List, [], ◌∷◌, ◌++◌, length, drop}
use Rattle.std.proofs.Common.{sym, ◌∙◌, ap, append_assoc, append-nil, arith, length-append, take-append-drop, drop-drop}
use Rattle.wire.specs.Big.{Bytes}
use Rattle.field.specs.declared.Field.{Field}
use Rattle.field.specs.declared.Field.TheVariants.{Header, PreviousClose, Trade, Quote, End}
use Rattle.field.specs.Layout.{field_bytes}
use Rattle.field.specs.Said.{gives}
use Rattle.field.specs.Reading.{shape_at}
use Rattle.field.specs.Writing.{field_size}
use Rattle.field.specs.laws.Field.{field-length}
use Rattle.trips.specs.Held.{Held, Counted}
use Rattle.trips.specs.laws.Held.{held}
use Rattle.trips.specs.laws.Stands.{shape-there, shape-stands}
use Rattle.admit.specs.declared.Progress.{Progress}
use Rattle.admit.specs.Admitting.{before_of, goes, admit}
use Rattle.admit.specs.laws.Admitting.{Passed, went, passed-count}
use Rattle.sheet.specs.Fields.{reads_at, fields_at, encode, Each}
use Rattle.sheet.specs.Judgement.{after, judge_reads}
use Rattle.sheet.specs.laws.Walk.{shape-grows, reads-gave, fields-gave}

-- each field is admitted behind those before it, and goes on
pub data Led : Progress → List Field → Progress → Type 0 where
  none : {p : Progress} → Led p [] p
  one : {p q r : Progress} {f : Field} {fs : List Field} → admit p f ≡ goes q → Led q fs r → Led p (f ∷ fs) r

pub led-more : {p q r : Progress} {fs : List Field} (f : Field) → Led p fs q → admit q f ≡ goes r → Led p (fs ++ (f ∷ [])) r
led-more f none e = one e none
led-more f (one d l) e = one d (led-more f l e)

-- each field stands where the one before it ends
pub data Stood (s : List ℕ) : ℕ → List Field → ℕ → Type 0 where
  here : {at : ℕ} → Stood s at [] at
  then : {at next end : ℕ} {f : Field} {fs : List Field} → shape_at s at ≡ gives f next → Stood s next fs end → Stood s at (f ∷ fs) end

pub stood-more : {s : List ℕ} {at next end : ℕ} {fs : List Field} {f : Field} → Stood s at fs next → shape_at s next ≡ gives f end → Stood s at (fs ++ (f ∷ [])) end
stood-more here e = then e here
stood-more (then d l) e = then d (stood-more l e)

-- a field has a byte or more, so that no more fields than bytes stand between two places
pub stood-long : {s : List ℕ} {at next : ℕ} {fs : List Field} → Stood s at fs next → at + length fs ≤ next
stood-long here = omega arith
stood-long {s} {at} (then d t) = omega (arith, shape-grows s at d, stood-long t)

-- ---- judging and listing go on behind them

pub led-judges : {s : List ℕ} (n : ℕ) {at next : ℕ} {p q : Progress} {fs : List Field} → Led p fs q → Stood s at fs next → judge_reads n at p (reads_at s at) ≡ judge_reads n next q (reads_at s next)
unfolding judge_reads after
led-judges n none here = refl
led-judges {s} n {at} (one {p = p} {q = q} e l) (then d t) = ap (judge_reads n at p) (reads-gave s at d) ∙ rw e (led-judges n l t)

pub stood-fields : {s : List ℕ} {at next : ℕ} {fs : List Field} → Stood s at fs next → fields_at s at ≡ fs ++ fields_at s next
stood-fields here = refl
stood-fields {s} {at} (then {f = f} d t) = fields-gave s at d ∙ ap (λ (l : List Field). f ∷ l) (stood-fields t)

-- ---- fields that stand there are their bytes

pub stood-bytes : (s : List ℕ) → Bytes s → {at next : ℕ} {fs : List Field} → Stood s at fs next → drop at s ≡ encode fs ++ drop next s
unfolding encode
stood-bytes s b here = refl
stood-bytes s b {at} (then {next = next} {end = end} {f = f} {fs = fs} d t) =
    let st = shape-stands s at f next b d in
    sym (take-append-drop (field_size f) (drop at s))
    ∙ rw (← st.bytes, drop-drop (field_size f) at s, st.behind)
    (ap (λ (l : List ℕ). field_bytes f ++ l) (stood-bytes s b t) ∙ sym (append_assoc (field_bytes f) (encode fs) (drop end s)))

-- ---- and where their bytes stand, they do

pub bytes-stood : (pre : List ℕ) (fs : List Field) (rest : List ℕ) → Each Held fs → Stood (pre ++ (encode fs ++ rest)) (length pre) fs (length (pre ++ encode fs))
unfolding encode
bytes-stood pre [] rest h = rw (append-nil pre) here
bytes-stood pre (f ∷ fs) rest h =
    let b = field_bytes f in
    let grouped : pre ++ ((b ++ encode fs) ++ rest) ≡ pre ++ (b ++ (encode fs ++ rest)) = simp append_assoc in
    let moved : pre ++ (b ++ (encode fs ++ rest)) ≡ (pre ++ b) ++ (encode fs ++ rest) = simp append_assoc in
    let place : length pre + field_size f ≡ length (pre ++ b) = sym (length-append pre b ∙ ap (λ (n : ℕ). length pre + n) (field-length f)) in
    let end : length ((pre ++ b) ++ encode fs) ≡ length (pre ++ (b ++ encode fs)) = ap length (append_assoc pre b (encode fs)) in
    let tail : Stood (pre ++ (b ++ (encode fs ++ rest))) (length (pre ++ b)) fs (length ((pre ++ b) ++ encode fs)) = rw moved (bytes-stood (pre ++ b) fs rest h.1) in
    rw (grouped, ← end) (then (shape-there pre (encode fs ++ rest) f h.0 ∙ ap (gives f) place) tail)

-- ---- a field that passed fits its bytes

passed_counted : (p : Progress) (f : Field) → Passed p f → Counted f
passed_counted p (Header metal marks form) h = tt
passed_counted p (PreviousClose instrument price) h = tt
passed_counted p (Trade time instrument price lots) h = tt
passed_counted p (Quote time instrument sides bid offer) h = tt
passed_counted p (End count) h = omega (arith, passed-count p count h, h.room)

pub passed-held : (p : Progress) (f : Field) → Passed p f → Held f
passed-held p f h = held (before_of p) f (passed_counted p f h) h.values

pub led-held : {p q : Progress} {fs : List Field} → Led p fs q → Each Held fs
led-held none = tt
led-held (one {p = p} {q = q} {f = f} e l) = (passed-held p f (went p f q e).0, led-held l)
