-- Laws of the walk over a sheet: the reads from a place on are the read there with the reads behind it. How often to read is spoken of here
-- alone.
--     reads-step, fields-gave, fields-stop    one step of the walk
--     walk-ind                                 induction along it, for what is proved of whole sheets
--     less-read                                what falls with each turn of a loop over a sheet
-- Assumes nothing.
use Rattle.std.specs.Prelude.{ℕ, zero, suc, ◌-◌, ◌<◌, ◌≤◌, ◌≡◌, refl, List, [], ◌∷◌, length, get_or, Result, Ok, Err}
use Rattle.std.proofs.Common.{sym, ◌∙◌, ap, arith}
use Rattle.field.specs.declared.Field.{Field}
use Rattle.field.specs.declared.Refusal.{Refusal}
use Rattle.field.specs.Said.{Said, gives, refuses, fault_number, read_says}
use Rattle.field.specs.Reading.{head_number, shape_at}
use Rattle.field.specs.laws.Field.{shape-inside, shape-not, head-short}
use Rattle.sheet.specs.Fields.{behind, reads_from, reads_at, fields_in, fields_at}

-- a field that stands at a place ends behind it, and within the sheet
pub shape-grows : (s : List ℕ) (at : ℕ) {f : Field} {next : ℕ} → shape_at s at ≡ gives f next → (at < next) × (next ≤ length s)
shape-grows s at {f} {next} e = let i = shape-inside s at f next e in (omega (arith, i.head), i.body)

-- what is read behind goes by what stands behind
behind-same : (s : List ℕ) (at : ℕ) (g h : ℕ → List (Said Field)) → ((next : ℕ) → at < next → next ≤ length s → g next ≡ h next)
    → (r : Said Field) → shape_at s at ≡ r → behind r g ≡ behind r h
unfolding behind
behind-same s at g h same (gives f next) e = let w = shape-grows s at e in same next w.0 w.1
behind-same s at g h same (refuses number place) e = refl

-- more reads than bytes are left are enough
enough : (s : List ℕ) (k j at : ℕ) → length s - at < k → length s - at < j → reads_from k s at ≡ reads_from j s at
unfolding reads_from
enough s zero j at hk hj = absurd (omega arith)
enough s (suc k) zero at hk hj = absurd (omega arith)
enough s (suc k) (suc j) at hk hj =
    ap (λ (l : List (Said Field)). shape_at s at ∷ l)
    (behind-same s at (reads_from k s) (reads_from j s) (λ next a b. enough s k j next (omega arith) (omega arith)) (shape_at s at) refl)

pub reads-step : (s : List ℕ) (at : ℕ) → reads_at s at ≡ shape_at s at ∷ behind (shape_at s at) (reads_at s)
unfolding reads_at reads_from
reads-step s at =
    ap (λ (l : List (Said Field)). shape_at s at ∷ l)
    (behind-same s at (reads_from (length s - at) s) (reads_at s) (λ next a b. enough s (length s - at) (suc (length s - next)) next (omega arith) (omega arith)) (shape_at s at) refl)

pub reads-gave : (s : List ℕ) (at : ℕ) {f : Field} {next : ℕ} → shape_at s at ≡ gives f next → reads_at s at ≡ gives f next ∷ reads_at s next
unfolding behind
reads-gave s at e = reads-step s at ∙ rw e

pub reads-stop : (s : List ℕ) (at : ℕ) {number place : ℕ} → shape_at s at ≡ refuses number place → reads_at s at ≡ refuses number place ∷ []
unfolding behind
reads-stop s at e = reads-step s at ∙ rw e

-- the same of the fields alone
pub fields-gave : (s : List ℕ) (at : ℕ) {f : Field} {next : ℕ} → shape_at s at ≡ gives f next → fields_at s at ≡ f ∷ fields_at s next
unfolding fields_at fields_in
fields-gave s at e = ap fields_in (reads-gave s at e)

pub fields-stop : (s : List ℕ) (at : ℕ) {number place : ℕ} → shape_at s at ≡ refuses number place → fields_at s at ≡ []
unfolding fields_at fields_in
fields-stop s at e = ap fields_in (reads-stop s at e)

-- induction along the walk
pub walk-ind : (s : List ℕ) (P : ℕ → Type 0) → ((at number place : ℕ) → shape_at s at ≡ refuses number place → P at)
    → ((at : ℕ) (f : Field) (next : ℕ) → shape_at s at ≡ gives f next → P next → P at) → (at : ℕ) → P at
walk-ind s P stop step at = within (suc (length s - at)) at (omega arith)
  where
    split : (k at : ℕ) (r : Said Field) → shape_at s at ≡ r → ((next : ℕ) → length s - next < k → P next) → length s - at < suc k → P at
    split k at (refuses number place) e rest h = stop at number place e
    split k at (gives f next) e rest h = let g = shape-grows s at e in step at f next e (rest next (omega arith))

    within : (k at : ℕ) → length s - at < k → P at
    within zero at h = absurd (omega arith)
    within (suc k) at h = split k at (shape_at s at) refl (within k) h

-- what a call of `shape_at` and the case it was found to be say together
pub read-gave : (s : List ℕ) (at : ℕ) {r : Result (Field × ℕ) Refusal} {f : Field} {next : ℕ} → read_says r ≡ shape_at s at → r ≡ Ok (f, next) → shape_at s at ≡ gives f next
read-gave s at e d = sym e ∙ ap read_says d

pub read-stopped : (s : List ℕ) (at : ℕ) {r : Result (Field × ℕ) Refusal} {refusal : Refusal} → read_says r ≡ shape_at s at → r ≡ Err refusal → shape_at s at ≡ refuses (fault_number refusal.fault) refusal.at
read-stopped s at e d = sym e ∙ ap read_says d

-- the bytes that are left: the measure of every loop over a sheet, and fewer behind a field
abbrev pub left : List ℕ → ℕ → ℕ
left s at = length s - at

pub less-read : (s : List ℕ) (at : ℕ) {r : Result (Field × ℕ) Refusal} {f : Field} {next : ℕ} → read_says r ≡ shape_at s at → r ≡ Ok (f, next) → left s next < left s at
less-read s at e d = let g = shape-grows s at (read-gave s at e d) in omega arith

-- at the sheet's end and past it nothing stands
pub shape-past : (s : List ℕ) (at : ℕ) → length s ≤ at → shape_at s at ≡ refuses 2 at
shape-past s at h =
    let two : head_number s at (get_or s at 0) ≡ 2 = head-short s at (get_or s at 0) (omega arith) in
    shape-not s at (λ e. omega arith) ∙ ap (λ (n : ℕ). refuses n at) two
