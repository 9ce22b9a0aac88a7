-- Laws of admission: no two answers of the code say the same; which case it is; and what follows where a field was admitted. Assumes nothing.
use Rattle.std.specs.Prelude.{◌≡◌, refl, ℕ, ◌+◌, ◌≤◌, ◌<◌, Bool, true, false, ◌⊎◌, ltb, eqb, Result, Ok, Err}
use Rattle.std.proofs.Common.{sym, ap, ◌∙◌, inl, inr, arith, ltb-true, leb-true, eqb-true, eq-eqb, ne_eqb, lt-ltb}
use Rattle.promise.specs.laws.Once.{through}
use Rattle.admit.specs.declared.Admitted.{Admitted}
use Rattle.admit.specs.declared.Admitted.TheVariants as A
use Rattle.admit.specs.Admitting.{Step, admit_says, ends, goes, stops, before_of, previous_placed, placed, count_number, admit_number, after_header, after_previous, after_record, admitted, admit}
use Rattle.field.specs.declared.Form.{Form}
use Rattle.field.specs.declared.Form.TheVariants.{Short, Long}
use Rattle.field.specs.declared.Before.{Before}
use Rattle.field.specs.declared.Field.{Field}
use Rattle.field.specs.declared.Field.TheVariants.{Header, PreviousClose, Trade, Quote, End}
use Rattle.field.specs.declared.Price.{Price}
use Rattle.field.specs.declared.Fault.{Fault}
use Rattle.field.specs.Said.{fault_number}
use Rattle.field.specs.laws.Said.{fault_of, fault_back, fault-not-fine}
use Rattle.field.specs.Judging.{fine, also, alone, judge}
use Rattle.field.specs.Layout.{form_tag, tag_of}
use Rattle.field.specs.laws.Field.{clash, unless-fine, unless-passed, unless-all, also-fine, also-all, judge-all, both_true}
use Rattle.field.proofs.Sound.{Sound, sound, sound-alone}
use Rattle.admit.specs.declared.Progress.{Progress}

abbrev admit-of : Step → Result Admitted Fault
admit-of (goes q) = Ok (A.Next q)
admit-of ends = Ok A.Ended
admit-of (stops number) = Err (fault_of number)

admit-back : (r : Result Admitted Fault) → admit-of (admit_says r) ≡ r
admit-back (Ok (A.Next q)) = refl
admit-back (Ok A.Ended) = refl
admit-back (Err fault) = ap Err (fault_back fault)

pub admit-once : {d : Step} {x y : Result Admitted Fault} → admit_says x ≡ d → admit_says y ≡ d → x ≡ y
admit-once p q = through admit_says admit-of admit-back p q

-- ---- which case it is

pub admit-fine : (p : Progress) (f : Field) → admit_number p f ≡ fine → admit p f ≡ admitted p f
unfolding admit
admit-fine p f e = simp (eq-eqb (admit_number p f) fine e)

pub admit-not : (p : Progress) (f : Field) → (admit_number p f ≡ fine → ⊥) → admit p f ≡ stops (admit_number p f)
unfolding admit
admit-not p f e = simp (ne_eqb (admit_number p f) fine e)

-- the answer of a field with a fault
pub admit-fault : (p : Progress) (f : Field) (fault : Fault) → fault_number fault ≡ admit_number p f → stops (fault_number fault) ≡ admit p f
admit-fault p f fault e = ap stops e ∙ sym (admit-not p f (rw (sym e) (fault-not-fine fault)))

-- ---- a field that was not stopped

-- it was in its place, its values earned no number, the count was right, and there was room to count it
pub record Passed (p : Progress) (f : Field) : Type 0 where
  pub room : p.count < 1048576
  pub place : placed p f ≡ true
  pub values : judge (before_of p) f ≡ fine
  pub counted : count_number p f ≡ fine

pub passed : (p : Progress) (f : Field) → admit_number p f ≡ fine → Passed p f
unfolding admit_number
passed p f e =
    let u = unless-fine (ltb p.count 1048576) 0 _ e in
    let v = unless-fine (placed p f) 4 _ u.1 in
    let w = also-fine (judge (before_of p) f) (count_number p f) v.1 in
    record { room = ltb-true p.count 1048576 u.0; place = v.0; values = w.0; counted = w.1 }

-- and such a field is taken
pub passed-taken : (p : Progress) (f : Field) → Passed p f → admit p f ≡ admitted p f
unfolding admit_number also
passed-taken p f h =
    let values : also (judge (before_of p) f) (count_number p f) ≡ fine = simp (h.values, h.counted) in
    admit-fine p f
    (unless-passed (ltb p.count 1048576) 1 _ (lt-ltb p.count 1048576 h.room)
    ∙ unless-passed (placed p f) 5 _ h.place
    ∙ values)

-- a step that is not a stop
abbrev Free : Step → Type 0
Free (goes q) = Unit {0}
Free ends = Unit {0}
Free (stops number) = ⊥

free-fine : (p : Progress) (f : Field) (t : Step) → Free t → admit p f ≡ t → (admit_number p f ≡ fine) × (admitted p f ≡ t)
unfolding admit
free-fine p f t ok e = by-test (eqb (admit_number p f) fine) refl
  where
    by-test : (b : Bool) → eqb (admit_number p f) fine ≡ b → (admit_number p f ≡ fine) × (admitted p f ≡ t)
    by-test true h = (eqb-true (admit_number p f) fine h, simp h at e)
    by-test false h = let g : stops (admit_number p f) ≡ t = simp h at e in absurd (rw (sym g) at ok)

pub went : (p : Progress) (f : Field) (q : Progress) → admit p f ≡ goes q → Passed p f × (admitted p f ≡ goes q)
went p f q e = let u = free-fine p f (goes q) tt e in (passed p f u.0, u.1)

pub ended : (p : Progress) (f : Field) → admit p f ≡ ends → Passed p f × (admitted p f ≡ ends)
ended p f e = let u = free-fine p f ends tt e in (passed p f u.0, u.1)

-- a field that is taken is not stopped
taken_free : (p : Progress) (f : Field) (n : ℕ) → admitted p f ≡ stops n → ⊥
unfolding admitted
taken_free p (Header metal marks form) n h = clash cc
taken_free p (PreviousClose instrument price) n h = clash cc
taken_free p (Trade time instrument price lots) n h = clash cc
taken_free p (Quote time instrument sides bid offer) n h = clash cc
taken_free p (End count) n h = clash cc

-- a field that is stopped earned that number
pub stopped : (p : Progress) (f : Field) (n : ℕ) → admit p f ≡ stops n → admit_number p f ≡ n
unfolding admit
stopped p f n e = by-test (eqb (admit_number p f) fine) refl
  where
    by-test : (b : Bool) → eqb (admit_number p f) fine ≡ b → admit_number p f ≡ n
    by-test true h = absurd (taken_free p f n (simp h at e))
    by-test false h = let g : stops (admit_number p f) ≡ stops n = simp h at e in cc

-- ---- what is kept behind a field that was admitted

-- the progress of a step that goes on
abbrev kept_of : Progress → Step → Progress
kept_of p (goes q) = q
kept_of p ends = p
kept_of p (stops number) = p

-- the time behind a field: a record's own, and the one before it behind any other
unfoldable pub time_from : ℕ → Field → ℕ
time_from t (Header metal marks form) = t
time_from t (PreviousClose instrument price) = t
time_from t (Trade time instrument price lots) = time
time_from t (Quote time instrument sides bid offer) = time
time_from t (End count) = t

taken-kept : (p : Progress) (f : Field) (q : Progress) → admitted p f ≡ goes q → (q.count ≡ p.count + 1) × (q.time ≡ time_from p.time f)
unfolding admitted time_from
taken-kept p (Header metal marks form) q e = (ap (λ (x : Step). (kept_of p x).count) (sym e), ap (λ (x : Step). (kept_of p x).time) (sym e))
taken-kept p (PreviousClose instrument price) q e = (ap (λ (x : Step). (kept_of p x).count) (sym e), ap (λ (x : Step). (kept_of p x).time) (sym e))
taken-kept p (Trade time instrument price lots) q e = (ap (λ (x : Step). (kept_of p x).count) (sym e), ap (λ (x : Step). (kept_of p x).time) (sym e))
taken-kept p (Quote time instrument sides bid offer) q e = (ap (λ (x : Step). (kept_of p x).count) (sym e), ap (λ (x : Step). (kept_of p x).time) (sym e))
taken-kept p (End count) q e = clash cc

-- one field more is counted
pub went-counts : (p : Progress) (f : Field) (q : Progress) → admit p f ≡ goes q → q.count ≡ p.count + 1
went-counts p f q e = (taken-kept p f q (went p f q e).1).0

-- and its time, where it is a record, is kept
pub went-times : (p : Progress) (f : Field) (q : Progress) → admit p f ≡ goes q → q.time ≡ time_from p.time f
went-times p f q e = (taken-kept p f q (went p f q e).1).1

-- a record's time is not below the time before
sound-times : (before : Before) (f : Field) → Sound before f → before.time ≤ time_from before.time f
unfolding time_from
sound-times before (Header metal marks form) h = omega arith
sound-times before (PreviousClose instrument price) h = omega arith
sound-times before (Trade time instrument price lots) h = h.stamp.not-before
sound-times before (Quote time instrument sides bid offer) h = h.stamp.not-before
sound-times before (End count) h = omega arith

pub passed-times : (p : Progress) (f : Field) → Passed p f → p.time ≤ time_from p.time f
passed-times p f h = sound-times (before_of p) f (sound (before_of p) f h.values)

-- ---- one header, first

-- what comes first is a header
pub record IsHeader (f : Field) : Type 0 where
  pub metal : ℕ
  pub marks : ℕ
  pub form : Form
  pub is : f ≡ Header metal marks form

pub first-header : (p : Progress) (f : Field) → Passed p f → p.stage ≡ 0 → IsHeader f
unfolding placed previous_placed
first-header p (Header metal marks form) h z = record { metal = metal; marks = marks; form = form; is = refl }
first-header p (PreviousClose instrument price) h z = absurd (omega (arith, eqb-true p.stage 1 (both_true _ _ h.place).0))
first-header p (Trade time instrument price lots) h z = absurd (omega (arith, leb-true 1 p.stage h.place))
first-header p (Quote time instrument sides bid offer) h z = absurd (omega (arith, leb-true 1 p.stage h.place))
first-header p (End count) h z = absurd (omega (arith, leb-true 1 p.stage h.place))

-- and what comes later is none, of either form
abbrev pub Later : Field → Type 0
Later (Header metal marks form) = ⊥
Later (PreviousClose instrument price) = Unit {0}
Later (Trade time instrument price lots) = Unit {0}
Later (Quote time instrument sides bid offer) = Unit {0}
Later (End count) = Unit {0}

pub later-not-header : (p : Progress) (f : Field) → Passed p f → 1 ≤ p.stage → Later f
unfolding placed
later-not-header p (Header metal marks form) h l = omega (arith, eqb-true p.stage 0 h.place)
later-not-header p (PreviousClose instrument price) h l = tt
later-not-header p (Trade time instrument price lots) h l = tt
later-not-header p (Quote time instrument sides bid offer) h l = tt
later-not-header p (End count) h l = tt

-- ---- what is kept

-- a field that goes on is not the end; behind it the header has been; and what the header said stays
pub record Kept (p : Progress) (f : Field) (q : Progress) : Type 0 where
  pub no_end : tag_of f ≡ 5 → ⊥
  pub later : 1 ≤ q.stage
  pub metal-stays : 1 ≤ p.stage → q.metal ≡ p.metal
  pub marks_stay : 1 ≤ p.stage → q.marks ≡ p.marks
  pub form-stays : 1 ≤ p.stage → q.form ≡ p.form

-- no form of a header has the end's tag
no-end-by : (form : Form) → form_tag form ≡ 5 → ⊥
no-end-by Short t = omega arith
no-end-by (Long third) t = omega arith

-- by what the field is
kept_by : (p : Progress) (f : Field) (q : Progress) → Passed p f → admitted p f ≡ goes q → Kept p f q
unfolding admitted placed tag_of
kept_by p (Header metal marks form) q h d =
    let same : after_header p metal marks form ≡ q = cc in
    let none : 1 ≤ p.stage → ⊥ = λ l. omega (arith, eqb-true p.stage 0 h.place) in
    record { no_end = no-end-by form; later = rw (sym same) (omega arith); metal-stays = λ l. absurd (none l); marks_stay = λ l. absurd (none l); form-stays = λ l. absurd (none l) }
kept_by p (PreviousClose instrument price) q h d =
    let same : after_previous p instrument ≡ q = cc in
    record { no_end = λ t. omega arith; later = rw (sym same) (omega arith); metal-stays = λ l. rw (sym same) refl; marks_stay = λ l. rw (sym same) refl; form-stays = λ l. rw (sym same) refl }
kept_by p (Trade time instrument price lots) q h d =
    let same : after_record p time ≡ q = cc in
    record { no_end = λ t. omega arith; later = rw (sym same) (omega arith); metal-stays = λ l. rw (sym same) refl; marks_stay = λ l. rw (sym same) refl; form-stays = λ l. rw (sym same) refl }
kept_by p (Quote time instrument sides bid offer) q h d =
    let same : after_record p time ≡ q = cc in
    record { no_end = λ t. omega arith; later = rw (sym same) (omega arith); metal-stays = λ l. rw (sym same) refl; marks_stay = λ l. rw (sym same) refl; form-stays = λ l. rw (sym same) refl }
kept_by p (End count) q h d = clash cc

pub kept : (p : Progress) (f : Field) (q : Progress) → admit p f ≡ goes q → Kept p f q
kept p f q e = let w = went p f q e in kept_by p f q w.0 w.1

-- behind a header its values are known
pub header-kept : (p : Progress) (metal marks : ℕ) (form : Form) (q : Progress) → admit p (Header metal marks form) ≡ goes q → q ≡ after_header p metal marks form
unfolding admitted
header-kept p metal marks form q e = let d = (went p (Header metal marks form) q e).1 in cc

-- ---- one end, with the right count

ends_by : (p : Progress) (f : Field) → count_number p f ≡ fine → admitted p f ≡ ends → f ≡ End p.count
unfolding count_number admitted
ends_by p (Header metal marks form) h d = clash cc
ends_by p (PreviousClose instrument price) h d = clash cc
ends_by p (Trade time instrument price lots) h d = clash cc
ends_by p (Quote time instrument sides bid offer) h d = clash cc
ends_by p (End count) h d = ap End (eqb-true count p.count (unless-fine (eqb count p.count) 11 fine h).0)

pub end_is : (p : Progress) (f : Field) → admit p f ≡ ends → f ≡ End p.count
end_is p f e = let w = ended p f e in ends_by p f w.0.counted w.1

-- ---- previous closes, rising, before all records

pub close-placed : (p : Progress) (instrument : ℕ) (price : Price) → Passed p (PreviousClose instrument price) → (p.stage ≡ 1) × (p.instrument ≤ instrument)
unfolding placed previous_placed
close-placed p instrument price h = let u = both_true _ _ h.place in (eqb-true p.stage 1 u.0, leb-true p.instrument instrument u.1)

pub close-kept : (p : Progress) (instrument : ℕ) (price : Price) (q : Progress) → admit p (PreviousClose instrument price) ≡ goes q → q ≡ after_previous p instrument
unfolding admitted
close-kept p instrument price q e = let d = (went p (PreviousClose instrument price) q e).1 in cc

-- behind a trade or a quote comes no previous close
record-by : (p : Progress) (f : Field) (q : Progress) → admitted p f ≡ goes q → (tag_of f ≡ 3) ⊎ (tag_of f ≡ 4) → q.stage ≡ 2
unfolding admitted tag_of
record-by p (Header metal marks Short) q d (inl t) = absurd (omega arith)
record-by p (Header metal marks Short) q d (inr t) = absurd (omega arith)
record-by p (Header metal marks (Long third)) q d (inl t) = absurd (omega arith)
record-by p (Header metal marks (Long third)) q d (inr t) = absurd (omega arith)
record-by p (PreviousClose instrument price) q d (inl t) = absurd (omega arith)
record-by p (PreviousClose instrument price) q d (inr t) = absurd (omega arith)
record-by p (Trade time instrument price lots) q d t = let same : after_record p time ≡ q = cc in ap (λ (x : Progress). x.stage) (sym same)
record-by p (Quote time instrument sides bid offer) q d t = let same : after_record p time ≡ q = cc in ap (λ (x : Progress). x.stage) (sym same)
record-by p (End count) q d (inl t) = absurd (omega arith)
record-by p (End count) q d (inr t) = absurd (omega arith)

pub record-kept : (p : Progress) (f : Field) (q : Progress) → admit p f ≡ goes q → (tag_of f ≡ 3) ⊎ (tag_of f ≡ 4) → q.stage ≡ 2
record-kept p f q e t = record-by p f q (went p f q e).1 t

pub late-not-close : (p : Progress) (f : Field) → Passed p f → p.stage ≡ 2 → tag_of f ≡ 2 → ⊥
unfolding tag_of
late-not-close p (Header metal marks Short) h z t = omega arith
late-not-close p (Header metal marks (Long third)) h z t = omega arith
late-not-close p (PreviousClose instrument price) h z t = omega (arith, (close-placed p instrument price h).0)
late-not-close p (Trade time instrument price lots) h z t = omega arith
late-not-close p (Quote time instrument sides bid offer) h z t = omega arith
late-not-close p (End count) h z t = omega arith

pub late-stays : (p : Progress) (f : Field) (q : Progress) → admit p f ≡ goes q → p.stage ≡ 2 → q.stage ≡ 2
unfolding tag_of
late-stays p f q e z = by_field f (went p f q e).0 e
  where
    by_field : (f : Field) → Passed p f → admit p f ≡ goes q → q.stage ≡ 2
    by_field (Header metal marks form) h e = absurd (later-not-header p (Header metal marks form) h (omega arith))
    by_field (PreviousClose instrument price) h e = absurd (late-not-close p (PreviousClose instrument price) h z refl)
    by_field (Trade time instrument price lots) h e = record-kept p (Trade time instrument price lots) q e (inl refl)
    by_field (Quote time instrument sides bid offer) h e = record-kept p (Quote time instrument sides bid offer) q e (inr refl)
    by_field (End count) h e = absurd ((kept p (End count) q e).no_end refl)

-- ---- a field that passed is in its ranges

pub passed-sound : (p : Progress) (f : Field) → Passed p f → Sound alone f
passed-sound p f h = sound-alone (before_of p) f (sound (before_of p) f h.values)

-- an end that passed counts the fields before it
pub passed-count : (p : Progress) (count : ℕ) → Passed p (End count) → count ≡ p.count
unfolding count_number
passed-count p count h = eqb-true count p.count (unless-fine (eqb count p.count) 11 fine h.counted).0

-- ---- the numbers that a field in its turn can earn

count-all : (P : ℕ → Type 0) → P fine → P 12 → (p : Progress) (f : Field) → P (count_number p f)
unfolding count_number
count-all P z p12 p (Header metal marks form) = z
count-all P z p12 p (PreviousClose instrument price) = z
count-all P z p12 p (Trade time instrument price lots) = z
count-all P z p12 p (Quote time instrument sides bid offer) = z
count-all P z p12 p (End count) = unless-all P (eqb count p.count) p12 z

pub admit-all : (P : ℕ → Type 0) → P fine → P 5 → P 6 → P 7 → P 8 → P 9 → P 10 → P 11 → P 12 → P 18 → (p : Progress) (f : Field) → p.count < 1048576 → P (admit_number p f)
unfolding admit_number
admit-all P z p5 p6 p7 p8 p9 p10 p11 p12 p18 p f room =
    rw (unless-passed (ltb p.count 1048576) 1 _ (lt-ltb p.count 1048576 room))
    (unless-all P (placed p f) p5 (also-all P (judge (before_of p) f) (count_number p f) (judge-all P z p6 p7 p8 p9 p10 p11 p18 (before_of p) f) (count-all P z p12 p f)))
