-- A sheet stays accepted where fields change and stay right in their places, and the header gets other marks or another form with the same third value.
--     Stays            a change of a field that leaves it in its place;  Right    and one that leaves its values right
--     chain-changed    such fields lead to the end as before
--     right-changed    a change that keeps an instrument's prices in their ranges is one
--     headed-accepted  the sheet of such fields is accepted, and its fields are those;  changed-accepted    so with other prices of one instrument
-- Assumes nothing.
use Rattle.std.specs.Prelude.{ℕ, ◌+◌, ◌≤◌, ◌≡◌, Bool, true, false, cond, ltb, eqb, length}
use Rattle.std.proofs.Math.Path.{refl, sym, ap, ap₂}
use Rattle.std.proofs.Common.{subst, ◌∙◌, arith, lt-ltb, eqb-true, length-append}
use mathlib.Core.List.{List, [], ◌∷◌, map}
use Rattle.wire.specs.Big.{Bytes}
use Rattle.field.specs.declared.Price.{Price}
use Rattle.field.specs.declared.Form.{Form}
use Rattle.field.specs.declared.Before.{Before}
use Rattle.field.specs.declared.Field.{Field}
use Rattle.field.specs.declared.Field.TheVariants.{Header, PreviousClose, Trade, Quote, End}
use Rattle.field.specs.Judging.{fine, third_of, header_right, price_right, alone, judge, also}
use Rattle.field.specs.Layout.{form_tag, tag_of, size_of}
use Rattle.field.specs.laws.Field.{clash, unless-passed, body-length}
use Rattle.field.proofs.Sound.{Sound, SoundQuote, sound, judge-sound}
use Rattle.admit.specs.declared.Progress.{Progress}
use Rattle.admit.specs.Admitting.{start, before_of, previous_placed, placed, count_number, admit_number, Step, goes, ends, stops, admitted, admit, after_header}
use Rattle.admit.specs.laws.Admitting.{Passed, went, ended, kept, Later, later-not-header, header-kept, end_is, admit-fine}
use Rattle.sheet.specs.declared.Day.{Day}
use Rattle.sheet.specs.Fields.{fields_of, encode, Each}
use Rattle.sheet.specs.Judgement.{accepts, judge_sheet}
use Rattle.sheet.specs.laws.Accepted.{Chain, last, more, accepted-chain, accepted-header, accepted-small}
use Rattle.sheet.specs.laws.Encoding.{accepted-encodes, encoded-accepted}
use Rattle.field.specs.Repriced.{concerns, changed, Sides, repriced}

-- what holds of a changed field and of the field itself holds of the change at one instrument
pub changed-all : (P : Field → Type 0) (i : ℕ) (g : Field → Field) (f : Field) → P (g f) → P f → P (changed i g f)
changed-all P i g f there here = by-test (concerns i f)
  where
    by-test : (b : Bool) → P (cond b (g f) f)
    by-test true = there
    by-test false = here

-- other marks and another form of the header: what is kept behind a field, and what is told of the day
abbrev headed_by : ℕ → Form → Progress → Progress
headed_by m form p = record { stage = p.stage; metal = p.metal; marks = m; form = form; instrument = p.instrument; time = p.time; count = p.count }

abbrev pub day_with : ℕ → Form → Day → Day
day_with m form day = record { metal = day.metal; marks = m; form = form; fields = day.fields }

abbrev step_with : ℕ → Form → Step → Step
step_with m form (goes q) = goes (headed_by m form q)
step_with m form ends = ends
step_with m form (stops number) = stops number

-- ---- one field

-- a field that passes earns no number
passed-fine : (p : Progress) (f : Field) → Passed p f → admit_number p f ≡ fine
unfolding admit_number also
passed-fine p f h =
    unless-passed (ltb p.count 1048576) 1 _ (lt-ltb p.count 1048576 h.room)
    ∙ unless-passed (placed p f) 5 _ h.place
    ∙ simp h.values h.counted

-- it stands where another does, and goes on as that does, but for what the header said
pub record AsBefore (m : ℕ) (form : Form) (p : Progress) (f g : Field) : Type 0 where
  place : placed (headed_by m form p) g ≡ placed p f
  counted : count_number (headed_by m form p) g ≡ count_number p f
  goes_on : admitted (headed_by m form p) g ≡ step_with m form (admitted p f)

module _ (m : ℕ) (said : Form) (p : Progress) where
  before_self : (f : Field) → Later f → AsBefore m said p f f
  unfolding placed previous_placed count_number admitted
  before_self (Header metal marks form) h = absurd h
  before_self (PreviousClose instrument price) h = record { place = refl; counted = refl; goes_on = refl }
  before_self (Trade time instrument price lots) h = record { place = refl; counted = refl; goes_on = refl }
  before_self (Quote time instrument sides bid offer) h = record { place = refl; counted = refl; goes_on = refl }
  before_self (End count) h = record { place = refl; counted = refl; goes_on = refl }

  before-repriced : (r : Price → Price) (q : ℕ → Price → Price → Sides) (f : Field) → Later f → AsBefore m said p f (repriced r q f)
  unfolding placed previous_placed count_number admitted
  before-repriced r q (Header metal marks form) h = absurd h
  before-repriced r q (PreviousClose instrument price) h = record { place = refl; counted = refl; goes_on = refl }
  before-repriced r q (Trade time instrument price lots) h = record { place = refl; counted = refl; goes_on = refl }
  before-repriced r q (Quote time instrument sides bid offer) h = record { place = refl; counted = refl; goes_on = refl }
  before-repriced r q (End count) h = record { place = refl; counted = refl; goes_on = refl }

-- what an admission made of a field, it makes of the field changed
admit-before : (m : ℕ) (form : Form) (p : Progress) (f g : Field) (t : Step) → third_of form ≡ third_of p.form → AsBefore m form p f g → Passed p f → admitted p f ≡ t → judge (before_of p) g ≡ fine → admit (headed_by m form p) g ≡ step_with m form t
admit-before m form p f g t same b h e right =
    let values : judge (before_of (headed_by m form p)) g ≡ fine = ap (λ (third : ℕ). judge (record { third = third; time = p.time }) g) same ∙ right in
    let ok : Passed (headed_by m form p) g = record { room = h.room; place = b.place ∙ h.place; values = values; counted = b.counted ∙ h.counted } in
    admit-fine (headed_by m form p) g (passed-fine (headed_by m form p) g ok) ∙ b.goes_on ∙ ap (step_with m form) e

-- a right header comes first
admit-header : (metal m : ℕ) (form : Form) → header_right metal m (third_of form) ≡ true → admit start (Header metal m form) ≡ goes (after_header start metal m form)
unfolding placed count_number admitted
admit-header metal m form right = admit-fine start (Header metal m form) (passed-fine start (Header metal m form) (record { room = omega arith; place = refl; values = judge-sound alone (Header metal m form) right; counted = refl }))

-- ---- a list of fields

-- the bytes of one field, then those of the rest
field-more : (f : Field) (fs : List Field) → length (encode (f ∷ fs)) ≡ size_of (tag_of f) + length (encode fs)
unfolding encode
field-more f fs = simp (length-append, body-length f) (omega arith)

-- a change leaves a field behind the header in its place
abbrev pub Stays : (Field → Field) → Type 0
Stays g = (m : ℕ) (form : Form) (p : Progress) (f : Field) → Later f → AsBefore m form p f (g f)

-- it leaves a field's values right
abbrev pub Right : (Field → Field) → Field → Type 0
Right g f = (before : Before) → judge before f ≡ fine → judge before (g f) ≡ fine

-- no change is one
pub same-stays : Stays (λ f. f)
same-stays m form p f h = before_self m form p f h

module _ (g : Field → Field) (stays : Stays g) (m : ℕ) (new : Form) where
  -- one field behind the header
  admit-changed : {p : Progress} {f : Field} {t : Step} → 1 ≤ p.stage → third_of new ≡ third_of p.form → Passed p f → admitted p f ≡ t → Right g f → admit (headed_by m new p) (g f) ≡ step_with m new t
  admit-changed {p} {f} {t} l same u e h = admit-before m new p f (g f) t same (stays m new p f (later-not-header p f u l)) u e (h (before_of p) u.values)

  chain-changed : {p : Progress} {fs : List Field} {day : Day} → Chain p fs day → 1 ≤ p.stage → third_of new ≡ third_of p.form → Each (Right g) fs → Chain (headed_by m new p) (map g fs) (day_with m new day)
  chain-changed (last {p = p} {f = f} e) l same h = let u = ended p f e in last (admit-changed l same u.0 u.1 h.0)
  chain-changed (more {p = p} {q = to} {f = f} e c) l same h =
      let u = went p f to e in
      let k = kept p f to e in
      more (admit-changed l same u.0 u.1 h.0) (chain-changed c k.later (same ∙ ap third_of (sym (k.form-stays l))) h.1)

  -- behind a right header with these marks, in this form
  chain-headed : (metal marks : ℕ) (form : Form) (rest : List Field) (day : Day) → third_of new ≡ third_of form → header_right metal m (third_of new) ≡ true → Chain start (Header metal marks form ∷ rest) day → Each (Right g) rest
      → Chain start (Header metal m new ∷ map g rest) (day_with m new day)
  chain-headed metal marks form rest day same right (last e) h = let z : Header metal marks form ≡ End start.count = end_is start (Header metal marks form) e in clash cc
  chain-headed metal marks form rest day same right (more {q = to} {fs = fs} e c) h =
      let behind = header-kept start metal marks form to e in
      more
      (admit-header metal m new right)
      (subst (λ (p : Progress). Chain (headed_by m new p) (map g fs) (day_with m new day)) behind (chain-changed c (kept start (Header metal marks form) to e).later (same ∙ ap (λ (p : Progress). third_of p.form) (sym behind)) h))

module _ (i : ℕ) (r : Price → Price) (q : ℕ → Price → Price → Sides) where
  -- the change of the fields of instrument i
  abbrev change : Field → Field
  change f = changed i (repriced r q) f

  change-stays : Stays change
  change-stays m form p f h = changed-all (AsBefore m form p f) i (repriced r q) f (before-repriced m form p r q f h) (before_self m form p f h)

  -- such fields have the same tags, and as many bytes
  pub tag_same : (f : Field) → tag_of (change f) ≡ tag_of f
  unfolding tag_of
  tag_same f = changed-all (λ g. tag_of g ≡ tag_of f) i (repriced r q) f (repriced-tag f) refl
    where
      repriced-tag : (f : Field) → tag_of (repriced r q f) ≡ tag_of f
      repriced-tag (Header metal marks form) = refl
      repriced-tag (PreviousClose instrument price) = refl
      repriced-tag (Trade time instrument price lots) = refl
      repriced-tag (Quote time instrument sides bid offer) = refl
      repriced-tag (End count) = refl

  bytes_same : (fs : List Field) → length (encode (map change fs)) ≡ length (encode fs)
  unfolding encode
  bytes_same [] = refl
  bytes_same (f ∷ fs) = field-more (change f) (map change fs) ∙ ap₂ (λ (tag n : ℕ). size_of tag + n) (tag_same f) (bytes_same fs) ∙ sym (field-more f fs)

  header-same : (metal marks m : ℕ) (form : Form) (rest : List Field) → length (encode (Header metal m form ∷ map change rest)) ≡ length (encode (Header metal marks form ∷ rest))
  unfolding tag_of
  header-same metal marks m form rest = field-more (Header metal m form) (map change rest) ∙ ap (λ (n : ℕ). size_of (form_tag form) + n) (bytes_same rest) ∙ sym (field-more (Header metal marks form) rest)

-- ---- values that stay right

-- the change leaves right what is right of instrument i; Ok says what else has to hold of a field
module _ (i : ℕ) (r : Price → Price) (q : ℕ → Price → Price → Sides) (Ok : Field → Type 0)
    (close : (price : Price) → Ok (PreviousClose i price) → price_right i price ≡ true → price_right i (r price) ≡ true)
    (trade : (time : ℕ) (price : Price) (lots : ℕ) → Ok (Trade time i price lots) → price_right i price ≡ true → price_right i (r price) ≡ true)
    (quote : (before : Before) (time sides : ℕ) (bid offer : Price) → Ok (Quote time i sides bid offer) → SoundQuote before time i sides bid offer
    → SoundQuote before time i (q sides bid offer).sides (q sides bid offer).bid (q sides bid offer).offer) where
  sound-changed : (before : Before) (f : Field) → Ok f → Sound before f → Sound before (changed i (repriced r q) f)
  sound-changed before (Header metal marks form) ok h = h
  sound-changed before (PreviousClose instrument price) ok h = by-test (eqb instrument i) refl
    where
      by-test : (b : Bool) → eqb instrument i ≡ b → Sound before (cond b (PreviousClose instrument (r price)) (PreviousClose instrument price))
      by-test true e = let z = eqb-true instrument i e in (h.0, rw z (close price (rw z at ok) (rw z at h.1)))
      by-test false e = h
  sound-changed before (Trade time instrument price lots) ok h = by-test (eqb instrument i) refl
    where
      by-test : (b : Bool) → eqb instrument i ≡ b → Sound before (cond b (Trade time instrument (r price) lots) (Trade time instrument price lots))
      by-test true e = let z = eqb-true instrument i e in record { stamp = h.stamp; price-in = rw z (trade time price lots (rw z at ok) (rw z at h.price-in)); some = h.some; most = h.most }
      by-test false e = h
  sound-changed before (Quote time instrument sides bid offer) ok h = by-test (eqb instrument i) refl
    where
      by-test : (b : Bool) → eqb instrument i ≡ b → Sound before (cond b (repriced r q (Quote time instrument sides bid offer)) (Quote time instrument sides bid offer))
      by-test true e = let z = eqb-true instrument i e in rw z (quote before time sides bid offer (rw z at ok) (rw z at h))
      by-test false e = h
  sound-changed before (End count) ok h = tt

  pub right-changed : (fs : List Field) → Each Ok fs → Each (Right (changed i (repriced r q))) fs
  right-changed [] h = tt
  right-changed (f ∷ fs) h = ((λ before e. judge-sound before (changed i (repriced r q) f) (sound-changed before f h.0 (sound before f e))), right-changed fs h.1)

-- ---- a sheet

-- an accepted sheet with another header, and with other fields behind it
module _ (s : List ℕ) (day : Day) (a : judge_sheet s ≡ accepts day) where
  -- its fields behind the header
  abbrev pub rest_of : List Field
  rest_of = (accepted-header s day a).rest

  module _ (g : Field → Field) (m : ℕ) (new : Form) where
    abbrev headedFields : List Field
    headedFields = Header day.metal m new ∷ map g rest_of

    pub headed-accepted : Stays g → third_of new ≡ third_of day.form → header_right day.metal m (third_of new) ≡ true → Each (Right g) rest_of → length (encode headedFields) ≤ 1048576
        → (judge_sheet (encode headedFields) ≡ accepts (day_with m new day)) × (fields_of (encode headedFields) ≡ headedFields)
    headed-accepted stays same right h small =
        let chain : Chain start (Header day.metal day.marks day.form ∷ rest_of) day = subst (λ (fs : List Field). Chain start fs day) (accepted-header s day a).is (accepted-chain s day a) in
        encoded-accepted headedFields (day_with m new day) (chain-headed g stays m new day.metal day.marks day.form rest_of day same right chain h) small

-- with other marks, and with other prices of one instrument
module _ (s : List ℕ) (day : Day) (b : Bytes s) (a : judge_sheet s ≡ accepts day) (i : ℕ) (r : Price → Price) (q : ℕ → Price → Price → Sides) (m : ℕ) where
  abbrev pub changedFields : List Field
  changedFields = Header day.metal m day.form ∷ map (changed i (repriced r q)) (rest_of s day a)

  pub changed-accepted : header_right day.metal m (third_of day.form) ≡ true → Each (Right (changed i (repriced r q))) (rest_of s day a) → (judge_sheet (encode changedFields) ≡ accepts (day_with m day.form day)) × (fields_of (encode changedFields) ≡ changedFields)
  changed-accepted right h =
      let rest = rest_of s day a in
      let same : s ≡ encode (Header day.metal day.marks day.form ∷ rest) = accepted-encodes s day b a ∙ ap encode (accepted-header s day a).is in
      let long : length (encode changedFields) ≡ length (encode (Header day.metal day.marks day.form ∷ rest)) = header-same i r q day.metal day.marks m day.form rest in
      headed-accepted s day a (changed i (repriced r q)) m day.form (change-stays i r q) refl right h (omega (arith, accepted-small s day a, long, ap length same))
