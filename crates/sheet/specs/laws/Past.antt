-- Laws of going past right fields: a header of either form, then closes, then records, each found by its bytes alone, and then a right end.
--     Opened    on the way, behind the header, no record yet
--     Nearly    on the way as soon as the last time is one of the day: times never fall, so then all before it are
-- The premises are the facts as they stand in the code. Assumes nothing.
use Rattle.std.specs.Prelude.{ℕ, ◌+◌, ◌<◌, ◌≤◌, ◌≡◌, Bool, List, ◌⊎◌, leb, eqb, length, get_or, take, drop, Option, Some, None}
use Rattle.std.proofs.Math.Path.{refl, sym, ap}
use Rattle.std.proofs.Common.{◌∙◌, inl, inr, arith, le-leb, eq-eqb, eqb-true, Fits}
use Rattle.std.proofs.Math.Bool.{true, false, cond}
use Rattle.std.proofs.lemmas.Bool.{eqb-false}
use Rattle.std.specs.Int.{w64}
use Rattle.wire.specs.Big.{be2_at, be4_at}
use Rattle.field.specs.declared.Form.{Form}
use Rattle.field.specs.declared.Form.TheVariants.{Short, Long}
use Rattle.field.specs.declared.Before.{Before}
use Rattle.field.specs.declared.Field.{Field}
use Rattle.field.specs.Said.{gives}
use Rattle.field.specs.Judging.{fine, both, third_of, allowed, judge}
use Rattle.field.specs.Layout.{tag_right, length_of, size_of, field_of}
use Rattle.field.specs.Reading.{body_at, shape_at}
use Rattle.field.specs.laws.Field.{clash, both_true, unless-passed}
use Rattle.field.specs.laws.Standing.{stands, stands-whole, Stood, stood, stood-shape, field_at, body-number, body-first, body-second, body-fourth, body-fifth}
use Rattle.right_field.specs.laws.Right.{untimed, right_at, Right, right, InTime, Timely, timed}
use Rattle.admit.specs.declared.Progress.{Progress}
use Rattle.admit.specs.Admitting.{start, before_of, previous_placed, placed, count_number, after_header, after_previous, after_record, goes, admitted, admit}
use Rattle.admit.specs.laws.Admitting.{passed-taken}
use Rattle.sheet.specs.Judgement.{Verdict, at_end, judge_sheet}
use Rattle.sheet.specs.laws.Walk.{left, shape-grows}
use Rattle.sheet.specs.laws.Track.{OnTrack, at-start, on_room, on-last, on-next}

-- a field whose values earn no number is taken where it has its place
takes : (p : Progress) (f : Field) → p.count < 1048576 → judge (before_of p) f ≡ fine → placed p f ≡ true → count_number p f ≡ fine → admit p f ≡ admitted p f
takes p f room values place counted = passed-taken p f (record { room = room; place = place; values = values; counted = counted })

-- the bytes of a right field are in the sheet
pub right-whole : (s : List ℕ) (at tag : ℕ) {t : Bool} → t ≡ right_at s at tag → t ≡ true → at + size_of tag ≤ length s
right-whole s at tag e h = stands-whole s at tag refl (both_true (stands s at tag) _ (sym e ∙ h)).0

-- two tests one after the other, as the code has them
module _ (a b : Bool) {t : Bool} (e : t ≡ a) where
  pub both_first : t ≡ true → {u : Bool} → u ≡ b → u ≡ both a b
  unfolding both
  both_first h k = k ∙ rw (sym e ∙ h) refl

  pub both-not : t ≡ false → false ≡ both a b
  unfolding both
  both-not h = rw (sym e ∙ h) refl

-- the size of the right field that stands there, of one tag or of another; 0 where none does
unfoldable pub size_by : ℕ → ℕ → List ℕ → ℕ → ℕ
size_by a b s at = cond (right_at s at a) (size_of a) (cond (right_at s at b) (size_of b) 0)

-- a size as the code hands it over: none where it is 0
abbrev pub some_size : ℕ → Option ℕ
some_size size = cond (eqb size 0) None (Some size)

pub size-some : (n : ℕ) {size : ℕ} → Some size ≡ some_size n → (size ≡ n) × (size ≡ 0 → ⊥)
size-some n {size} e = by-test (eqb n 0) refl e
  where
    by-test : (t : Bool) → eqb n 0 ≡ t → Some size ≡ cond t None (Some n) → (size ≡ n) × (size ≡ 0 → ⊥)
    by-test true h z = clash cc
    by-test false h z = let same : size ≡ n = cc in (same, λ none. eqb-false n 0 h (sym same ∙ none))

pub size-not : (n : ℕ) → None ≡ some_size n → n ≡ 0
size-not n e = by-test (eqb n 0) refl e
  where
    by-test : (t : Bool) → eqb n 0 ≡ t → None ≡ cond t None (Some n) → n ≡ 0
    by-test true h z = eqb-true n 0 h
    by-test false h z = clash cc

-- which of them it is, as the code has it
module _ (a b : ℕ) (s : List ℕ) (at : ℕ) {t : Bool} (e : t ≡ right_at s at a) where
  pub size-first : t ≡ true → size_of a ≡ size_by a b s at
  unfolding size_by
  size-first h = rw (sym e ∙ h)

  module _ (h : t ≡ false) {q : Bool} (k : q ≡ right_at s at b) where
    pub size-second : q ≡ true → size_of b ≡ size_by a b s at
    unfolding size_by
    size-second l = rw (sym e ∙ h, sym k ∙ l)

    pub size_none : q ≡ false → 0 ≡ size_by a b s at
    unfolding size_by
    size_none l = rw (sym e ∙ h, sym k ∙ l)

-- one of them stands there
abbrev OneOf : ℕ → ℕ → List ℕ → ℕ → ℕ → Type 0
OneOf a b s at size = (Right s at a × (size ≡ size_of a)) ⊎ (Right s at b × (size ≡ size_of b))

one_of : (a b : ℕ) → tag_right a ≡ true → tag_right b ≡ true → (s : List ℕ) (at : ℕ) {size : ℕ} → size ≡ size_by a b s at → (size ≡ 0 → ⊥) → OneOf a b s at size
unfolding size_by
one_of a b low high s at {size} e some = by-test (right_at s at a) (right_at s at b) refl refl e
  where
    by-test : (t q : Bool) → right_at s at a ≡ t → right_at s at b ≡ q → size ≡ cond t (size_of a) (cond q (size_of b) 0) → OneOf a b s at size
    by-test true q h k z = inl (right s at a low h, z)
    by-test false true h k z = inr (right s at b high k, z)
    by-test false false h k z = absurd (some z)

-- ---- a header, and the closes behind it

pub record Opened (s : List ℕ) (at : ℕ) (p : Progress) : Type 0 where
  pub track : OnTrack s at p
  pub first : p.stage ≡ 1

short-goes : (s : List ℕ) → Right s 0 1 → admit start (field_at s 0 1) ≡ goes (after_header start (get_or s 3 0) (be2_at s 4) Short)
unfolding field_of untimed placed count_number admitted
short-goes s r =
    takes start (field_at s 0 1) (omega arith) r.values refl refl
    ∙ rw (body-first s 0 3 (omega arith), body-second s 0 3 (omega arith))

long-goes : (s : List ℕ) → Right s 0 6 → admit start (field_at s 0 6) ≡ goes (after_header start (get_or s 3 0) (be2_at s 4) (Long (get_or s 6 0)))
unfolding field_of untimed placed count_number admitted
long-goes s r =
    takes start (field_at s 0 6) (omega arith) r.values refl refl
    ∙ rw (body-first s 0 4 (omega arith), body-second s 0 4 (omega arith), body-fourth s 0 4 (omega arith))

-- the form of a header of so many bytes
unfoldable pub form_in : List ℕ → ℕ → Form
form_in s size = cond (eqb size 7) (Long (get_or s 6 0)) Short

-- what is kept behind it
pub header-room : {p : Progress} → p ≡ start → p.count < 1048576
header-room e = rw e (omega arith)

pub header-kept : (s : List ℕ) (form : Form) {p q : Progress} {marks : ℕ} → p ≡ start → marks ≡ be2_at s 4 → q ≡ after_header p (get_or s 3 0) marks form → q ≡ after_header start (get_or s 3 0) (be2_at s 4) form
header-kept s form b m k = k ∙ rw (b, m)

module _ (s : List ℕ) {size : ℕ} (e : size ≡ size_by 1 6 s 0) (some : size ≡ 0 → ⊥) where
  header_is : OneOf 1 6 s 0 size
  unfolding both
  header_is = one_of 1 6 refl refl s 0 e some

  header-bytes : (size ≤ length s) × (6 ≤ size)
  header-bytes = by header_is
    where
      by : OneOf 1 6 s 0 size → (size ≤ length s) × (6 ≤ size)
      by (inl (r, z)) = let whole = (shape-grows s 0 (stood-shape s 0 1 r.stands-there)).1 in (omega (arith, whole, z), omega (arith, z))
      by (inr (r, z)) = let whole = (shape-grows s 0 (stood-shape s 0 6 r.stands-there)).1 in (omega (arith, whole, z), omega (arith, z))

  pub header-inside : size ≤ length s
  header-inside = header-bytes.0

  pub header-whole : 6 ≤ length s
  header-whole = omega (arith, header-bytes)

  pub opened : length s ≤ 1048576 → {form : Form} {p : Progress} → form ≡ form_in s size → p ≡ after_header start (get_or s 3 0) (be2_at s 4) form → Opened s size p
  unfolding form_in
  opened small {form} {p} f k = by header_is
    where
      by : OneOf 1 6 s 0 size → Opened s size p
      by (inl (r, z)) = rw (k, f, z) (record { track = on-next s 0 start (at-start s refl small) (stood-shape s 0 1 r.stands-there) (short-goes s r); first = refl })
      by (inr (r, z)) = rw (k, f, z) (record { track = on-next s 0 start (at-start s refl small) (stood-shape s 0 6 r.stands-there) (long-goes s r); first = refl })

-- the same by the tag that stands there
pub short-opened : (s : List ℕ) → length s ≤ 1048576 → {t : Bool} → t ≡ right_at s 0 1 → t ≡ true → {p : Progress} → p ≡ after_header start (get_or s 3 0) (be2_at s 4) Short → Opened s 6 p
unfolding form_in
short-opened s small e h k = opened s (size-first 1 6 s 0 e h) (λ none. omega arith) small refl k

pub long-opened : (s : List ℕ) → length s ≤ 1048576 → {t : Bool} → t ≡ right_at s 0 1 → t ≡ false → {q : Bool} → q ≡ right_at s 0 6 → q ≡ true → {p : Progress} → p ≡ after_header start (get_or s 3 0) (be2_at s 4) (Long (get_or s 6 0)) → Opened s 7 p
unfolding form_in
long-opened s small e h k l z = opened s (size-second 1 6 s 0 e h k l) (λ none. omega arith) small refl z

module _ (s : List ℕ) (at : ℕ) (p : Progress) (o : Opened s at p) {t : Bool} (e : t ≡ right_at s at 2) (h : t ≡ true) where
  close-right : Right s at 2
  unfolding both
  close-right = right s at 2 refl (sym e ∙ h)

  pub close-room : p.count < 1048576
  close-room = on_room s at p o.track (stood-shape s at 2 close-right.stands-there)

  module _ {u : Bool} (k : u ≡ both (previous_placed p (get_or s (at + 3) 0)) (allowed (third_of p.form) (get_or s (at + 3) 0))) (l : u ≡ true) where
    close-let : (previous_placed p (get_or s (at + 3) 0) ≡ true) × (allowed (third_of p.form) (get_or s (at + 3) 0) ≡ true)
    close-let = both_true _ _ (sym k ∙ l)

    close-goes : admit p (field_at s at 2) ≡ goes (after_previous p (get_or s (at + 3) 0))
    unfolding field_of placed count_number admitted
    close-goes =
        let same = body-first s at 5 (omega arith) in
        takes p (field_at s at 2) close-room (timed (before_of p) (field_at s at 2) close-right.values (ap (allowed (third_of p.form)) same ∙ close-let.1)) (ap (previous_placed p) same ∙ close-let.0) refl
        ∙ ap (λ (i : ℕ). goes (after_previous p i)) same

    pub close-next : {q : Progress} → q ≡ after_previous p (get_or s (at + 3) 0) → Opened s (at + 8) q
    close-next z = rw z (record { track = on-next s at p o.track (stood-shape s at 2 close-right.stands-there) close-goes; first = refl })

  pub close-less : left s (at + 8) < left s at
  close-less = omega (arith, right-whole s at 2 e h)

-- ---- records

-- the bytes of a right trade or quote at the place
abbrev pub right_size : List ℕ → ℕ → ℕ
right_size s at = size_by 3 4 s at

-- the same, and 0 where its instrument is barred
unfoldable pub record_size : List ℕ → ℕ → ℕ → ℕ
record_size s at third = cond (allowed third (get_or s (at + 7) 0)) (right_size s at) 0

pub record Recorded (s : List ℕ) (at size : ℕ) : Type 0 where
  pub field : Field
  pub shape : shape_at s at ≡ gives field (at + size)
  pub next : (p : Progress) → allowed (third_of p.form) (get_or s (at + 7) 0) ≡ true → p.time ≤ be4_at s (at + 3) → be4_at s (at + 3) ≤ 86399999 → 1 ≤ p.stage → p.count < 1048576 → admit p field ≡ goes (after_record p (be4_at s (at + 3)))

-- of a tag whose field has its place behind the header, counts nothing and begins with its time
recorded-at : (s : List ℕ) (at tag : ℕ) → Right s at tag → 5 ≤ length_of tag
    → ((p : Progress) → placed p (field_at s at tag) ≡ leb 1 p.stage)
    → ((p : Progress) → count_number p (field_at s at tag) ≡ fine)
    → ((p : Progress) → admitted p (field_at s at tag) ≡ goes (after_record p (be4_at (body_at s at tag) 0)))
    → ((b : Before) → allowed b.third (get_or (body_at s at tag) 4 0) ≡ true → InTime b (be4_at (body_at s at tag) 0) → Timely b (field_at s at tag))
    → Recorded s at (size_of tag)
recorded-at s at tag r long place none after timely =
    let f = field_at s at tag in
    let same = body-number s at (length_of tag) (omega (arith, long)) in
    let on = body-fifth s at (length_of tag) long in
    record {
      field = f;
      shape = stood-shape s at tag r.stands-there;
      next = λ p a l d stage room. takes p f room (timed (before_of p) f r.values (timely (before_of p) (rw on a) (rw same (l, d)))) (place p ∙ le-leb 1 p.stage stage) (none p) ∙ after p ∙ ap (λ (t : ℕ). goes (after_record p t)) same;
    }

trade-recorded : (s : List ℕ) (at : ℕ) → Right s at 3 → Recorded s at 14
unfolding field_of placed count_number admitted
trade-recorded s at r = recorded-at s at 3 r (omega arith) (λ p. refl) (λ p. refl) (λ p. refl) (λ b a t. (a, t))

quote-recorded : (s : List ℕ) (at : ℕ) → Right s at 4 → Recorded s at 17
unfolding field_of placed count_number admitted
quote-recorded s at r = recorded-at s at 4 r (omega arith) (λ p. refl) (λ p. refl) (λ p. refl) (λ b a t. (a, t))

record_is : (s : List ℕ) (at : ℕ) {size : ℕ} → size ≡ right_size s at → (size ≡ 0 → ⊥) → OneOf 3 4 s at size
unfolding both
record_is s at e some = one_of 3 4 refl refl s at e some

recorded : (s : List ℕ) (at : ℕ) {size : ℕ} → size ≡ right_size s at → (size ≡ 0 → ⊥) → Recorded s at size
recorded s at {size} e some = by (record_is s at e some)
  where
    by : OneOf 3 4 s at size → Recorded s at size
    by (inl (r, z)) = rw z (trade-recorded s at r)
    by (inr (r, z)) = rw z (quote-recorded s at r)

-- its bytes are in the sheet; the shortest record has fourteen
pub right-inside : (s : List ℕ) (at : ℕ) {size : ℕ} → size ≡ right_size s at → (size ≡ 0 → ⊥) → at + 8 ≤ length s
right-inside s at {size} e some = by (record_is s at e some)
  where
    inside : at + size ≤ length s
    inside = (shape-grows s at (recorded s at e some).shape).1

    by : OneOf 3 4 s at size → at + 8 ≤ length s
    by (inl (r, z)) = omega (arith, inside, z)
    by (inr (r, z)) = omega (arith, inside, z)

-- as the code has it: none stands there, its instrument is let be, or is not
module _ (s : List ℕ) (at third : ℕ) {size : ℕ} (e : size ≡ right_size s at) where
  pub sized-none : size ≡ 0 → 0 ≡ record_size s at third
  unfolding record_size
  sized-none h = by-test (allowed third (get_or s (at + 7) 0))
    where
      by-test : (t : Bool) → 0 ≡ cond t (right_size s at) 0
      by-test true = sym h ∙ e
      by-test false = refl

  pub sized-let : {t : Bool} → t ≡ allowed third (get_or s (at + 7) 0) → t ≡ true → size ≡ record_size s at third
  unfolding record_size
  sized-let k h = e ∙ rw (sym k ∙ h) refl

  pub sized-barred : {t : Bool} → t ≡ allowed third (get_or s (at + 7) 0) → t ≡ false → 0 ≡ record_size s at third
  unfolding record_size
  sized-barred k h = rw (sym k ∙ h) refl

-- a record that may come next: it stands there, and its instrument is let be
sized : (s : List ℕ) (at third : ℕ) {size : ℕ} → size ≡ record_size s at third → (size ≡ 0 → ⊥) → (size ≡ right_size s at) × (allowed third (get_or s (at + 7) 0) ≡ true)
unfolding record_size
sized s at third {size} e some = by-test (allowed third (get_or s (at + 7) 0)) refl e
  where
    by-test : (t : Bool) → allowed third (get_or s (at + 7) 0) ≡ t → size ≡ cond t (right_size s at) 0 → (size ≡ right_size s at) × (allowed third (get_or s (at + 7) 0) ≡ true)
    by-test true k z = (z, k)
    by-test false k z = absurd (some z)

pub record Nearly (s : List ℕ) (at : ℕ) (p : Progress) : Type 0 where
  pub small : length s ≤ 1048576
  pub within : at ≤ length s
  pub counts : p.count ≤ at
  pub later : 1 ≤ p.stage
  pub track : p.time ≤ 86399999 → OnTrack s at p

pub nearly : {s : List ℕ} {at : ℕ} {p : Progress} → Opened s at p → Nearly s at p
nearly o = record { small = o.track.small; within = o.track.within; counts = o.track.counts; later = omega (arith, o.first); track = λ d. o.track }

module _ (s : List ℕ) (at : ℕ) (p : Progress) (o : Nearly s at p) {size : ℕ} (e : size ≡ record_size s at (third_of p.form)) (some : size ≡ 0 → ⊥) where
  found : (size ≡ right_size s at) × (allowed (third_of p.form) (get_or s (at + 7) 0) ≡ true)
  found = sized s at (third_of p.form) e some

  record-grows : (at < at + size) × (at + size ≤ length s)
  record-grows = shape-grows s at (recorded s at found.0 some).shape

  pub record-room : p.count < 1048576
  record-room = omega (arith, record-grows, o.small, o.counts)

  pub record-fits : Fits w64 (at + size)
  record-fits = record { fits = omega (arith, record-grows, o.small) }

  pub record-less : left s (at + size) < left s at
  record-less = omega (arith, record-grows)

  pub record-whole : at + 7 ≤ length s
  record-whole = omega (arith, right-inside s at found.0 some)

  pub record-next : {time : ℕ} {q : Progress} → time ≡ be4_at s (at + 3) → p.time ≤ time → q ≡ after_record p time → Nearly s (at + size) q
  record-next {time} {q} w l k =
      let r = recorded s at found.0 some in
      let g = record-grows in
      rw k
      (record {
        small = o.small;
        within = g.1;
        counts = omega (arith, o.counts, g.0);
        later = omega arith;
        track = λ d. on-next s at p (o.track (omega (arith, l, d))) r.shape (r.next p found.1 (rw w at l) (rw w at d) o.later record-room ∙ ap (λ (t : ℕ). goes (after_record p t)) (sym w));
      })

-- on the way, and behind the header, once the last time is known to be one of the day
pub arrived : {s : List ℕ} {at : ℕ} {p : Progress} → Nearly s at p → p.time ≤ 86399999 → OnTrack s at p × (1 ≤ p.stage)
arrived o d = (o.track d, o.later)

-- ---- the end

module _ (s : List ℕ) (at : ℕ) (p : Progress) (o : OnTrack s at p) (later : 1 ≤ p.stage) {t : Bool} (e : t ≡ stands s at 5) (h : t ≡ true) where
  end-stood : Stood s at 5
  unfolding both
  end-stood = stood s at 5 refl (sym e ∙ h)

  pub end-inside : at + 7 ≤ length s
  end-inside = stands-whole s at 5 e h

  pub end-room : p.count < 1048576
  end-room = on_room s at p o (stood-shape s at 5 end-stood)

  pub end-next : {count : ℕ} {x : Verdict} → count ≡ be4_at s (at + 3) → count ≡ p.count → x ≡ at_end (length s) (at + 7) p → x ≡ judge_sheet s
  unfolding field_of judge placed count_number admitted
  end-next w c z =
      let same : be4_at (take 4 (drop (at + 3) s)) 0 ≡ p.count = body-number s at 4 (omega arith) ∙ sym w ∙ c in
      on-last s at p o (stood-shape s at 5 end-stood)
      (takes p (field_at s at 5) end-room refl (le-leb 1 p.stage later) (unless-passed _ 12 fine (eq-eqb _ _ same)))
      z
