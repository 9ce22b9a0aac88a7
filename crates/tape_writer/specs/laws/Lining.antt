-- What holds as the lines of a sheet's fields are measured and put into the buffer, and what the answers of `sheet_to_tape` are. Assumes nothing.
use Rattle.std.specs.Prelude.{ℕ, ◌+◌, ◌*◌, ◌/◌, ◌≤◌, ◌<◌, Bool, true, false, ◌≡◌, List, [], ◌∷◌, ◌++◌, leb, length, Result, Ok, Err}
use Rattle.std.proofs.Math.Path.{refl}
use Rattle.std.proofs.Common.{sym, ap, ◌∙◌, append_assoc, append-nil, arith, le-div_iff_mul-le, length-append, le-leb, leb-true, Fits}
use Rattle.std.specs.Int.{w64}
use Rattle.text.specs.Over.{over}
use Rattle.text.specs.laws.Putting.{Wrote, over-length, then}
use Rattle.wire.specs.Big.{Bytes}
use Rattle.field.specs.declared.Field.{Field}
use Rattle.field.specs.declared.Refusal.{Refusal}
use Rattle.field.specs.declared.Fault.TheVariants.{Room}
use Rattle.field.specs.Said.{gives, read_says}
use Rattle.field.specs.Reading.{shape_at}
use Rattle.field.specs.Judging.{alone}
use Rattle.field.proofs.Sound.{Sound}
use Rattle.sheet.specs.declared.Day.{Day}
use Rattle.sheet.specs.Fields.{fields_at, fields_of, Each}
use Rattle.sheet.specs.Judgement.{accepts, judge_sheet, judged_says}
use Rattle.sheet.specs.laws.Accepted.{accepted-sound, accepted-small}
use Rattle.sheet.specs.laws.Passes.{Sofar, sofar-start, sofar-stop, sofar-next, sofar-here}
use Rattle.filled_buffer.specs.Filling.{made, refused, in_room}
use Rattle.filled_buffer.specs.laws.Filling.{Answers, answers}
use Rattle.tape.specs.Tape.{line_text, text_of}
use Rattle.tape_trips.specs.laws.Short.{line-most, text-short}

-- how long the text of fields is
abbrev pub text_long : List Field → ℕ
text_long fs = length (text_of fs)

-- no line is longer than the scratch, and the text has at most three bytes for each of the sheet's
pub record Readable (s : List ℕ) : Type 0 where
  pub lines : Each (λ f. length (line_text f) ≤ 64) (fields_of s)
  pub whole : text_long (fields_of s) ≤ 3 * length s
  pub small : length s ≤ 1048576

each_line : (fs : List Field) → Each (Sound alone) fs → Each (λ f. length (line_text f) ≤ 64) fs
each_line [] k = tt
each_line (f ∷ fs) k = (omega (arith, line-most f k.0), each_line fs k.1)

readable : (s : List ℕ) (day : Day) → Bytes s → judge_sheet s ≡ accepts day → Readable s
readable s day bytes e = record { lines = each_line (fields_of s) (accepted-sound s day e); whole = text-short s day bytes e; small = accepted-small s day e }

-- ---- measuring

text-join : (fs gs : List Field) → text_of (fs ++ gs) ≡ text_of fs ++ text_of gs
unfolding text_of
text-join [] gs = refl
text-join (f ∷ fs) gs = ap (λ (v : List ℕ). line_text f ++ v) (text-join fs gs) ∙ sym (append_assoc (line_text f) (text_of fs) (text_of gs))

text-one : (fs : List Field) (f : Field) → text_of (fs ++ f ∷ []) ≡ text_of fs ++ line_text f
unfolding text_of
text-one fs f = text-join fs (f ∷ []) ∙ ap (λ (v : List ℕ). text_of fs ++ v) (append-nil (line_text f))

long-one : (fs : List Field) (f : Field) → text_long (fs ++ f ∷ []) ≡ text_long fs + length (line_text f)
long-one fs f = ap length (text-one fs f) ∙ length-append (text_of fs) (line_text f)

pub len-start : (s : List ℕ) → Sofar text_long s 0 0
unfolding text_of
len-start s = sofar-start text_long s refl

-- what was measured so far is no more than the whole
len-most : (s : List ℕ) (at len : ℕ) → Sofar text_long s at len → len ≤ text_long (fields_of s)
len-most s at len o = omega (arith, o.same, ap length (ap text_of o.split ∙ text-join o.before (fields_at s at)), length-append (text_of o.before) (text_of (fields_at s at)))

-- what no field was read from is refused
no_field : (r : Result (Field × ℕ) Refusal) → ((x : Field × ℕ) → r ≡ Ok x → ⊥) → (refusal : Refusal) × (r ≡ Err refusal)
no_field (Ok x) h = absurd (h x refl)
no_field (Err refusal) h = (refusal, refl)

module _ (s : List ℕ) (at len : ℕ) (o : Sofar text_long s at len) {r : Result (Field × ℕ) Refusal} (e : read_says r ≡ shape_at s at) where
  pub len-stop : ((x : Field × ℕ) → r ≡ Ok x → ⊥) → len ≡ text_long (fields_of s)
  len-stop h = sofar-stop text_long s at len o e (no_field r h).1

  pub len-next : {f : Field} {next n : ℕ} → r ≡ Ok (f, next) → n ≡ length (line_text f) → Sofar text_long s next (len + n)
  len-next {f} {next} {n} d q = sofar-next text_long s at len o e (λ a f. a + length (line_text f)) long-one d (ap (λ (v : ℕ). len + v) q)

  pub len-line : Readable s → {f : Field} {next : ℕ} → r ≡ Ok (f, next) → length (line_text f) ≤ 64
  len-line k d = sofar-here text_long s at len o e (λ f. length (line_text f) ≤ 64) k.lines d

  pub len-fits : Readable s → {f : Field} {next n : ℕ} → r ≡ Ok (f, next) → n ≡ length (line_text f) → Fits w64 (len + n)
  len-fits k {f} {next} {n} d q = record { fits = omega (arith, len-most s next (len + n) (len-next d q), k.whole, k.small) }

-- ---- room

pub room-three : (s : List ℕ) (room : ℕ) → Readable s → length s ≤ room / 3 → true ≡ leb (text_long (fields_of s)) room
room-three s room k h =
    let three : 0 < 3 = omega arith in
    sym (le-leb (text_long (fields_of s)) room (omega (arith, k.whole, (le-div_iff_mul-le three).0 h)))

-- ---- putting

-- the lines of the fields so far stand at the start of the buffer
pub record Lining (s b₀ : List ℕ) (from at : ℕ) (b : List ℕ) : Type 0 where
  pub done : List Field
  pub sofar : Sofar (λ fs. fs) s from done
  pub place : at ≡ text_long done
  pub bytes : b ≡ over b₀ 0 (text_of done)
  pub room : text_long (fields_of s) ≤ length b₀

done-most : (s : List ℕ) (at : ℕ) (done : List Field) → Sofar (λ fs. fs) s at done → text_long done ≤ text_long (fields_of s)
done-most s at done o =
    let e : fields_of s ≡ done ++ fields_at s at = o.split ∙ ap (λ (v : List Field). v ++ fields_at s at) (sym o.same) in
    omega (arith, ap length (ap text_of e ∙ text-join done (fields_at s at)), length-append (text_of done) (text_of (fields_at s at)))

pub line-start : (s b : List ℕ) → text_long (fields_of s) ≤ length b → Lining s b 0 0 b
unfolding text_of
line-start s b h = record { done = []; sofar = sofar-start (λ fs. fs) s refl; place = refl; bytes = refl; room = h }

module _ (s b₀ : List ℕ) (from at : ℕ) (b : List ℕ) (o : Lining s b₀ from at b) where
  pub line-length : length b ≡ length b₀
  line-length = ap length o.bytes ∙ over-length b₀ (text_of o.done) 0 (omega (arith, done-most s from o.done o.sofar, o.room))

  module _ {r : Result (Field × ℕ) Refusal} (e : read_says r ≡ shape_at s from) where
    pub line-stop : ((x : Field × ℕ) → r ≡ Ok x → ⊥) → (at ≡ text_long (fields_of s)) × (b ≡ over b₀ 0 (text_of (fields_of s)))
    line-stop h =
        let all : o.done ≡ fields_of s = sofar-stop (λ fs. fs) s from o.done o.sofar e (no_field r h).1 in
        (o.place ∙ ap text_long all, o.bytes ∙ ap (λ (fs : List Field). over b₀ 0 (text_of fs)) all)

    module _ {f : Field} {next : ℕ} (d : r ≡ Ok (f, next)) where
      after : Sofar (λ fs. fs) s next (o.done ++ f ∷ [])
      after = sofar-next (λ fs. fs) s from o.done o.sofar e (λ fs g. fs ++ g ∷ []) (λ fs g. refl) d refl

      fits-behind : text_long o.done + length (line_text f) ≤ length b₀
      fits-behind = omega (arith, done-most s next (o.done ++ f ∷ []) after, long-one o.done f, o.room)

      pub line-room : at + length (line_text f) ≤ length b
      line-room = omega (arith, line-length, fits-behind, o.place)

      pub line-next : {n : ℕ} {b' : List ℕ} → (n ≡ at + length (line_text f)) × (b' ≡ over b at (line_text f)) → Lining s b₀ next n b'
      line-next {n} {b'} u =
          let t : Wrote b₀ 0 (text_of o.done ++ line_text f) n b' =
          then {b = b₀} {p = text_of o.done} {q = line_text f} {b' = b} {b'' = b'} {at = 0} {r = at} {r'' = n}
          (λ g. record { next = omega (arith, o.place); bytes = o.bytes })
          (λ g. record { next = u.0; bytes = u.1 })
          (omega (arith, length-append (text_of o.done) (line_text f), fits-behind)) in
          record {
            done = o.done ++ f ∷ [];
            sofar = after;
            place = omega (arith, u.0, o.place, long-one o.done f);
            bytes = t.bytes ∙ ap (λ (v : List ℕ). over b₀ 0 v) (sym (text-one o.done f));
            room = o.room;
          }

-- ---- the answers

module _ (s b : List ℕ) {t : Bool} (q : t ≡ leb (text_long (fields_of s)) (length b)) where
  pub text-fits : t ≡ true → text_long (fields_of s) ≤ length b
  text-fits h = leb-true _ _ (sym q ∙ h)

  pub text-put : t ≡ true → {n : ℕ} {b' : List ℕ} → (n ≡ text_long (fields_of s)) × (b' ≡ over b 0 (text_of (fields_of s))) → Answers (in_room (length b) (made (text_of (fields_of s)))) b (Ok n) b'
  unfolding in_room
  text-put h u = answers b _ (Ok _) (in_room (length b) (made (text_of (fields_of s)))) (made (text_of (fields_of s))) (simp (sym q, h)) (ap (gives tt) u.0) u.1

  pub text-not : t ≡ false → Answers (in_room (length b) (made (text_of (fields_of s)))) b (Err (record { fault = Room; at = 0 })) b
  unfolding in_room
  text-not h = answers b b (Err (record { fault = Room; at = 0 })) (in_room (length b) (made (text_of (fields_of s)))) (refused 16 0) (simp (sym q, h)) refl refl

pub sheet-readable : (s : List ℕ) {j : Result Day Refusal} → judged_says j ≡ judge_sheet s → Bytes s → {day : Day} → j ≡ Ok day → Readable s
sheet-readable s q bytes {day} d = readable s day bytes (sym q ∙ ap judged_says d)
