-- What holds as the fields of an accepted text are laid into the buffer, and what the answers of `tape_to_sheet` are. Assumes nothing.
use Rattle.std.specs.Prelude.{ℕ, ◌+◌, ◌-◌, ◌≤◌, ◌<◌, ◌≡◌, length, drop, Option, Some, None, Result, Ok, Err}
use Rattle.std.proofs.Math.Path.{refl, ap}
use Rattle.std.proofs.Common.{sym, ◌∙◌, subst, arith, length-append, le-leb, Fits}
use mathlib.Core.List.{List, [], ◌∷◌, ◌++◌, append_assoc, append-nil}
use Rattle.std.proofs.lemmas.Bool.{lt-leb}
use Rattle.std.specs.Int.{w32}
use Rattle.text.specs.Over.{over}
use Rattle.text.specs.laws.Putting.{Wrote, over-length, then}
use Rattle.numerals.specs.laws.Numerals.{clash}
use Rattle.field.specs.declared.Field.{Field}
use Rattle.field.specs.declared.Field.TheVariants as F
use Rattle.field.specs.Layout.{field_bytes}
use Rattle.admit.specs.declared.Progress.{Progress}
use Rattle.admit.specs.Admitting.{start}
use Rattle.sheet.specs.Fields.{encode}
use Rattle.items.specs.Items.{first, rest}
use Rattle.next_line.specs.declared.Malformed.{Malformed}
use Rattle.next_line.specs.laws.Next.{Next, next_line, Goes, was-last, was_field, was-bad}
use Rattle.field.specs.declared.Refusal.{Refusal}
use Rattle.field.specs.declared.Fault.TheVariants.{Long, Room}
use Rattle.field.specs.Said.{gives, refuses, fault_number, written_says}
use Rattle.filled_buffer.specs.Filling.{made, refused, in_room}
use Rattle.filled_buffer.specs.laws.Filling.{Answers, answers}
use Rattle.tape.specs.Tape.{LinesSay, tells, bad, say_line, say_lines, text_says, sheet_of, sheet_made, tape_to_sheet}
use Rattle.tape.specs.laws.Measuring.{measured, measured-low, measured-high, encode-long, encode-join, encode_one, end-long, sheet-long}
use Rattle.tape.specs.laws.Taken.{closed, Took, took}
use Rattle.tape_reader.specs.declared.Laid.{Laid}

-- the text is accepted, and the buffer has room for its sheet, which is within the limit
pub record Fitting (x b : List ℕ) : Type 0 where
  pub fields : List Field
  pub says : text_says x ≡ tells fields
  pub room : length (sheet_of fields) ≤ length b
  pub small : length (sheet_of fields) ≤ 1048576

-- its fields stand at the start of the buffer, and are counted
pub record Laid_out (x b : List ℕ) (laid : Laid) (b' : List ℕ) : Type 0 where
  pub fields : List Field
  pub says : text_says x ≡ tells fields
  pub place : laid.at ≡ length (encode fields)
  pub number : laid.count ≡ length fields
  pub bytes : b' ≡ over b 0 (encode fields)

-- its sheet stands there
pub record Sheeted (x b b' : List ℕ) : Type 0 where
  pub fields : List Field
  pub says : text_says x ≡ tells fields
  pub bytes : b' ≡ over b 0 (sheet_of fields)

-- ---- the loop

-- so many fields are laid, and the text from here on says the others
pub record Laying (x b₀ : List ℕ) (from at count : ℕ) (b : List ℕ) : Type 0 where
  pub line : ℕ
  pub p : Progress
  pub done : List Field
  pub later : List Field
  pub says : text_says x ≡ tells (done ++ later)
  pub left : say_lines line p (first 10 (drop from x)) (rest 10 (drop from x)) ≡ tells later
  pub within : from ≤ length x
  pub place : at ≡ length (encode done)
  pub number : count ≡ length done
  pub bytes : b ≡ over b₀ 0 (encode done)
  pub room : length (sheet_of (done ++ later)) ≤ length b₀
  pub small : length (sheet_of (done ++ later)) ≤ 1048576

-- the buffer is as long as it was
pub lay-length : (x b₀ : List ℕ) (from at count : ℕ) (b : List ℕ) → Laying x b₀ from at count b → length b ≡ length b₀
lay-length x b₀ from at count b o =
    let s = sheet-long (o.done ++ o.later) (length (o.done ++ o.later)) in
    let j = ap length (encode-join o.done o.later) in
    ap length o.bytes ∙ over-length b₀ (encode o.done) 0 (omega (arith, s, j, length-append (encode o.done) (encode o.later), o.room))

nothing-over : (b : List ℕ) → b ≡ over b 0 []
nothing-over b = refl

pub lay-start : (x b : List ℕ) → Fitting x b → Laying x b 0 0 0 b
unfolding encode
lay-start x b f = record {
  line = 1;
  p = start;
  done = [];
  later = f.fields;
  says = f.says;
  left = f.says;
  within = omega arith;
  place = refl;
  number = refl;
  bytes = nothing-over b;
  room = f.room;
  small = f.small;
}

none_left : (fs gs : List Field) → gs ≡ [] → fs ++ gs ≡ fs
none_left fs gs e = ap (λ (v : List Field). fs ++ v) e ∙ append-nil fs

module _ (x b₀ : List ℕ) (from at count : ℕ) (b : List ℕ) (o : Laying x b₀ from at count b) (r : Next) (q : r ≡ next_line x from) where
  pub lay-end : r ≡ Ok None → Laid_out x b₀ (record { at = at; count = count }) b
  unfolding say_lines
  lay-end d =
      let e = was-last x from r q d in
      let c = closed o.line (length (first 10 (drop from x))) o.p o.later (ap (say_lines o.line o.p (first 10 (drop from x))) (sym e.none) ∙ o.left) in
      record { fields = o.done; says = o.says ∙ ap tells (none_left o.done o.later c.none); place = o.place; number = o.number; bytes = o.bytes }

  took-here : (l : Option Field) (next : ℕ) → Goes x from l next → Took o.p l (λ p. say_lines (o.line + 1) p (first 10 (drop next x)) (rest 10 (drop next x))) o.later
  unfolding say_lines
  took-here l next g =
      took o.line o.p l _ o.later
      (ap (λ (v : Option Field). say_line o.line o.p v (λ p. say_lines (o.line + 1) p (first 10 (drop next x)) (rest 10 (drop next x)))) (sym g.line)
      ∙ ap (say_lines o.line o.p (first 10 (drop from x))) (sym g.later) ∙ o.left)

  -- none of an accepted text is malformed
  pub lay-bad : (e : Malformed) → r ≡ Err e → Laid_out x b₀ (record { at = at; count = count }) b
  lay-bad e d = let k = took-here _ _ (was-bad x from r q e d) in let z = k.said in clash cc

  module _ {f : Field} {next : ℕ} (d : r ≡ Ok (Some (f, next))) where
    went : Goes x from (Some f) next
    went = was_field x from r q f next d

    took_it : Took o.p (Some f) (λ p. say_lines (o.line + 1) p (first 10 (drop next x)) (rest 10 (drop next x))) o.later
    took_it = took-here _ _ went

    pub lay-less : length x - next < length x - from
    lay-less = omega (arith, went.ahead, went.within)

    is_field : took_it.f ≡ f
    is_field = let z = took_it.said in cc

    split : o.done ++ o.later ≡ (o.done ++ f ∷ []) ++ took_it.gs
    split =
        ap (λ (v : List Field). o.done ++ v) (took_it.are ∙ ap (λ (v : Field). v ∷ took_it.gs) is_field)
        ∙ sym (append_assoc o.done (f ∷ []) took_it.gs)

    long : length (encode o.done) + length (field_bytes f) + 7 ≤ length (sheet_of (o.done ++ o.later))
    long =
        let s = sheet-long (o.done ++ o.later) (length (o.done ++ o.later)) in
        let j = ap length (ap encode split ∙ encode-join (o.done ++ f ∷ []) took_it.gs) in
        omega (arith, s, j, length-append (encode (o.done ++ f ∷ [])) (encode took_it.gs), ap length (encode_one o.done f), length-append (encode o.done) (field_bytes f))

    pub lay-room : at + length (field_bytes f) ≤ length b
    lay-room = omega (arith, long, lay-length x b₀ from at count b o, o.place, o.room)

    pub lay-next : {n : ℕ} {b' : List ℕ} → (n ≡ at + length (field_bytes f)) × (b' ≡ over b at (field_bytes f)) → Laying x b₀ next n (count + 1) b'
    lay-next {n} {b'} u =
        let t : Wrote b₀ 0 (encode o.done ++ field_bytes f) n b' =
        then {b = b₀} {p = encode o.done} {q = field_bytes f} {b' = b} {b'' = b'} {at = 0} {r = at} {r'' = n}
        (λ g. record { next = omega (arith, o.place); bytes = o.bytes })
        (λ g. record { next = u.0; bytes = u.1 })
        (omega (arith, length-append (encode o.done) (field_bytes f), long, o.room)) in
        let one = encode_one o.done f in
        record {
          line = o.line + 1;
          p = took_it.r;
          done = o.done ++ f ∷ [];
          later = took_it.gs;
          says = o.says ∙ ap tells split;
          left = took_it.after;
          within = went.within;
          place = omega (arith, t.next, ap length one);
          number = omega (arith, o.number, length-append o.done (f ∷ []));
          bytes = t.bytes ∙ ap (λ (v : List ℕ). over b₀ 0 v) (sym one);
          room = subst (λ (v : List Field). length (sheet_of v) ≤ length b₀) split o.room;
          small = subst (λ (v : List Field). length (sheet_of v) ≤ 1048576) split o.small;
        }

    pub lay-counts : Fits w32 (count + 1)
    lay-counts = record { fits = omega (arith, o.number, encode-long o.done, long, o.small) }

-- ---- the whole

told_is : (fs gs : List Field) → tells fs ≡ tells gs → fs ≡ gs
told_is fs gs e = cc

-- where the end goes there is room for it
sheet-size : (x b : List ℕ) (laid : Laid) (b' : List ℕ) (o : Laid_out x b laid b') → Fitting x b → length (encode o.fields) + 7 ≤ length b
sheet-size x b laid b' o f =
    let same : f.fields ≡ o.fields = told_is f.fields o.fields (sym f.says ∙ o.says) in
    let room : length (sheet_of o.fields) ≤ length b = subst (λ (v : List Field). length (sheet_of v) ≤ length b) same f.room in
    omega (arith, room, sheet-long o.fields (length o.fields))

pub end-room : (x b b' : List ℕ) (laid : Laid) → Laid_out x b laid b' → Fitting x b → laid.at + length (field_bytes (F.End laid.count)) ≤ length b'
end-room x b b' laid o f =
    let s = sheet-size x b laid b' o f in
    omega (arith, s, o.place, end-long laid.count, ap length o.bytes ∙ over-length b (encode o.fields) 0 (omega arith))

pub sheet-laid : (x b b' b'' : List ℕ) (laid : Laid) {n : ℕ} → Laid_out x b laid b' → Fitting x b → (n ≡ laid.at + length (field_bytes (F.End laid.count))) × (b'' ≡ over b' laid.at (field_bytes (F.End laid.count))) → Sheeted x b b''
sheet-laid x b b' b'' laid {n} o f u =
    let one = encode_one o.fields (F.End (length o.fields)) in
    let w : Wrote b 0 (encode o.fields ++ field_bytes (F.End laid.count)) n b'' =
    then {b = b} {p = encode o.fields} {q = field_bytes (F.End laid.count)} {b' = b'} {b'' = b''} {at = 0} {r = laid.at} {r'' = n}
    (λ g. record { next = omega (arith, o.place); bytes = o.bytes })
    (λ g. record { next = u.0; bytes = u.1 })
    (omega (arith, length-append (encode o.fields) (field_bytes (F.End laid.count)), end-long laid.count, sheet-size x b laid b' o f)) in
    record {
      fields = o.fields;
      says = o.says;
      bytes = w.bytes ∙ ap (λ (v : List ℕ). over b 0 v) (ap (λ (k : ℕ). encode o.fields ++ field_bytes (F.End k)) o.number ∙ sym one);
    }

-- ---- the answers

refused-is : (t : LinesSay) (number line : ℕ) → refuses number line ≡ measured 0 t → t ≡ bad number line
refused-is (tells fs) number line e = clash cc
refused-is (bad n l) number line e = cc

told-fields : (t : LinesSay) (bytes : ℕ) → gives tt bytes ≡ measured 0 t → (fs : List Field) × (t ≡ tells fs)
told-fields (tells fs) bytes e = (fs, refl)
told-fields (bad number line) bytes e = clash cc

module _ (x b : List ℕ) {m : Result ℕ Refusal} (q : written_says m ≡ measured 0 (text_says x)) where
  pub line_refused : {refusal : Refusal} → m ≡ Err refusal → (r : Result ℕ Refusal) → written_says r ≡ refuses (fault_number refusal.fault) refusal.at → Answers (tape_to_sheet (length b) x) b r b
  unfolding sheet_made in_room
  line_refused {refusal} d r e =
      answers b b r (tape_to_sheet (length b) x) (refused (fault_number refusal.fault) refusal.at) (ap (λ (t : LinesSay). in_room (length b) (sheet_made t)) (refused-is (text_says x) (fault_number refusal.fault) refusal.at (sym (ap written_says d) ∙ q))) e refl

  module _ (bytes : ℕ) (d : m ≡ Ok bytes) where
    those : (fs : List Field) × (text_says x ≡ tells fs)
    those = told-fields (text_says x) bytes (sym (ap written_says d) ∙ q)

    counted : gives tt bytes ≡ measured 0 (tells those.0)
    counted = sym (ap written_says d) ∙ q ∙ ap (measured 0) those.1

    pub long-refused : 1048569 < bytes → Answers (tape_to_sheet (length b) x) b (Err (record { fault = Long; at = 0 })) b
    unfolding sheet_made in_room
    long-refused h =
        answers b b (Err (record { fault = Long; at = 0 })) (tape_to_sheet (length b) x) (refused 1 0)
        (ap (λ (t : LinesSay). in_room (length b) (sheet_made t)) those.1 ∙ simp (lt-leb (length (sheet_of those.0)) 1048576 (measured-high those.0 bytes counted h))) refl refl

    module _ (h : bytes ≤ 1048569) where
      size : length (sheet_of those.0) ≡ bytes + 7
      size = measured-low those.0 bytes counted h

      is_made : sheet_made (text_says x) ≡ made (sheet_of those.0)
      unfolding sheet_made
      is_made = ap sheet_made those.1 ∙ simp (le-leb (length (sheet_of those.0)) 1048576 (omega (arith, size)))

      pub room-refused : length b < bytes + 7 → Answers (tape_to_sheet (length b) x) b (Err (record { fault = Room; at = 0 })) b
      unfolding in_room
      room-refused g = answers b b (Err (record { fault = Room; at = 0 })) (tape_to_sheet (length b) x) (refused 16 0) (ap (in_room (length b)) is_made ∙ simp (lt-leb (length (sheet_of those.0)) (length b) (omega (arith, size)))) refl refl

      pub fitting : bytes + 7 ≤ length b → Fitting x b
      fitting g = record { fields = those.0; says = those.1; room = omega (arith, size); small = omega (arith, size) }

      pub whole : bytes + 7 ≤ length b → {b' : List ℕ} → Sheeted x b b' → Answers (tape_to_sheet (length b) x) b (Ok (bytes + 7)) b'
      unfolding in_room
      whole g {b'} s =
          let same : s.fields ≡ those.0 = told_is s.fields those.0 (sym s.says ∙ those.1) in
          answers b b' (Ok (bytes + 7)) (tape_to_sheet (length b) x) (made (sheet_of those.0))
          (ap (in_room (length b)) is_made ∙ simp (le-leb (length (sheet_of those.0)) (length b) (omega (arith, size))))
          (ap (gives tt) (sym size))
          (s.bytes ∙ ap (λ (fs : List Field). over b 0 (sheet_of fs)) same)
