-- A moved sheet as the code makes it: the wanted header, and the bytes behind the sheet's own.
--     rest-same      behind the header no field has a form
--     moved-is       the moved sheet's bytes;  moved-long    and how many they are
--     move-..        what is answered, and what stands in the buffer, in each case
-- Assumes nothing.
use Rattle.std.specs.Prelude.{ℕ, ◌+◌, ◌-◌, ◌≤◌, Bool, true, false, cond, ◌≡◌, refl, leb, eqb, length, take, drop, Result, Ok, Err}
use Rattle.std.proofs.Math.Path.{sym, ap}
use Rattle.std.proofs.Common.{ap₂, ◌∙◌, arith, eq-eqb, ne_eqb, le-leb, leb-true, length-append, length-drop, take_all, drop_at}
use mathlib.Core.List.{List, [], ◌∷◌, ◌++◌, map}
use Rattle.wire.specs.Big.{Bytes, put}
use Rattle.wire.specs.laws.Trips.{put-fits}
use Rattle.text.specs.Over.{over, put_buffer}
use Rattle.text.specs.laws.Putting.{Wrote, over-length, then}
use Rattle.field.specs.declared.Form.{Form}
use Rattle.field.specs.declared.Form.TheVariants.{Short, Long}
use Rattle.field.specs.declared.Field.{Field}
use Rattle.field.specs.declared.Field.TheVariants.{Header, PreviousClose, Trade, Quote, End}
use Rattle.field.specs.Judging.{fine, unless, also, both, third_of}
use Rattle.field.specs.Layout.{form_tag, tag_of, field_bytes}
use Rattle.field.specs.Writing.{field_size}
use Rattle.field.specs.laws.Field.{field-length}
use Rattle.admit.specs.laws.Admitting.{Later}
use Rattle.sheet.specs.declared.Day.{Day}
use Rattle.sheet.specs.Fields.{fields_of, encode, Each}
use Rattle.sheet.specs.Judgement.{judge_sheet, judged_says}
use Rattle.sheet.specs.laws.Accepted.{accepted-header, accepted-small}
use Rattle.sheet.specs.laws.Encoding.{accepted-encodes}
use Rattle.field.specs.declared.Fault.{Fault}
use Rattle.field.specs.declared.Refusal.{Refusal}
use Rattle.field.specs.Said.{gives, refuses, fault_number, found, written_says}
use Rattle.field.specs.laws.Said.{fault-not-fine}
use Rattle.filled_buffer.specs.Filling.{made, refused, within_limit, in_room}
use Rattle.filled_buffer.specs.laws.Filling.{Answers, answers}
use Rattle.header_mover.specs.Moving.{with_form, moved_bytes, movable, moved_of}
use Rattle.header_mover.specs.laws.Moving.{Accepted, header_size, Fitting, move_number}

-- ---- behind the header no field has a form

pub later_same : (wanted : Form) (f : Field) → Later f → with_form wanted f ≡ f
later_same wanted (Header metal marks form) h = absurd h
later_same wanted (PreviousClose instrument price) h = refl
later_same wanted (Trade time instrument price lots) h = refl
later_same wanted (Quote time instrument sides bid offer) h = refl
later_same wanted (End count) h = refl

pub rest-same : (wanted : Form) (fs : List Field) → Each Later fs → map (with_form wanted) fs ≡ fs
rest-same wanted [] h = refl
rest-same wanted (f ∷ fs) h = ap₂ ◌∷◌ (later_same wanted f h.0) (rest-same wanted fs h.1)

-- ---- the bytes

header-most : (form : Form) → header_size form ≤ 7
header-most Short = omega arith
header-most (Long third) = omega arith

module _ (s : List ℕ) (day : Day) (a : Accepted s day) where
  -- the header in a form, and the fields behind it
  abbrev headed : Form → Field
  headed form = Header day.metal day.marks form

  abbrev pub rest_of : List Field
  rest_of = (accepted-header s day a.judged).rest

  pub moved-fields : (wanted : Form) → map (with_form wanted) (fields_of s) ≡ headed wanted ∷ rest_of
  moved-fields wanted =
      let first = accepted-header s day a.judged in
      ap (map (with_form wanted)) first.is ∙ ap (λ (fs : List Field). headed wanted ∷ fs) (rest-same wanted first.rest first.only)

  header-long : (form : Form) → length (field_bytes (headed form)) ≡ header_size form
  unfolding tag_of
  header-long form = field-length (headed form)

  pub sheet-is : s ≡ field_bytes (headed day.form) ++ encode rest_of
  unfolding encode
  sheet-is = accepted-encodes s day a.bytes a.judged ∙ ap encode (accepted-header s day a.judged).is

  behind-is : drop (header_size day.form) s ≡ encode rest_of
  behind-is = ap (drop (header_size day.form)) sheet-is ∙ drop_at (field_bytes (headed day.form)) (encode rest_of) (header_size day.form) (header-long day.form)

  pub header-inside : header_size day.form ≤ length s
  header-inside = omega (arith, ap length sheet-is, length-append (field_bytes (headed day.form)) (encode rest_of), header-long day.form)

  -- as the code has it: where the rest starts, and that the moved sheet can be counted
  pub header-starts : {from : ℕ} → from ≡ header_size day.form → from ≤ length s
  header-starts e = omega (arith, e, header-inside)

  pub moved-most : (wanted : Form) {from to : ℕ} → to ≡ header_size wanted → from ≡ header_size day.form → to + (length s - from) ≤ 1048583
  moved-most wanted e f = omega (arith, e, header-most wanted, accepted-small s day a.judged)

  pub moved-is : (wanted : Form) → moved_bytes wanted (fields_of s) ≡ field_bytes (headed wanted) ++ drop (header_size day.form) s
  unfolding encode
  moved-is wanted = ap encode (moved-fields wanted) ∙ ap (λ (l : List ℕ). field_bytes (headed wanted) ++ l) (sym behind-is)

  pub moved-long : (wanted : Form) → length (moved_bytes wanted (fields_of s)) ≡ header_size wanted + (length s - header_size day.form)
  moved-long wanted =
      omega (arith, ap length (moved-is wanted), length-append (field_bytes (headed wanted)) (drop (header_size day.form) s), header-long wanted, length-drop (header_size day.form) s)

-- ---- putting them

module _ (s b : List ℕ) (day : Day) (wanted : Form) (f : Fitting s b day wanted) where
  -- there is room for both of its parts
  pub fitting-room : header_size wanted + (length s - header_size day.form) ≤ length b
  fitting-room = omega (arith, f.room, moved-long s day f.accepted wanted)

  -- there is room for the header
  pub header-fits : {h : Field} → h ≡ Header day.metal day.marks wanted → field_size h ≤ length b
  unfolding tag_of
  header-fits e = rw e (omega (arith, fitting-room))

  -- the header, then the rest, are the moved sheet
  put_both : {b' b'' : List ℕ} → b' ≡ put (field_bytes (Header day.metal day.marks wanted)) b → b'' ≡ put_buffer b' (header_size wanted) (drop (header_size day.form) s) → b'' ≡ over b 0 (moved_bytes wanted (fields_of s))
  put_both {b'} {b''} e g =
      let h = field_bytes (Header day.metal day.marks wanted) in
      let rest = drop (header_size day.form) s in
      let long = header-long s day f.accepted wanted in
      let fits : length h ≤ length b = omega (arith, long, fitting-room) in
      let z : length h ≡ 0 + length h = omega arith in
      let first : b' ≡ over b 0 h = e ∙ put-fits h b fits ∙ ap (λ (n : ℕ). h ++ drop n b) z in
      let size : length rest ≡ length s - header_size day.form = length-drop (header_size day.form) s in
      let room : header_size wanted + length rest ≤ length b' = omega (arith, ap length first, over-length b h 0 (omega arith), size, fitting-room) in
      let w : Wrote b 0 (h ++ rest) (header_size wanted + length rest) b'' =
      then {b = b} {p = h} {q = rest} {b' = b'} {b'' = b''} {at = 0} {r = header_size wanted} {r'' = header_size wanted + length rest}
      (λ k. record { next = omega (arith, long); bytes = first })
      (λ k. record { next = refl; bytes = g ∙ simp (le-leb (header_size wanted + length rest) (length b') room) })
      (omega (arith, length-append h rest, long, size, fitting-room)) in
      w.bytes ∙ ap (over b 0) (sym (moved-is s day f.accepted wanted))

  -- as the code puts them: the header by its field, the rest by a part of the sheet
  pub moved-put : {h : Field} {b' b'' : List ℕ} {from to : ℕ} → from ≡ header_size day.form → h ≡ Header day.metal day.marks wanted → b' ≡ put (field_bytes h) b → to ≡ header_size wanted
      → b'' ≡ put_buffer b' to (take (length s - from) (drop from s)) → b'' ≡ over b 0 (moved_bytes wanted (fields_of s))
  moved-put {h} {b'} {b''} {from} {to} start is first place second =
      let whole : take (length s - from) (drop from s) ≡ drop (header_size day.form) s = take_all (length s - from) (drop from s) (omega (arith, length-drop from s)) ∙ ap (λ (n : ℕ). drop n s) start in
      put_both (first ∙ ap (λ (g : Field). put (field_bytes g) b) is) (second ∙ ap₂ (put_buffer b') place whole)

-- ---- the answers

-- the two tests of a form
module _ (wanted form : Form) {a b : ℕ} (e : a ≡ form_tag form) (f : b ≡ form_tag wanted) where
  pub tag_same : a ≡ b → false ≡ movable wanted form
  unfolding both
  tag_same h = simp (eq-eqb (form_tag form) (form_tag wanted) (sym e ∙ h ∙ f))

  pub tag-other : (a ≡ b → ⊥) → {x y : ℕ} → x ≡ third_of form → y ≡ third_of wanted → eqb x y ≡ movable wanted form
  unfolding both
  tag-other h g k = simp (ne_eqb (form_tag form) (form_tag wanted) (λ z. h (e ∙ z ∙ sym f)), g, k)

-- made where no number is found, and else refused with it
move-settled : (can : Bool) (t : List ℕ) (room : ℕ) → in_room room (cond can (within_limit t) (refused 19 0)) ≡ cond (eqb (move_number can (length t) room) fine) (made t) (refused (move_number can (length t) room) 0)
unfolding in_room unless also
move-settled false t room = refl
move-settled true t room = by-limit (leb (length t) 1048576) (leb (length t) room) refl
  where
    numberBy : Bool → ℕ
    numberBy small = also (unless true 19 fine) (also (unless small 1 fine) (unless (leb (length t) room) 16 fine))

    by-limit : (small fits : Bool) → leb (length t) room ≡ fits → in_room room (cond small (made t) (refused 1 0)) ≡ cond (eqb (numberBy small) fine) (made t) (refused (numberBy small) 0)
    by-limit false fits e = refl
    by-limit true true e = rw e refl
    by-limit true false e = rw e refl

-- no number is found only where there is room
move-fits : (can : Bool) (len room : ℕ) → move_number can len room ≡ fine → len ≤ room
unfolding unless also
move-fits can len room e = by can (leb len 1048576) (leb len room) refl e
  where
    by : (can small fits : Bool) → leb len room ≡ fits → also (unless can 19 fine) (also (unless small 1 fine) (unless fits 16 fine)) ≡ fine → len ≤ room
    by false small fits g h = absurd (omega (arith, h))
    by true false fits g h = absurd (omega (arith, h))
    by true true false g h = absurd (omega (arith, h))
    by true true true g h = leb-true len room g

-- of an accepted sheet, by the sizes of both headers and what was found
module _ (s b : List ℕ) (day : Day) (wanted : Form) (a : Accepted s day) {from to : ℕ} {can : Bool} (e : to ≡ header_size wanted) (g : from ≡ header_size day.form) (h : can ≡ movable wanted day.form)
    (answer : Result (Unit {0}) Fault) (q : found answer ≡ move_number can (to + (length s - from)) (length b)) where
  size : to + (length s - from) ≡ length (moved_bytes wanted (fields_of s))
  size = ap₂ (λ (n m : ℕ). n + (length s - m)) e g ∙ sym (moved-long s day a wanted)

  found-is : found answer ≡ move_number (movable wanted day.form) (length (moved_bytes wanted (fields_of s))) (length b)
  found-is = q ∙ ap₂ (λ (t : Bool) (n : ℕ). move_number t n (length b)) h size

  settled : in_room (length b) (moved_of wanted (fields_of s) day) ≡ cond (eqb (found answer) fine) (made (moved_bytes wanted (fields_of s))) (refused (found answer) 0)
  settled =
      move-settled (movable wanted day.form) (moved_bytes wanted (fields_of s)) (length b)
      ∙ ap (λ (n : ℕ). cond (eqb n fine) (made (moved_bytes wanted (fields_of s))) (refused n 0)) (sym found-is)

  -- where a fault was found
  pub move-refused : (r : Result ℕ Refusal) → (fault : Fault) × (answer ≡ Err fault) × (written_says r ≡ refuses (fault_number fault) 0) → Answers (in_room (length b) (moved_of wanted (fields_of s) day)) b r b
  move-refused r (fault, d, told) =
      let some : eqb (found answer) fine ≡ false = ap (λ (x : Result (Unit {0}) Fault). eqb (found x) fine) d ∙ ne_eqb (fault_number fault) 0 (fault-not-fine fault) in
      answers b b r _ (refused (fault_number fault) 0) (settled ∙ simp some (ap (λ (x : Result (Unit {0}) Fault). refused (found x) 0) d)) told refl

  pub move-fitting : found answer ≡ 0 → Fitting s b day wanted
  move-fitting none = record { accepted = a; room = move-fits (movable wanted day.form) (length (moved_bytes wanted (fields_of s))) (length b) (sym found-is ∙ none) }

  pub move-whole : found answer ≡ 0 → {b' : List ℕ} → b' ≡ over b 0 (moved_bytes wanted (fields_of s)) → Answers (in_room (length b) (moved_of wanted (fields_of s) day)) b (Ok (to + (length s - from))) b'
  move-whole none {b'} is = answers b b' (Ok (to + (length s - from))) _ (made (moved_bytes wanted (fields_of s))) (settled ∙ simp (eq-eqb (found answer) 0 none)) (ap (gives tt) size) is

-- a sheet that judging accepted
pub judged-accepted : (s : List ℕ) {j : Result Day Refusal} → judged_says j ≡ judge_sheet s → Bytes s → {day : Day} → j ≡ Ok day → Accepted s day
judged-accepted s q bytes d = record { bytes = bytes; judged = sym q ∙ ap judged_says d }
