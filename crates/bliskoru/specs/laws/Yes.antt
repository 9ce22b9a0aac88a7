-- 0 says yes and nothing else does: no refusal has the number 0, and no list the length 0.
--     read_some, write-some, sheet-some, tape-some, untape-some, move_some     the number of a refusal is 1 or more
--     list-some                             a list has a byte or more
-- Assumes nothing.
use Rattle.std.specs.Prelude.{ℕ, ◌+◌, ◌<◌, ◌≡◌, refl, Bool, true, false, cond, List, [], ◌∷◌, ◌++◌, leb, eqb, length, Option, Some, None}
use Rattle.std.proofs.Common.{sym, ap, ◌∙◌, arith, length-append}
use Rattle.std.proofs.lemmas.Bool.{eqb-false}
use Rattle.field.specs.declared.Form.{Form}
use Rattle.field.specs.declared.Field.{Field}
use Rattle.field.specs.Judging.{fine, alone, judge}
use Rattle.field.specs.Said.{Said, gives, refuses, settled}
use Rattle.field.specs.Reading.{shape_at, judged, read_field}
use Rattle.field.specs.Writing.{written}
use Rattle.field.specs.laws.Field.{clash}
use Rattle.field.specs.declared.Field.TheVariants.{Header, PreviousClose, Trade, Quote, End}
use Rattle.admit.specs.declared.Progress.{Progress}
use Rattle.admit.specs.Admitting.{start, Step, goes, ends, stops, admit, admitted, admit_number}
use Rattle.admit.specs.laws.Admitting.{stopped}
use Rattle.sheet.specs.Fields.{fields_of}
use Rattle.sheet.specs.Judgement.{refuses-at, judge_sheet}
use Rattle.sheet.specs.declared.Day.{Day}
use Rattle.header_mover.specs.Moving.{moved_bytes, movable, moved_of, moved}
use Rattle.items.specs.Items.{first, rest}
use Rattle.line_reader.specs.Lines.{field_in}
use Rattle.tape.specs.Tape.{LinesSay, tells, bad, with, capped, onward, say_line, at_last, say_lines, text_says, sheet_of, sheet_made, text_of, text_made, tape_to_sheet, sheet_to_tape}
use Rattle.filled_buffer.specs.Filling as Filling
use Rattle.filled_buffer.specs.laws.Filling.{of-sheet-some, limit-some, room-some}
use Rattle.price_rules.specs.Closing.{Answers, six, none-priced, answers_of}
use Rattle.names.specs.Names.{metal_name, too_long_name}
use Rattle.list_lines.specs.Listing.{space, line_feed, line, refusal, answer_lines, list_text, list_of}
use Rattle.sheet.specs.laws.Earned.{Earned, too_long, bad-shape, bad-field, trailing, earned}

-- what is settled with a number has another number than 0
settled-some : {A : Type 0} (number at m place : ℕ) (given : A) (next : ℕ) → settled number at given next ≡ refuses m place → 0 < m
unfolding settled
settled-some number at m place given next e = by (eqb number fine) refl
  where
    by : (t : Bool) → eqb number fine ≡ t → 0 < m
    by true h = let g = simp h at e in clash cc
    by false h =
        let g : refuses number at ≡ refuses m place = simp h at e in
        let same : number ≡ m = cc in
        omega (arith, eqb-false number fine h)

pub shape-some : (s : List ℕ) (at m place : ℕ) → shape_at s at ≡ refuses m place → 0 < m
unfolding shape_at
shape-some s at m place e = settled-some _ at m place _ _ e

-- a field that is read
pub read_some : (s : List ℕ) (at m place : ℕ) → read_field s at ≡ refuses m place → 0 < m
unfolding read_field
read_some s at m place e = by (shape_at s at) refl
  where
    by : (x : Said Field) → shape_at s at ≡ x → 0 < m
    by (gives f next) h = settled-some (judge alone f) at m place f next (sym (ap (judged at) h) ∙ e)
    by (refuses n p) h =
        let g : refuses n p ≡ refuses m place = sym (ap (judged at) h) ∙ e in
        let same : n ≡ m = cc in
        omega (arith, shape-some s at n p h)

-- a field that is written
pub write-some : (b : List ℕ) (at : ℕ) (f : Field) (m place : ℕ) → written b at f ≡ refuses m place → 0 < m
unfolding written
write-some b at f m place e = settled-some _ at m place tt _ e

with-bad : (f : Field) (t : LinesSay) (n at : ℕ) → with f t ≡ bad n at → t ≡ bad n at
with-bad f (tells fs) n at e = clash cc
with-bad f (bad k l) n at e = cc

-- a sheet
stops-some : (p : Progress) (f : Field) (n : ℕ) → admit p f ≡ stops n → 0 < n
unfolding admit admitted
stops-some p f n e = by (eqb (admit_number p f) fine) refl
  where
    never : (f : Field) → admitted p f ≡ stops n → 0 < n
    never (Header metal marks form) h = clash cc
    never (PreviousClose instrument price) h = clash cc
    never (Trade time instrument price lots) h = clash cc
    never (Quote time instrument sides bid offer) h = clash cc
    never (End count) h = clash cc

    by : (t : Bool) → eqb (admit_number p f) fine ≡ t → 0 < n
    by true h = never f (simp h at e)
    by false h = omega (arith, eqb-false (admit_number p f) fine h, stopped p f n e)

pub sheet-some : (s : List ℕ) (n at : ℕ) → judge_sheet s ≡ refuses-at n at → 0 < n
sheet-some s n at e = by (earned s n at e)
  where
    by : {n at : ℕ} → Earned s n at → 0 < n
    by (too_long h) = omega arith
    by (bad-shape {n = n} {at = at} {place = place} small b h) = shape-some s at n place h
    by (bad-field {n = n} {f = f} small b d h) = stops-some b.progress f n h
    by (trailing small b d h k) = omega arith

-- ---- a text, and a sheet that is turned into one

bad-some : (line : ℕ) (p : Progress) (l : List ℕ) (ls : List (List ℕ)) (n at : ℕ) → say_lines line p l ls ≡ bad n at → 0 < n
unfolding say_lines at_last say_line onward
bad-some line p l [] n at e = by (eqb (length l) 0) (eqb p.stage 0) e
  where
    by : (t u : Bool) → cond t (cond u (bad 5 1) (tells [])) (bad 17 line) ≡ bad n at → 0 < n
    by true true g = let z : 5 ≡ n = cc in omega arith
    by true false g = clash cc
    by false u g = let z : 17 ≡ n = cc in omega arith
bad-some line p l (m ∷ ls) n at e = by (field_in l) e (λ q g. bad-some (line + 1) q m ls n at g)
  where
    step : (f : Field) (t : Step) → admit (capped p) f ≡ t → onward line f t (λ q. say_lines (line + 1) q m ls) ≡ bad n at → ((q : Progress) → say_lines (line + 1) q m ls ≡ bad n at → 0 < n) → 0 < n
    step f (goes q) a g later = later q (with-bad f (say_lines (line + 1) q m ls) n at g)
    step f ends a g later = let z : 17 ≡ n = cc in omega arith
    step f (stops k) a g later = let z : k ≡ n = cc in omega (arith, stops-some (capped p) f k a)

    by : (t : Option Field) → say_line line p t (λ q. say_lines (line + 1) q m ls) ≡ bad n at → ((q : Progress) → say_lines (line + 1) q m ls ≡ bad n at → 0 < n) → 0 < n
    by (Some f) g later = step f (admit (capped p) f) refl g later
    by None g later = let z : 17 ≡ n = cc in omega arith

made_some : (t : LinesSay) → ((k at : ℕ) → t ≡ bad k at → 0 < k) → (n place : ℕ) → sheet_made t ≡ Filling.refused n place → 0 < n
unfolding sheet_made
made_some (tells fs) some n place e = limit-some (sheet_of fs) n place e
made_some (bad k at) some n place e = let z : k ≡ n = cc in omega (arith, some k at refl)

pub tape-some : (room : ℕ) (x : List ℕ) (n place : ℕ) → tape_to_sheet room x ≡ Filling.refused n place → 0 < n
tape-some room x n place e = room-some room (sheet_made (text_says x)) n place (λ k at. made_some (text_says x) (bad-some 1 start (first 10 x) (rest 10 x)) k at) e

pub untape-some : (room : ℕ) (s : List ℕ) (n place : ℕ) → sheet_to_tape room s ≡ Filling.refused n place → 0 < n
untape-some room s n place e =
    room-some room (text_made (fields_of s) (judge_sheet s)) n place (λ k at g. of-sheet-some (judge_sheet s) (λ day. Filling.made (text_of (fields_of s))) k at (sheet-some s) (λ day m p h. clash cc) g) e

-- ---- a sheet that is moved to the other header

pub move_some : (wanted : Form) (room : ℕ) (s : List ℕ) (n place : ℕ) → moved wanted room s ≡ Filling.refused n place → 0 < n
move_some wanted room s n place e =
    room-some room (Filling.of_sheet (judge_sheet s) (moved_of wanted (fields_of s))) n place (λ k at g. of-sheet-some (judge_sheet s) (moved_of wanted (fields_of s)) k at (sheet-some s) some g) e
  where
    by : (can : Bool) (t : List ℕ) (k at : ℕ) → cond can (Filling.within_limit t) (Filling.refused 19 0) ≡ Filling.refused k at → 0 < k
    by true t k at h = limit-some t k at h
    by false t k at h = let z : 19 ≡ k = cc in omega arith

    some : (day : Day) (k at : ℕ) → moved_of wanted (fields_of s) day ≡ Filling.refused k at → 0 < k
    some day k at h = by (movable wanted day.form) (moved_bytes wanted (fields_of s)) k at h

-- ---- the list: every line has its line feed

behind-some : (xs ys : List ℕ) → 0 < length ys → 0 < length (xs ++ ys)
behind-some xs ys h = simp length-append (omega arith)

line-some : (items : List (List ℕ)) → 0 < length (line items)
line-some [] = omega arith
line-some (last ∷ []) = behind-some last (line_feed ∷ []) (omega arith)
line-some (item ∷ next ∷ items) = behind-some item (space ∷ line (next ∷ items)) (omega arith)

before-some : (xs ys : List ℕ) → 0 < length xs → 0 < length (xs ++ ys)
before-some xs ys h = simp length-append (omega arith)

text-some : (answers : Answers) → 0 < length (list_text answers)
unfolding list_text
text-some (six day tolds) = before-some (line (metal_name day.metal ∷ [])) (answer_lines 0 tolds) (line-some (metal_name day.metal ∷ []))
text-some (none-priced number at) = line-some (refusal number at)

pub list-some : (s : List ℕ) → 0 < length (list_of s)
unfolding list_of
list-some s = by (leb (length s) 65536)
  where
    by : (t : Bool) → 0 < length (cond t (list_text (answers_of s)) (line (too_long_name ∷ [])))
    by true = text-some (answers_of s)
    by false = line-some (too_long_name ∷ [])
