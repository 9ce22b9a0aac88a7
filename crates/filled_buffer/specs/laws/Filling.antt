-- What is said of the lent buffer, by what was made.
--     answers        what a function promises of its answer and of the buffer, from what was made
--     judged-made, judged-refused    the same of what is made of a sheet, by what judging it said
--     sheet-made     what is made of a sheet is made of an accepted one;  limit-made    a sheet is made within the limit alone
--     room-made, made-room    what is put was made, and what was made is put where there is room
--     of-sheet-some, limit-some, room-some    a refusal has another number than 0
-- Assumes nothing.
use Rattle.std.specs.Prelude.{ℕ, ◌≤◌, ◌<◌, Bool, true, false, cond, ◌≡◌, List, leb, length, Result, Ok, Err}
use Rattle.std.proofs.Math.Path.{refl, ap, subst}
use Rattle.std.proofs.Common.{sym, ◌∙◌, arith, le-leb, leb-true}
use Rattle.sheet.specs.declared.Day.{Day}
use Rattle.sheet.specs.Judgement.{Verdict, accepts, refuses-at, judged_says}
use Rattle.field.specs.declared.Refusal.{Refusal}
use Rattle.field.specs.Said.{refuses, fault_number, written_says}
use Rattle.filled_buffer.specs.Filling.{Made, made, refused, of_sheet, within_limit, in_room, buffer_with, filled}

-- bytes that are made are no refusal
no_bytes : {A : Type 0} {s : List ℕ} {number place : ℕ} → made s ≡ refused number place → A
no_bytes e = let z : ◌≡◌ {A = ℕ} 0 1 = cc in absurd (omega arith)

-- the answer, and the buffer behind the call
abbrev pub Answers : Made → List ℕ → Result ℕ Refusal → List ℕ → Type 0
Answers m b r b' = (written_says r ≡ filled m) × (b' ≡ buffer_with b m)

pub answers : (b b' : List ℕ) (r : Result ℕ Refusal) (m n : Made) → m ≡ n → written_says r ≡ filled n → b' ≡ buffer_with b n → Answers m b r b'
answers b b' r m n e f g = (f ∙ ap filled (sym e), g ∙ ap (buffer_with b) (sym e))

-- of a sheet, as the code finds it judged
module _ (b : List ℕ) (make : Day → Made) {v : Verdict} {j : Result Day Refusal} (q : judged_says j ≡ v) where
  pub judged-made : {day : Day} → j ≡ Ok day → (r : Result ℕ Refusal) {b' : List ℕ} → Answers (in_room (length b) (make day)) b r b' → Answers (in_room (length b) (of_sheet v make)) b r b'
  unfolding of_sheet
  judged-made d r {b'} u = subst (λ (m : Made). Answers (in_room (length b) m) b r b') (ap (λ (w : Verdict). of_sheet w make) (sym (ap judged_says d) ∙ q)) u

  pub judged-refused : {refusal : Refusal} → j ≡ Err refusal → (r : Result ℕ Refusal) → written_says r ≡ refuses (fault_number refusal.fault) refusal.at → Answers (in_room (length b) (of_sheet v make)) b r b
  unfolding of_sheet in_room
  judged-refused {refusal} d r e = answers b b r _ (refused (fault_number refusal.fault) refusal.at) (ap (λ (w : Verdict). in_room (length b) (of_sheet w make)) (sym q ∙ ap judged_says d)) e refl

-- ---- what is made

pub sheet-made : (v : Verdict) (make : Day → Made) (s : List ℕ) → of_sheet v make ≡ made s → (day : Day) × (v ≡ accepts day) × (make day ≡ made s)
unfolding of_sheet
sheet-made (accepts day) make s e = (day, refl, e)
sheet-made (refuses-at number byte) make s e = no_bytes (sym e)

picked : (b : Bool) (t s : List ℕ) (number place : ℕ) → cond b (made t) (refused number place) ≡ made s → (b ≡ true) × (t ≡ s)
picked true t s number place e = (refl, cc)
picked false t s number place e = no_bytes (sym e)

pub limit-made : (t s : List ℕ) → within_limit t ≡ made s → (length t ≤ 1048576) × (t ≡ s)
limit-made t s e = let p = picked (leb (length t) 1048576) t s 1 0 e in (leb-true (length t) 1048576 p.0, p.1)

pub room-made : (room : ℕ) (m : Made) (s : List ℕ) → in_room room m ≡ made s → m ≡ made s
unfolding in_room
room-made room (made t) s e = ap made (picked (leb (length t) room) t s 16 0 e).1
room-made room (refused number place) s e = no_bytes (sym e)

pub made-room : (room : ℕ) (m : Made) (s : List ℕ) → m ≡ made s → length s ≤ room → in_room room m ≡ made s
unfolding in_room
made-room room m s e h = ap (in_room room) e ∙ simp (le-leb (length s) room h)

-- ---- what is refused

-- made where a test holds, and refused with the test's number where it does not
some-by : (b : Bool) (t : List ℕ) (k n place : ℕ) → 0 < k → cond b (made t) (refused k 0) ≡ refused n place → 0 < n
some-by true t k n place h e = no_bytes e
some-by false t k n place h e = let z : k ≡ n = cc in omega arith

pub of-sheet-some : (v : Verdict) (make : Day → Made) (n place : ℕ) → ((k at : ℕ) → v ≡ refuses-at k at → 0 < k) → ((day : Day) (k at : ℕ) → make day ≡ refused k at → 0 < k) → of_sheet v make ≡ refused n place → 0 < n
unfolding of_sheet
of-sheet-some (accepts day) make n place own some e = some day n place e
of-sheet-some (refuses-at number byte) make n place own some e = let z : number ≡ n = cc in omega (arith, own number byte refl)

pub limit-some : (t : List ℕ) (n place : ℕ) → within_limit t ≡ refused n place → 0 < n
limit-some t n place e = some-by (leb (length t) 1048576) t 1 n place (omega arith) e

pub room-some : (room : ℕ) (m : Made) (n place : ℕ) → ((k at : ℕ) → m ≡ refused k at → 0 < k) → in_room room m ≡ refused n place → 0 < n
unfolding in_room
room-some room (made s) n place some e = some-by (leb (length s) room) s 16 n place (omega arith) e
room-some room (refused k at) n place some e = let z : k ≡ n = cc in omega (arith, some k at refl)
