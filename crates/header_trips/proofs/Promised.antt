-- The laws of what `to_new_header` and `to_old_header` promise: they hold of any results that their own contracts permit, whatever their code.
--     ToNew, ToOld          what the contracts permit, as the compiler generated them
--     new-then-old, old-then-new    a sheet moved there and back is put with its first bytes
--     new-closings, old-closings    `closings` of a sheet and of the moved one
-- Assumes nothing. Every entry of a slice of bytes is a byte: `Bytes` says so.
use Prim.Native.Nat.{ℕ, ◌+◌, ◌≤◌}
use mathlib.Core.Path.{◌≡◌, refl, sym, ap, ap₂, ◌∙◌}
use mathlib.Core.List.{List, ◌++◌}
use Rattle.std.specs.Prelude.{Result, Ok}
use lib.ListN.{length, take, drop}
use lib.Seq.{take-append_seam}
use borrow.Fn.Kinds.{ended_of}
use contract.Lifetimes.{Lfts}
use denote.Bor.{Bor}
use denote.MutBor.{MutBor}
use denote.Triple.Clauses.{AtExit}
use Rattle.wire.specs.Big.{Bytes}
use Rattle.field.specs.declared.Form.{Form}
use Rattle.field.specs.declared.Form.TheVariants.{Short, Long}
use Rattle.field.specs.laws.Field.{clash}
use Rattle.text.specs.Over.{over}
use Rattle.sheet.specs.declared.Day.{Day}
use Rattle.price_rules.specs.declared.SixAnswers.{SixAnswers}
use Rattle.price_rules.specs.Closing.{six, answers_of}
use Rattle.price_rules.specs.Says.{closings_say}
use Rattle.price_rules.specs.laws.Says.{closed-once}
use Rattle.laws.proofs.Promised.{Closes, says, six-day, six-answers}
use Rattle.field.specs.declared.Refusal.{Refusal}
use Rattle.field.specs.laws.Said.{written_once}
use Rattle.field.specs.Said.{written_says}
use Rattle.filled_buffer.specs.Filling.{Made, made, refused, buffer_with, filled}
use Rattle.filled_buffer.specs.laws.Filling.{Answers}
use Rattle.header_mover.specs.Moving.{moved}
use Rattle.header_mover.proofs.to_new_header.Reads as to-new
use Rattle.header_mover.proofs.to_new_header.Kinds as to-newK
use Rattle.header_mover.proofs.to_old_header.Reads as to-old
use Rattle.header_mover.proofs.to_old_header.Kinds as to-oldK
use Rattle.header_trips.specs.Moves.{day_in}
use Rattle.header_trips.specs.laws.Moved.{keeps, new-and-back, old-and-back}

-- `to_new_header`, lent a sheet that holds s and a buffer that holds b, may answer x and leave the bytes `after`
pub record ToNew (s b : List ℕ) (x : Result ℕ Refusal) (after : List ℕ) : Type 0 where
  pub κs : Lfts 2
  pub sheet : Bor (List ℕ)
  pub out : MutBor (List ℕ)
  pub exit : AtExit (ended_of 2 to-newK.ps to-newK.r) κs
  pub permits : to-new.Post κs (sheet, (out, tt)) x exit
  pub holds : sheet.now ≡ s
  pub lent : out.now ≡ b
  pub leaves : exit.1.0.now ≡ after

-- and so `to_old_header`
pub record ToOld (s b : List ℕ) (x : Result ℕ Refusal) (after : List ℕ) : Type 0 where
  pub κs : Lfts 2
  pub sheet : Bor (List ℕ)
  pub out : MutBor (List ℕ)
  pub exit : AtExit (ended_of 2 to-oldK.ps to-oldK.r) κs
  pub permits : to-old.Post κs (sheet, (out, tt)) x exit
  pub holds : sheet.now ≡ s
  pub lent : out.now ≡ b
  pub leaves : exit.1.0.now ≡ after

-- ---- what the contracts say, of the bytes that were lent

-- the answer and the bytes left are the definition's
record Moves (wanted : Form) (s b : List ℕ) (x : Result ℕ Refusal) (after : List ℕ) : Type 0 where
  says_so : Answers (moved wanted (length b) s) b x after

lent-as : (wanted : Form) {s s' b b' after after' : List ℕ} {x : Result ℕ Refusal} → s ≡ s' → b ≡ b' → after ≡ after' → Answers (moved wanted (length b) s) b x after → Moves wanted s' b' x after'
lent-as wanted {s} {s'} {b} {b'} {after} {after'} {x} e f g m =
    let same : moved wanted (length b) s ≡ moved wanted (length b') s' = ap₂ (λ (l t : List ℕ). moved wanted (length l) t) f e in
    record { says_so = (m.0 ∙ ap filled same, sym g ∙ m.1 ∙ ap₂ buffer_with f same) }

new-moves : {s b after : List ℕ} {x : Result ℕ Refusal} → ToNew s b x after → Moves (Long 0) s b x after
new-moves t = lent-as (Long 0) t.holds t.lent t.leaves t.permits

old-moves : {s b after : List ℕ} {x : Result ℕ Refusal} → ToOld s b x after → Moves Short s b x after
old-moves t = lent-as Short t.holds t.lent t.leaves t.permits

-- ---- what was put

-- a yes says that a sheet was made, which stands at the buffer's start
record Put (wanted : Form) (s b : List ℕ) (n : ℕ) (after : List ℕ) : Type 0 where
  sheet : List ℕ
  is_made : moved wanted (length b) s ≡ made sheet
  stands : take n after ≡ sheet

put : (wanted : Form) {s b after : List ℕ} {n : ℕ} → Moves wanted s b (Ok n) after → Put wanted s b n after
put wanted {s} {b} {after} {n} m = by (moved wanted (length b) s) refl m.says_so.0 m.says_so.1
  where
    by : (t : Made) → moved wanted (length b) s ≡ t → written_says (Ok n) ≡ filled t → after ≡ buffer_with b t → Put wanted s b n after
    by (made s') e f g =
        let size : n ≡ length s' = cc in
        record { sheet = s'; is_made = e; stands = ap (take n) g ∙ ap (λ (k : ℕ). take k (s' ++ drop (0 + length s') b)) size ∙ take-append_seam s' (drop (0 + length s') b) }
    by (refused number place) e f g = clash cc

-- what the definition makes of the bytes that stand there, the function puts
puts : (wanted : Form) {t t' c after s : List ℕ} {y : Result ℕ Refusal} → t ≡ t' → Moves wanted t c y after → moved wanted (length c) t' ≡ made s → (y ≡ Ok (length s)) × (after ≡ over c 0 s)
puts wanted {t} {t'} {c} {after} {s} {y} e m d =
    let same = ap (moved wanted (length c)) e ∙ d in
    (written_once (m.says_so.0 ∙ ap filled same) refl, m.says_so.1 ∙ ap (buffer_with c) same)

-- ---- the laws

pub new-then-old : {s b after c last : List ℕ} {n : ℕ} {y : Result ℕ Refusal} → Bytes s → ToNew s b (Ok n) after → length s ≤ length c → ToOld (take n after) c y last → (y ≡ Ok (length s)) × (last ≡ over c 0 s)
new-then-old {s} {b} {after} {c} bytes there room back =
    let p = put (Long 0) (new-moves there) in
    puts Short p.stands (old-moves back) (new-and-back s p.sheet (length b) (length c) bytes p.is_made room)

pub old-then-new : {s b after c last : List ℕ} {n : ℕ} {y : Result ℕ Refusal} → Bytes s → ToOld s b (Ok n) after → length s ≤ length c → ToNew (take n after) c y last → (y ≡ Ok (length s)) × (last ≡ over c 0 s)
old-then-new {s} {b} {after} {c} bytes there room back =
    let p = put Short (old-moves there) in
    puts (Long 0) p.stands (new-moves back) (old-and-back s p.sheet (length b) (length c) bytes p.is_made room)

-- the second result has the same six answers
same-closings : (wanted : Form) {s b after : List ℕ} {n : ℕ} {day : Day} {r : SixAnswers} {y : Result (Day × SixAnswers) Refusal} → Moves wanted s b (Ok n) after → Closes s (Ok (day, r)) → Closes (take n after) y → y ≡ Ok (day_in wanted day, r)
same-closings wanted {s} {b} {after} {n} {day} {r} {y} m before now-asked =
    let p = put wanted m in
    let k = keeps wanted s p.sheet (length b) p.is_made in
    let was : six k.day k.answers ≡ six day (closings_say r) = sym k.was ∙ sym (says before) in
    let days : k.day ≡ day = six-day k.day day k.answers (closings_say r) was in
    let told : k.answers ≡ closings_say r = six-answers k.day day k.answers (closings_say r) was in
    closed-once (says now-asked ∙ ap answers_of p.stands ∙ k.is-now) (ap₂ (λ d ts. six (day_in wanted d) ts) (sym days) (sym told))

pub new-closings : {s b after : List ℕ} {n : ℕ} {day : Day} {r : SixAnswers} {y : Result (Day × SixAnswers) Refusal} → ToNew s b (Ok n) after → Closes s (Ok (day, r)) → Closes (take n after) y → y ≡ Ok (day_in (Long 0) day, r)
new-closings there = same-closings (Long 0) (new-moves there)

pub old-closings : {s b after : List ℕ} {n : ℕ} {day : Day} {r : SixAnswers} {y : Result (Day × SixAnswers) Refusal} → ToOld s b (Ok n) after → Closes s (Ok (day, r)) → Closes (take n after) y → y ≡ Ok (day_in Short day, r)
old-closings there = same-closings Short (old-moves there)
