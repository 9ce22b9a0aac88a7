-- A moved sheet is accepted and its six answers are the same; moved back it is the sheet that it was.
--     Moves        what a move that is made says of the sheet
--     keeps, new-and-back, old-and-back, longer    the laws
-- Assumes nothing.
use Rattle.std.specs.Prelude.{ℕ, ◌+◌, ◌-◌, ◌≤◌, ◌<◌, Bool, true, false, cond, ◌≡◌, refl, List, [], ◌∷◌, map, leb, length}
use Rattle.std.proofs.Common.{sym, ap, ◌∙◌, subst, arith, eqb-true, le-leb, leb-false}
use Rattle.wire.specs.Big.{Bytes}
use Rattle.field.specs.declared.Form.{Form}
use Rattle.field.specs.declared.Form.TheVariants.{Short, Long}
use Rattle.field.specs.declared.Field.{Field}
use Rattle.field.specs.declared.Field.TheVariants.{Header}
use Rattle.field.specs.Judging.{fine, both, third_of, header_right, judge}
use Rattle.field.specs.laws.Field.{clash, both_true}
use Rattle.market.specs.Market.{start_of}
use Rattle.admit.specs.laws.Admitting.{Later}
use Rattle.trades.specs.Trades.{trades_in, lots_in}
use Rattle.sheet.specs.declared.Day.{Day}
use Rattle.sheet.specs.Fields.{fields_of, encode, Each}
use Rattle.sheet.specs.Judgement.{Verdict, accepts, judge_sheet}
use Rattle.sheet.specs.laws.Accepted.{accepted-header, accepted-right, accepted-small}
use Rattle.sheet.specs.laws.Encoding.{accepted-encodes}
use Rattle.price_rules.specs.Closing.{figures_of, deals_sum, twap_by, closings_of, six}
use Rattle.laws.specs.laws.Kept.{AsBefore, Stays, Right, same-stays, headed-accepted}
use Rattle.laws.specs.laws.Figures.{trades-header, span-header}
use Rattle.laws.specs.laws.Turn.{Alike, alike}
use Rattle.laws.proofs.Lift.{answers-are}
use Rattle.filled_buffer.specs.Filling.{made, refused, of_sheet, within_limit}
use Rattle.filled_buffer.specs.laws.Filling.{sheet-made, limit-made, room-made, made-room}
use Rattle.header_mover.specs.Moving.{with_form, moved_bytes, movable, moved_of, moved}
use Rattle.header_mover.specs.laws.Moving.{Accepted, header_size}
use Rattle.header_mover.proofs.Moving.{later_same, rest-same, header-inside, moved-long}
use Rattle.header_trips.specs.Moves.{day_in, KeepsLaw, NewAndBack, OldAndBack, LongerLaw}

-- ---- which forms

-- what a header can be moved to says the same, and can be moved back
third-same : (wanted form : Form) → movable wanted form ≡ true → third_of wanted ≡ third_of form
third-same wanted form e = sym (eqb-true (third_of form) (third_of wanted) (both_true _ _ e).1)

movable-back : (wanted form : Form) → movable wanted form ≡ true → movable form wanted ≡ true
unfolding both
movable-back Short Short e = clash cc
movable-back Short (Long third) e = rw (eqb-true third 0 e) refl
movable-back (Long third) Short e = rw (sym (eqb-true 0 third e)) refl
movable-back (Long third) (Long other) e = clash cc

from_old : (form : Form) → movable (Long 0) form ≡ true → form ≡ Short
unfolding both
from_old Short e = refl
from_old (Long third) e = clash cc

from-new : (form : Form) → movable Short form ≡ true → form ≡ Long 0
unfolding both
from-new Short e = clash cc
from-new (Long third) e = ap Long (eqb-true third 0 e)

-- ---- what a move that is made says

pub record Moves (wanted : Form) (s s' : List ℕ) : Type 0 where
  pub day : Day
  pub accepted : judge_sheet s ≡ accepts day
  pub can : movable wanted day.form ≡ true
  pub bytes : moved_bytes wanted (fields_of s) ≡ s'
  pub small : length s' ≤ 1048576

-- a test before 19 held
allowed-is : (b : Bool) (t s : List ℕ) → cond b (within_limit t) (refused 19 0) ≡ made s → (b ≡ true) × (within_limit t ≡ made s)
allowed-is true t s e = (refl, e)
allowed-is false t s e = clash cc

pub moves : (wanted : Form) (room : ℕ) (s s' : List ℕ) → moved wanted room s ≡ made s' → Moves wanted s s'
moves wanted room s s' e =
    let m = sheet-made (judge_sheet s) (moved_of wanted (fields_of s)) s' (room-made room _ s' e) in
    let k = allowed-is (movable wanted m.0.form) (moved_bytes wanted (fields_of s)) s' m.2 in
    let t = limit-made (moved_bytes wanted (fields_of s)) s' k.1 in
    record { day = m.0; accepted = m.1; can = k.0; bytes = t.1; small = omega (arith, t.0, ap length t.1) }

-- ---- its fields

form-stays : (wanted : Form) → Stays (with_form wanted)
form-stays wanted m form p f h = subst (AsBefore m form p f) (sym (later_same wanted f h)) (same-stays m form p f h)

form-right : (wanted : Form) (fs : List Field) → Each Later fs → Each (Right (with_form wanted)) fs
form-right wanted [] h = tt
form-right wanted (f ∷ fs) h = ((λ before e. subst (λ (g : Field). judge before g ≡ fine) (sym (later_same wanted f h.0)) e), form-right wanted fs h.1)

-- a sheet that is moved is accepted, and its fields are the same in the wanted form
pub record Again (wanted : Form) (s s' : List ℕ) (day : Day) : Type 0 where
  pub accepted : judge_sheet s' ≡ accepts (day_in wanted day)
  pub rest : List Field
  pub was : fields_of s ≡ Header day.metal day.marks day.form ∷ rest
  pub is-now : fields_of s' ≡ Header day.metal day.marks wanted ∷ rest
  pub only : Each Later rest

pub again : (wanted : Form) (s s' : List ℕ) (k : Moves wanted s s') → Again wanted s s' k.day
again wanted s s' k =
    let day = k.day in
    let first = accepted-header s day k.accepted in
    let third = third-same wanted day.form k.can in
    let fields = Header day.metal day.marks wanted ∷ map (with_form wanted) first.rest in
    let same : encode fields ≡ s' = ap (λ (fs : List Field). encode (map (with_form wanted) fs)) (sym first.is) ∙ k.bytes in
    let right : header_right day.metal day.marks (third_of wanted) ≡ true = ap (header_right day.metal day.marks) third ∙ accepted-right s day k.accepted in
    let t = headed-accepted s day k.accepted (with_form wanted) day.marks wanted (form-stays wanted) third right (form-right wanted first.rest first.only) (omega (arith, k.small, ap length same)) in
    record {
      accepted = ap judge_sheet (sym same) ∙ t.0;
      rest = first.rest;
      was = first.is;
      is-now = ap fields_of (sym same) ∙ t.1 ∙ ap (λ (fs : List Field). Header day.metal day.marks wanted ∷ fs) (rest-same wanted first.rest first.only);
      only = first.only;
    }

-- ---- its answers

-- no answer goes by what else a header says
header-alike : (metal marks third : ℕ) (form other : Form) (fs : List Field) → Alike (figures_of metal marks third (Header metal marks form ∷ fs)) (figures_of metal marks third (Header metal marks other ∷ fs))
unfolding figures_of
header-alike metal marks third form other fs =
    let trades : (i : ℕ) → trades_in metal i (Header metal marks other ∷ fs) ≡ trades_in metal i (Header metal marks form ∷ fs) = λ i. trades-header metal i metal marks marks other form fs in
    record {
      metal = refl;
      third = refl;
      gives = λ i. record {
        lots = ap lots_in (trades i);
        vwap = λ closes. ap (deals_sum marks closes i) (trades i);
        twap = λ closes. ap (twap_by marks closes i) (span-header i (start_of metal i) metal marks marks other form fs);
      };
    }

pub keeps : KeepsLaw
keeps wanted s s' room e =
    let k = moves wanted room s s' e in
    let day = k.day in
    let t = again wanted s s' k in
    let third = third-same wanted day.form k.can in
    let fs = Header day.metal day.marks day.form ∷ t.rest in
    record {
      day = day;
      was-accepted = k.accepted;
      accepted = t.accepted;
      answers = closings_of (figures_of day.metal day.marks (third_of day.form) fs);
      was = answers-are s day k.accepted ∙ ap (λ (gs : List Field). six day (closings_of (figures_of day.metal day.marks (third_of day.form) gs))) t.was;
      is-now =
          answers-are s' (day_in wanted day) t.accepted
          ∙ ap (λ (gs : List Field). six (day_in wanted day) (closings_of (figures_of day.metal day.marks (third_of wanted) gs))) t.is-now
          ∙ ap (λ (n : ℕ). six (day_in wanted day) (closings_of (figures_of day.metal day.marks n (Header day.metal day.marks wanted ∷ t.rest)))) third
          ∙ ap (six (day_in wanted day)) (alike (header-alike day.metal day.marks (third_of day.form) day.form wanted t.rest));
    }

-- ---- there and back

back : (wanted form : Form) (s s' : List ℕ) (other : ℕ) → Bytes s → (k : Moves wanted s s') → k.day.form ≡ form → length s ≤ other → moved form other s' ≡ made s
unfolding of_sheet
back wanted form s s' other b k z h =
    let day = k.day in
    let t = again wanted s s' k in
    let same : moved_bytes form (fields_of s') ≡ s =
    ap (moved_bytes form) t.is-now
    ∙ ap (λ (fs : List Field). encode (Header day.metal day.marks form ∷ fs)) (rest-same form t.rest t.only)
    ∙ ap (λ (g : Form). encode (Header day.metal day.marks g ∷ t.rest)) (sym z)
    ∙ ap encode (sym t.was) ∙ sym (accepted-encodes s day b k.accepted) in
    let can : movable form wanted ≡ true = movable-back wanted form (ap (movable wanted) (sym z) ∙ k.can) in
    let fits : leb (length (moved_bytes form (fields_of s'))) 1048576 ≡ true = ap (λ (l : List ℕ). leb (length l) 1048576) same ∙ le-leb (length s) 1048576 (accepted-small s day k.accepted) in
    made-room other _ s (ap (λ (v : Verdict). of_sheet v (moved_of form (fields_of s'))) t.accepted ∙ simp (can, fits) (ap made same)) h

pub new-and-back : NewAndBack
new-and-back s s' room other b e h = let k = moves (Long 0) room s s' e in back (Long 0) Short s s' other b k (from_old k.day.form k.can) h

pub old-and-back : OldAndBack
old-and-back s s' room other b e h = let k = moves Short room s s' e in back Short (Long 0) s s' other b k (from-new k.day.form k.can) h

-- ---- the longer sheet

-- only a longer header makes a sheet longer, and by one byte
longer-by : (wanted form : Form) (n : ℕ) → movable wanted form ≡ true → header_size form ≤ n → n ≤ 1048576 → 1048576 < header_size wanted + (n - header_size form) → (wanted ≡ Long 0) × (n ≡ 1048576)
unfolding both
longer-by Short Short n e low high h = clash cc
longer-by Short (Long third) n e low high h = absurd (omega arith)
longer-by (Long third) Short n e low high h = (ap Long (sym (eqb-true 0 third e)), omega arith)
longer-by (Long third) (Long other) n e low high h = clash cc

-- 1 is given where the test of the form holds, and that of the limit does not
limit-failed : (can small : Bool) (t : List ℕ) → cond can (cond small (made t) (refused 1 0)) (refused 19 0) ≡ refused 1 0 → (can ≡ true) × (small ≡ false)
limit-failed true true t e = clash cc
limit-failed true false t e = (refl, refl)
limit-failed false small t e = let z : ◌≡◌ {A = ℕ} 19 1 = cc in absurd (omega arith)

pub longer : LongerLaw
longer wanted s day b a e =
    let ok : Accepted s day = record { bytes = b; judged = a } in
    let t = moved_bytes wanted (fields_of s) in
    let k = limit-failed (movable wanted day.form) (leb (length t) 1048576) t e in
    longer-by wanted day.form (length s) k.0 (header-inside s day ok) (accepted-small s day a) (omega (arith, leb-false (length t) 1048576 k.1, moved-long s day ok wanted))
