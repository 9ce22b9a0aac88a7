-- TAPE 7: nothing is lost either way.
--     text-read       an accepted sheet's text is accepted, and makes that sheet
--     read-text       the sheet that a text makes is accepted, has the text's fields and a right end, and its text is that text
--     made-accepted   so its six answers are those of the text's records
--     there_and_back  and so for what both directions put into buffers with room
--     back-and-there
-- Assumes nothing.
use Rattle.std.specs.Prelude.{ℕ, suc, ◌+◌, ◌≤◌, ◌<◌, true, ◌≡◌, refl, List, [], ◌∷◌, ◌++◌, leb, length}
use Rattle.std.proofs.Common.{sym, ap, ◌∙◌, subst, arith, length-append, eq-eqb, ne_eqb, le-leb, lt-ltb, leb-true}
use Rattle.numerals.specs.laws.Numerals.{clash}
use Rattle.wire.specs.Big.{Bytes}
use Rattle.field.specs.declared.Field.{Field}
use Rattle.field.specs.declared.Field.TheVariants as F
use Rattle.field.specs.Judging.{unless, also, judge}
use Rattle.admit.specs.declared.Progress.{Progress}
use Rattle.admit.specs.Admitting.{start, before_of, goes, ends, admit, admitted, admit_number, placed, count_number}
use Rattle.admit.specs.laws.Admitting.{Passed, went, ended, went-counts, kept, end_is, admit-fine}
use Rattle.sheet.specs.declared.Day.{Day}
use Rattle.sheet.specs.Fields.{fields_of, encode}
use Rattle.sheet.specs.Judgement.{Verdict, accepts, day_of, judge_sheet}
use Rattle.sheet.specs.laws.Accepted.{Chain, last, more, accepted-chain, accepted-stood, accepted-small}
use Rattle.sheet.specs.laws.Led.{stood-long}
use Rattle.sheet.specs.laws.Encoding.{accepted-encodes, encoded-accepted}
use Rattle.price_rules.specs.Closing.{answers_by, answers_of}
use Rattle.items.specs.Items.{first, rest, joined_to}
use Rattle.items.specs.laws.Items.{cut_at, join-items}
use Rattle.line_reader.specs.Lines.{field_in, line_of}
use Rattle.line_reader.specs.laws.Trips.{line_read, read-line, line-lacks}
use Rattle.filled_buffer.specs.Filling.{made, of_sheet}
use Rattle.filled_buffer.specs.laws.Filling.{sheet-made, limit-made, room-made, made-room}
use Rattle.tape.specs.Tape.{LinesSay, tells, bad, with, capped, at_last, onward, say_line, say_lines, text_says, sheet_of, sheet_made, line_text, text_of, text_made, tape_to_sheet, sheet_to_tape}
use Rattle.tape.specs.laws.Measuring.{encode-long}
use Rattle.tape.specs.laws.Track.{capped_same}
use Rattle.tape.specs.laws.Taken.{closed, took, lined, text-more}

-- ---- the right end is admitted

end-admitted : (p : Progress) (n : ℕ) → 1 ≤ p.stage → p.count < 1048576 → n ≡ p.count → admit p (F.End n) ≡ ends
unfolding admit_number placed count_number judge unless also admitted
end-admitted p n s h e = admit-fine p (F.End n) (simp (lt-ltb p.count 1048576 h, le-leb 1 p.stage s, eq-eqb n p.count e))

-- ---- an accepted text

-- the text of its fields is the text
text-back : (line : ℕ) (p : Progress) (l : List ℕ) (ls : List (List ℕ)) (fs : List Field) → say_lines line p l ls ≡ tells fs → text_of fs ≡ joined_to 10 l ls
unfolding say_lines text_of
text-back line p [] [] fs e = ap text_of (closed line 0 p fs e).none
text-back line p (x ∷ l) [] fs e = absurd (omega (arith, (closed line (length (x ∷ l)) p fs e).nothing))
text-back line p l (m ∷ ms) fs e =
    let k = took line p (field_in l) (λ r. say_lines (line + 1) r m ms) fs e in
    let w = (went (capped p) k.f k.r k.goes_on).0 in
    let n = lined k.f (kept (capped p) k.f k.r k.goes_on).no_end in
    let i = text-back (line + 1) k.r m ms k.gs k.after in
    ap text_of k.are
    ∙ text-more k.f k.gs n
    ∙ ap (λ (v : List ℕ). v ++ 10 ∷ text_of k.gs) (read-line (before_of (capped p)) l k.f k.said w.values)
    ∙ ap (λ (v : List ℕ). l ++ 10 ∷ v) i

-- its fields with a right end lead through the day
record Leads (p : Progress) (fs : List Field) (n : ℕ) : Type 0 where
  day : Day
  chain : Chain p (fs ++ F.End n ∷ []) day

chain_back : (line : ℕ) (p : Progress) (l : List ℕ) (ls : List (List ℕ)) (fs : List Field) → say_lines line p l ls ≡ tells fs → p.count + length fs ≤ 1048575 → (n : ℕ) → n ≡ p.count + length fs → Leads p fs n
unfolding say_lines
chain_back line p l [] fs e h n z =
    let c = closed line (length l) p fs e in
    rw c.none (record { day = day_of p; chain = last (end-admitted p n c.headed (omega arith) (omega (arith, ap length c.none))) })
chain_back line p l (m ∷ ms) fs e h n z =
    let k = took line p (field_in l) (λ r. say_lines (line + 1) r m ms) fs e in
    let s : length fs ≡ suc (length k.gs) = ap length k.are in
    let a : admit p k.f ≡ goes k.r = ap (λ (v : Progress). admit v k.f) (capped_same p (omega arith)) ∙ k.goes_on in
    let c = went-counts p k.f k.r a in
    let i = chain_back (line + 1) k.r m ms k.gs k.after (omega arith) n (omega arith) in
    rw k.are (record { day = i.day; chain = more a i.chain })

-- an end adds nothing to a text
text-end : (fs : List Field) (n : ℕ) → text_of (fs ++ F.End n ∷ []) ≡ text_of fs
unfolding text_of line_text
text-end [] n = refl
text-end (f ∷ fs) n = ap (λ (v : List ℕ). line_text f ++ v) (text-end fs n)

-- the sheet that a text makes
pub record Back (x s : List ℕ) : Type 0 where
  pub fields : List Field
  pub says : text_says x ≡ tells fields
  pub day : Day
  pub accepted : judge_sheet s ≡ accepts day
  pub has : fields_of s ≡ fields ++ F.End (length fields) ∷ []
  pub again : text_made (fields_of s) (judge_sheet s) ≡ made x

told_back : (x s : List ℕ) (fs : List Field) → text_says x ≡ tells fs → sheet_made (tells fs) ≡ made s → Back x s
unfolding sheet_made of_sheet
told_back x s fs t e =
    let m = limit-made (sheet_of fs) s e in
    let small = m.0 in
    let few = encode-long (fs ++ F.End (length fs) ∷ []) in
    let one = length-append fs (F.End (length fs) ∷ []) in
    let c = chain_back 1 start (first 10 x) (rest 10 x) fs t (omega arith) (length fs) (omega arith) in
    let g = encoded-accepted (fs ++ F.End (length fs) ∷ []) c.day c.chain small in
    rw (← m.1) (record {
      fields = fs;
      says = t;
      day = c.day;
      accepted = g.0;
      has = g.1;
      again = rw g.0 (ap made (ap text_of g.1 ∙ text-end fs (length fs) ∙ text-back 1 start (first 10 x) (rest 10 x) fs t ∙ join-items 10 x));
    })

pub read-text : (x s : List ℕ) → sheet_made (text_says x) ≡ made s → Back x s
unfolding sheet_made
read-text x s e = by-told (text_says x) refl e
  where
    by-told : (t : LinesSay) → text_says x ≡ t → sheet_made t ≡ made s → Back x s
    by-told (tells fs) q g = told_back x s fs q g
    by-told (bad number line) q g = clash cc

-- its answers are worked out from the text's fields
pub record Priced (x s : List ℕ) : Type 0 where
  pub fields : List Field
  pub says : text_says x ≡ tells fields
  pub day : Day
  pub answers : answers_of s ≡ answers_by (fields ++ F.End (length fields) ∷ []) (accepts day)

pub made-accepted : (x s : List ℕ) → sheet_made (text_says x) ≡ made s → Priced x s
unfolding answers_of
made-accepted x s e = let b = read-text x s e in record { fields = b.fields; says = b.says; day = b.day; answers = rw (b.has, b.accepted) refl }

-- ---- an accepted sheet

-- its text from a place on says its fields but the end
record Taped (line : ℕ) (p : Progress) (fs : List Field) (x : List ℕ) : Type 0 where
  gs : List Field
  says : say_lines line p (first 10 x) (rest 10 x) ≡ tells gs
  fields : gs ++ F.End (p.count + length gs) ∷ [] ≡ fs

end-taped : (line : ℕ) (p : Progress) (n : ℕ) → n ≡ p.count → 1 ≤ p.stage → Taped line p (F.End n ∷ []) []
unfolding say_lines at_last first rest
end-taped line p n e s = record {
  gs = [];
  says = simp (ne_eqb p.stage 0 (λ z. omega arith));
  fields = let z : p.count + 0 ≡ n = omega arith in ap (λ (v : ℕ). F.End v ∷ []) z;
}

end-stage : (p : Progress) (n : ℕ) → Passed p (F.End n) → 1 ≤ p.stage
unfolding placed
end-stage p n h = leb-true 1 p.stage h.place

more-taped : (line : ℕ) (p r : Progress) (f : Field) (fs : List Field) (x : List ℕ) → p.count ≤ 1048575 → admit p f ≡ goes r → Taped (line + 1) r fs x → Taped line p (f ∷ fs) (line_of f ++ 10 ∷ x)
unfolding say_lines say_line onward
more-taped line p r f fs x h a i =
    let w = (went p f r a).0 in
    let n = lined f (kept p f r a).no_end in
    let c = cut_at 10 (line_of f) x (line-lacks (before_of p) f w.values) in
    let s = line_read (before_of p) f w.values n in
    let g : admit (capped p) f ≡ goes r = ap (λ (v : Progress). admit v f) (sym (capped_same p h)) ∙ a in
    let z : p.count + suc (length i.gs) ≡ r.count + length i.gs = omega (arith, went-counts p f r a) in
    record {
      gs = f ∷ i.gs;
      says = rw (c.head, c.tail, s, g) (ap (with f) i.says);
      fields = rw z (ap (λ (v : List Field). f ∷ v) i.fields);
    }

chain-taped : (line : ℕ) {p : Progress} {fs : List Field} {day : Day} → Chain p fs day → p.count + length fs ≤ 1048576 → Taped line p fs (text_of fs)
unfolding text_of line_text
chain-taped line (last {p = p} {f = f} e) h =
    let d : f ≡ F.End p.count = end_is p f e in
    let s = end-stage p p.count (subst (Passed p) d (ended p f e).0) in
    rw d (end-taped line p p.count refl s)
chain-taped line (more {p = p} {q = r} {f = f} {fs = fs} e c) h =
    let i = chain-taped (line + 1) c (omega (arith, went-counts p f r e)) in
    rw (text-more f fs (lined f (kept p f r e).no_end)) (more-taped line p r f fs (text_of fs) (omega arith) e i)

pub text-read : (s : List ℕ) (day : Day) → Bytes s → judge_sheet s ≡ accepts day → sheet_made (text_says (text_of (fields_of s))) ≡ made s
unfolding sheet_made
text-read s day bytes e =
    let few = stood-long (accepted-stood s day e) in
    let small = accepted-small s day e in
    let t = chain-taped 1 (accepted-chain s day e) (omega (arith, few, small)) in
    let z : length t.gs ≡ 0 + length t.gs = omega arith in
    let same : sheet_of t.gs ≡ s = ap (λ (n : ℕ). encode (t.gs ++ F.End n ∷ [])) z ∙ ap encode t.fields ∙ sym (accepted-encodes s day bytes e) in
    let fits : leb (length (sheet_of t.gs)) 1048576 ≡ true = rw same (le-leb (length s) 1048576 small) in
    ap sheet_made t.says ∙ simp fits (ap made same)

-- ---- what both directions put into lent buffers

text-made : (s x : List ℕ) (v : Verdict) → text_made (fields_of s) v ≡ made x → (day : Day) × (v ≡ accepts day) × (text_of (fields_of s) ≡ x)
text-made s x v e = let m = sheet-made v (λ day. made (text_of (fields_of s))) x e in let is : made (text_of (fields_of s)) ≡ made x = m.2 in (m.0, m.1, cc)

pub there_and_back : (s x : List ℕ) (room other : ℕ) → Bytes s → sheet_to_tape room s ≡ made x → length s ≤ other → tape_to_sheet other x ≡ made s
there_and_back s x room other bytes e h =
    let m = text-made s x (judge_sheet s) (room-made room _ x e) in
    made-room other _ s (ap (λ (v : List ℕ). sheet_made (text_says v)) (sym m.2) ∙ text-read s m.0 bytes m.1) h

pub back-and-there : (x s : List ℕ) (room other : ℕ) → tape_to_sheet room x ≡ made s → length x ≤ other → sheet_to_tape other s ≡ made x
back-and-there x s room other e h = made-room other _ x (read-text x s (room-made room _ s e)).again h
