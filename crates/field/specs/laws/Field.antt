-- Laws of the definitions of one field: what follows where nothing was refused. Callers use these, and not the definitions' text.
-- Assumes nothing.
use Rattle.std.specs.Prelude.{ℕ, ◌+◌, ◌-◌, ◌≤◌, ◌<◌, ◌≡◌, refl, Bool, true, false, cond, List, [], leb, eqb, length, get_or, take, drop}
use Rattle.std.proofs.Common.{sym, ap, ◌∙◌, arith, leb-true, eqb-true, ne_eqb, eq-eqb, le-leb, length-drop, length-take-le}
use Rattle.std.proofs.lemmas.Bool.{lt-leb}
use Rattle.wire.specs.Big.{be2_at}
use Rattle.field.specs.declared.Field.{Field}
use Rattle.field.specs.declared.Field.TheVariants.{Header, PreviousClose, Trade, Quote, End}
use Rattle.field.specs.declared.Form.TheVariants.{Short, Long}
use Rattle.field.specs.declared.Before.{Before}
use Rattle.field.specs.Judging.{fine, unless, also, both, within, alone, judge}
use Rattle.field.specs.Layout.{tag_right, length_of, size_of, tag_of, body_bytes, field_bytes, field_of}
use Rattle.field.specs.Said.{Said, gives, refuses, settled}
use Rattle.field.specs.Reading.{remaining, tagged_number, head_number, body_at, shape_at, judged, read_field, part_of, body_of}
use Rattle.field.specs.Writing.{field_size, write_number, written, over, buffer_after}

-- what is false proves anything
pub clash : {A : Type 0} → ◌≡◌ {A = ℕ} 0 1 → A
clash e = absurd (omega arith)

-- ---- tests and numbers

pub unless-passed : (test : Bool) (n rest : ℕ) → test ≡ true → unless test n rest ≡ rest
unfolding unless
unless-passed test n rest e = simp e

pub unless-failed : (test : Bool) (n rest : ℕ) → test ≡ false → unless test n rest ≡ n
unfolding unless
unless-failed test n rest e = simp e

-- a chain that finds nothing passed its first test; n + 1 is any number but `fine`
pub unless-fine : (test : Bool) (n rest : ℕ) → unless test (n + 1) rest ≡ fine → (test ≡ true) × (rest ≡ fine)
unfolding unless
unless-fine true n rest e = (refl, e)
unless-fine false n rest e = absurd (omega arith)

-- what holds of the number and of what the rest says holds of what a chain says
pub unless-all : (P : ℕ → Type 0) (test : Bool) {n rest : ℕ} → P n → P rest → P (unless test n rest)
unfolding unless
unless-all P true h r = r
unless-all P false h r = h

pub also-all : (P : ℕ → Type 0) (first rest : ℕ) → P first → P rest → P (also first rest)
unfolding also
also-all P first rest h r = by-test (eqb first fine)
  where
    by-test : (t : Bool) → P (cond t rest first)
    by-test true = r
    by-test false = h

-- the numbers that values can earn, and those of a shape
pub judge-all : (P : ℕ → Type 0) → P fine → P 6 → P 7 → P 8 → P 9 → P 10 → P 11 → P 18 → (before : Before) (f : Field) → P (judge before f)
unfolding judge
judge-all P z p6 p7 p8 p9 p10 p11 p18 before (Header metal marks form) = unless-all P _ p6 z
judge-all P z p6 p7 p8 p9 p10 p11 p18 before (PreviousClose instrument price) = unless-all P _ p7 (unless-all P _ p18 (unless-all P _ p9 z))
judge-all P z p6 p7 p8 p9 p10 p11 p18 before (Trade time instrument price lots) = unless-all P _ p7 (unless-all P _ p18 (unless-all P _ p8 (unless-all P _ p9 (unless-all P _ p10 z))))
judge-all P z p6 p7 p8 p9 p10 p11 p18 before (Quote time instrument sides bid offer) = unless-all P _ p7 (unless-all P _ p18 (unless-all P _ p8 (unless-all P _ p11 (unless-all P _ p9 (unless-all P _ p11 z)))))
judge-all P z p6 p7 p8 p9 p10 p11 p18 before (End count) = z

pub head-all : (P : ℕ → Type 0) → P fine → P 2 → P 3 → P 4 → (s : List ℕ) (at tag : ℕ) → P (head_number s at tag)
unfolding head_number
head-all P z p2 p3 p4 s at tag = unless-all P _ p2 (unless-all P _ p3 (unless-all P _ p4 (unless-all P _ p2 z)))

pub both_true : (a b : Bool) → both a b ≡ true → (a ≡ true) × (b ≡ true)
unfolding both
both_true true b e = (refl, e)
both_true false b e = clash cc

pub both-holds : (a b : Bool) → a ≡ true → b ≡ true → both a b ≡ true
unfolding both
both-holds a b p q = simp (p, q)

pub within-true : (low high n : ℕ) → within low high n ≡ true → (low ≤ n) × (n ≤ high)
within-true low high n e =
    let u = both_true (leb low n) (leb n high) e in
    (leb-true low n u.0, leb-true n high u.1)

pub also-fine : (first rest : ℕ) → also first rest ≡ fine → (first ≡ fine) × (rest ≡ fine)
unfolding also
also-fine first rest e = by-test (eqb first fine) refl
  where
    by-test : (t : Bool) → eqb first fine ≡ t → (first ≡ fine) × (rest ≡ fine)
    by-test true h = (eqb-true first fine h, sym (simp h at (sym e)))
    by-test false h = clash cc

-- ---- an answer that is settled

pub settled-fine : {A : Type 0} (number at : ℕ) (given : A) (next : ℕ) → number ≡ fine → settled number at given next ≡ gives given next
unfolding settled
settled-fine number at given next e = simp (eq-eqb number fine e)

pub settled-not : {A : Type 0} (number at : ℕ) (given : A) (next : ℕ) → (number ≡ fine → ⊥) → settled number at given next ≡ refuses number at
unfolding settled
settled-not number at given next e = simp (ne_eqb number fine e)

-- what was given was settled with no number
pub record Gave {A : Type 0} (number : ℕ) (mine given : A) (behind next : ℕ) : Type 0 where
  pub none : number ≡ fine
  pub same : mine ≡ given
  pub place : behind ≡ next

pub settled-gives : {A : Type 0} (number at : ℕ) (mine given : A) (behind next : ℕ) → settled number at mine behind ≡ gives given next → Gave number mine given behind next
unfolding settled
settled-gives number at mine given behind next e = by-test (eqb number fine) refl
  where
    by-test : (t : Bool) → eqb number fine ≡ t → Gave number mine given behind next
    by-test true h = let g = simp h at e in record { none = eqb-true number fine h; same = cc; place = cc }
    by-test false h = let g = simp h at e in clash cc

-- ---- the shape of a field

pub head-short : (s : List ℕ) (at tag : ℕ) → remaining s at < 3 → head_number s at tag ≡ 2
unfolding head_number
head-short s at tag h = unless-failed _ 2 _ (lt-leb 3 (remaining s at) h)

pub head-there : (s : List ℕ) (at tag : ℕ) → 3 ≤ remaining s at → head_number s at tag ≡ tagged_number tag (be2_at s (at + 1)) (remaining s at)
unfolding head_number
head-there s at tag h = unless-passed _ 2 _ (le-leb 3 (remaining s at) h)

-- a head that earns no number: three bytes remain, the tag is one, the length is the tag's, and the body is there
pub record Headed (s : List ℕ) (at tag : ℕ) : Type 0 where
  pub some : 3 ≤ remaining s at
  pub tagged : tag_right tag ≡ true
  pub told : be2_at s (at + 1) ≡ length_of tag
  pub whole : at + size_of tag ≤ length s

pub headed : (s : List ℕ) (at tag : ℕ) → head_number s at tag ≡ fine → Headed s at tag
unfolding head_number
headed s at tag e =
    let u = unless-fine (leb 3 (remaining s at)) 1 _ e in
    let v = unless-fine (tag_right tag) 2 _ u.1 in
    let w = unless-fine (eqb (be2_at s (at + 1)) (length_of tag)) 3 _ v.1 in
    let x = unless-fine (leb (size_of tag) (remaining s at)) 1 _ w.1 in
    record {
      some = leb-true 3 (remaining s at) u.0;
      tagged = v.0;
      told = eqb-true (be2_at s (at + 1)) (length_of tag) w.0;
      whole = omega (arith, leb-true 3 (remaining s at) u.0, leb-true (size_of tag) (remaining s at) x.0);
    }

-- and such a head earns no number
pub head-fine : (s : List ℕ) (at tag : ℕ) → Headed s at tag → head_number s at tag ≡ fine
unfolding head_number
head-fine s at tag h =
    unless-passed _ 2 _ (le-leb 3 (remaining s at) h.some)
    ∙ unless-passed _ 3 _ h.tagged
    ∙ unless-passed _ 4 _ (eq-eqb _ _ h.told)
    ∙ unless-passed _ 2 _ (le-leb (size_of tag) (remaining s at) (omega (arith, h.whole)))

-- the body is the part from behind the head to the place behind the field, and as long as the tag says
pub part-is : (s : List ℕ) (at tag : ℕ) → take (at + size_of tag - (at + 3)) (drop (at + 3) s) ≡ body_at s at tag
part-is s at tag = let n : at + size_of tag - (at + 3) ≡ length_of tag = omega arith in simp n

pub body-long : (s : List ℕ) (at tag : ℕ) → Headed s at tag → length (body_at s at tag) ≡ length_of tag
body-long s at tag h = length-take-le (length_of tag) (drop (at + 3) s) (rw length-drop (omega (arith, h.whole)))

-- which of its two answers a shape is
pub shape-fine : (s : List ℕ) (at : ℕ) → head_number s at (get_or s at 0) ≡ fine → shape_at s at ≡ gives (field_of (get_or s at 0) (body_at s at (get_or s at 0))) (at + size_of (get_or s at 0))
unfolding shape_at
shape-fine s at e = settled-fine _ at _ _ e

pub shape-not : (s : List ℕ) (at : ℕ) → (head_number s at (get_or s at 0) ≡ fine → ⊥) → shape_at s at ≡ refuses (head_number s at (get_or s at 0)) at
unfolding shape_at
shape-not s at e = settled-not _ at _ _ e

-- a field that has its shape lies in the sheet: head, body, and its values those of the body
pub record Shaped (s : List ℕ) (at : ℕ) (f : Field) (next : ℕ) : Type 0 where
  pub head : Headed s at (get_or s at 0)
  pub values : field_of (get_or s at 0) (body_at s at (get_or s at 0)) ≡ f
  pub behind : at + size_of (get_or s at 0) ≡ next

pub shaped : (s : List ℕ) (at : ℕ) (f : Field) (next : ℕ) → shape_at s at ≡ gives f next → Shaped s at f next
unfolding shape_at
shaped s at f next e =
    let tag = get_or s at 0 in
    let g = settled-gives (head_number s at tag) at (field_of tag (body_at s at tag)) f (at + size_of tag) next e in
    record { head = headed s at tag g.none; values = g.same; behind = g.place }

-- what a read says, by the shape
pub read-judged : (s : List ℕ) (at : ℕ) (f : Field) (next : ℕ) → shape_at s at ≡ gives f next → read_field s at ≡ settled (judge alone f) at f next
unfolding read_field
read-judged s at f next e = ap (judged at) e

pub read-refused : (s : List ℕ) (at number place : ℕ) → shape_at s at ≡ refuses number place → read_field s at ≡ refuses number place
unfolding read_field
read-refused s at number place e = ap (judged at) e

-- a field that is read has its shape, and its values earn no number
pub record ReadOk (s : List ℕ) (at : ℕ) (f : Field) (next : ℕ) : Type 0 where
  pub shape : shape_at s at ≡ gives f next
  pub right : judge alone f ≡ fine

judged-gives : (at : ℕ) (x : Said Field) (f : Field) (next : ℕ) → judged at x ≡ gives f next → (x ≡ gives f next) × (judge alone f ≡ fine)
judged-gives at (gives g behind) f next e =
    let u = settled-gives (judge alone g) at g f behind next e in
    (simp (u.same, u.place), ap (judge alone) (sym u.same) ∙ u.none)
judged-gives at (refuses number place) f next e = clash cc

pub read_ok : (s : List ℕ) (at : ℕ) (f : Field) (next : ℕ) → read_field s at ≡ gives f next → ReadOk s at f next
unfolding read_field
read_ok s at f next e = let u = judged-gives at (shape_at s at) f next e in record { shape = u.0; right = u.1 }

-- the head's three bytes, then the body's, up to the place behind: all in the sheet
pub record Inside (s : List ℕ) (at next : ℕ) : Type 0 where
  pub head : at + 3 ≤ next
  pub body : next ≤ length s

pub shape-inside : (s : List ℕ) (at : ℕ) (f : Field) (next : ℕ) → shape_at s at ≡ gives f next → Inside s at next
shape-inside s at f next e =
    let h = shaped s at f next e in
    record { head = omega (arith, h.behind); body = omega (arith, h.behind, h.head.whole) }

-- the body that is handed back, by the read
pub body-given : (s : List ℕ) (at : ℕ) (f : Field) (next : ℕ) → read_field s at ≡ gives f next → body_of s at ≡ take (next - (at + 3)) (drop (at + 3) s)
unfolding body_of
body-given s at f next e = ap (part_of s at) e

pub body-none : (s : List ℕ) (at number place : ℕ) → read_field s at ≡ refuses number place → body_of s at ≡ []
unfolding body_of
body-none s at number place e = ap (part_of s at) e

-- ---- writing

pub body-length : (f : Field) → length (body_bytes f) ≡ length_of (tag_of f)
unfolding body_bytes tag_of
body-length (Header metal marks Short) = refl
body-length (Header metal marks (Long third)) = refl
body-length (PreviousClose instrument price) = refl
body-length (Trade time instrument price lots) = refl
body-length (Quote time instrument sides bid offer) = refl
body-length (End count) = refl

pub field-length : (f : Field) → length (field_bytes f) ≡ field_size f
field-length f = omega (arith, body-length f)

-- a field that may be written: its values earn no number, and it fits behind the place
pub record MayWrite (len at : ℕ) (f : Field) : Type 0 where
  pub right : judge alone f ≡ fine
  pub room : at + field_size f ≤ len

pub may_write : (len at : ℕ) (f : Field) → write_number len at f ≡ fine → MayWrite len at f
unfolding write_number
may_write len at f e =
    let u = also-fine (judge alone f) _ e in
    let v = unless-fine (leb (field_size f) (len - at)) 15 fine u.1 in
    record { right = u.0; room = omega (arith, leb-true (field_size f) (len - at) v.0) }

-- and such a field earns no number
pub write-fine : (len at : ℕ) (f : Field) → MayWrite len at f → write_number len at f ≡ fine
unfolding write_number also
write-fine len at f m = simp m.right (unless-passed _ 16 _ (le-leb (field_size f) (len - at) (omega (arith, m.room))))

-- what is written, and what the buffer then holds, by the number found
pub written-fine : (b : List ℕ) (at : ℕ) (f : Field) → write_number (length b) at f ≡ fine → (written b at f ≡ gives tt (at + field_size f)) × (buffer_after b at f ≡ over b at (field_bytes f))
unfolding written buffer_after
written-fine b at f e = (settled-fine _ at tt _ e, simp (eq-eqb _ fine e))

pub written-not : (b : List ℕ) (at : ℕ) (f : Field) → (write_number (length b) at f ≡ fine → ⊥) → (written b at f ≡ refuses (write_number (length b) at f) at) × (buffer_after b at f ≡ b)
unfolding written buffer_after
written-not b at f e = (settled-not _ at tt _ e, simp (ne_eqb _ fine e))

-- a field that was written earned no number, and the place given is the one behind it
pub record WrittenOk (b : List ℕ) (at : ℕ) (f : Field) (next : ℕ) : Type 0 where
  pub none : write_number (length b) at f ≡ fine
  pub behind : at + field_size f ≡ next

pub written-ok : (b : List ℕ) (at : ℕ) (f : Field) (next : ℕ) → written b at f ≡ gives tt next → WrittenOk b at f next
unfolding written
written-ok b at f next e =
    let g = settled-gives (write_number (length b) at f) at tt tt (at + field_size f) next e in
    record { none = g.none; behind = g.place }

-- a shape that is refused earned its number, at the place asked for
pub shape-refused : (s : List ℕ) (at number place : ℕ) → shape_at s at ≡ refuses number place → (head_number s at (get_or s at 0) ≡ number) × (at ≡ place)
unfolding shape_at settled
shape-refused s at number place e = by-test (eqb (head_number s at (get_or s at 0)) fine) refl
  where
    by-test : (t : Bool) → eqb (head_number s at (get_or s at 0)) fine ≡ t → (head_number s at (get_or s at 0) ≡ number) × (at ≡ place)
    by-test true h = let g = simp h at e in clash cc
    by-test false h = let g : ◌≡◌ {A = Said Field} (refuses (head_number s at (get_or s at 0)) at) (refuses number place) = simp h at e in (cc, cc)
