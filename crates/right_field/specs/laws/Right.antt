-- A right field of a tag at a place, judged by itself and its time put aside, and what follows: the field that stands there, and that it earns no
-- number once its instrument is not barred, and its time in the day and not below the least.
--     right_at       the head stands there, and the values but the time earn no number
--     Right, right  what is known where it holds
--     timed         with an instrument that is let be and a right time they earn none at all
-- Assumes nothing.
use Rattle.std.specs.Prelude.{ℕ, zero, suc, refl, ◌+◌, ◌-◌, ◌≤◌, ◌≡◌, Bool, true, false, List, [], ◌∷◌, length, eqb, get_or, take, drop}
use Rattle.std.proofs.Common.{sym, ◌∙◌, arith, eqb-true, ne_eqb}
use Rattle.field.specs.declared.Price.{Price}
use Rattle.field.specs.declared.Before.{Before}
use Rattle.field.specs.declared.Field.{Field}
use Rattle.field.specs.declared.Field.TheVariants.{Header, PreviousClose, Trade, Quote, End}
use Rattle.field.specs.Judging.{fine, unless, both, allowed, alone, judge}
use Rattle.field.specs.Layout.{tag_right, length_of, size_of, price_at, quote_of, field_of}
use Rattle.field.specs.laws.Field.{part-is, both_true}
use Rattle.field.proofs.Sound.{Sound, sound, judge-sound}
use Rattle.field.specs.laws.Ends.{both_sides_right}
use Rattle.field.proofs.Ends.{both-sides}
use Rattle.field.specs.laws.Standing.{stands, Stood, stood, field_at}

-- a field with its time put aside
unfoldable pub untimed : Field → Field
untimed (Header metal marks form) = Header metal marks form
untimed (PreviousClose instrument price) = PreviousClose instrument price
untimed (Trade time instrument price lots) = Trade 0 instrument price lots
untimed (Quote time instrument sides bid offer) = Quote 0 instrument sides bid offer
untimed (End count) = End count

abbrev pub values_right : Field → Bool
values_right f = eqb (judge alone (untimed f)) fine

abbrev pub right_at : List ℕ → ℕ → ℕ → Bool
right_at s at tag = both (stands s at tag) (values_right (field_at s at tag))

-- ---- what the code finds

-- no head of the tag
pub right-not : (s : List ℕ) (at tag : ℕ) {t : Bool} → t ≡ stands s at tag → t ≡ false → false ≡ right_at s at tag
unfolding both
right-not s at tag e h = rw (sym e ∙ h)

-- a head of the tag: the values decide
pub right_by : (s : List ℕ) (at tag : ℕ) {t r : Bool} → t ≡ stands s at tag → t ≡ true → r ≡ values_right (field_of tag (take (at + size_of tag - (at + 3)) (drop (at + 3) s))) → r ≡ right_at s at tag
unfolding both
right_by s at tag e h v = v ∙ rw (part-is s at tag, sym e ∙ h)

-- the number of values that were read one by one
pub values-as : (g : Field) {n : ℕ} {b : Before} {f : Field} → b ≡ alone → n ≡ judge b f → f ≡ untimed g → eqb n fine ≡ values_right g
values-as g none e same = rw (e, none, same)

pub quote-values : (b : List ℕ) {r : Bool} {bid offer : Price} → r ≡ both_sides_right (get_or b 4 0) bid offer → get_or b 5 0 ≡ 3 → bid ≡ price_at b 6 → offer ≡ price_at b 10 → r ≡ values_right (quote_of b)
unfolding untimed
quote-values b {r} {bid} {offer} e three low high = e ∙ both-sides (get_or b 4 0) bid offer ∙ rw (three, low, high)

-- a tag that is none of the six has no body, and then its metal is none
abbrev pub NoTag : ℕ → Type 0
NoTag tag = (k : ℕ) → 1 ≤ k → k ≤ 6 → tag ≡ k → ⊥

no_body : (tag : ℕ) → NoTag tag → length_of tag ≡ 0
no_body zero none = refl
no_body (suc zero) none = absurd (none 1 (omega arith) (omega arith) refl)
no_body (suc (suc zero)) none = absurd (none 2 (omega arith) (omega arith) refl)
no_body (suc (suc (suc zero))) none = absurd (none 3 (omega arith) (omega arith) refl)
no_body (suc (suc (suc (suc zero)))) none = absurd (none 4 (omega arith) (omega arith) refl)
no_body (suc (suc (suc (suc (suc zero))))) none = absurd (none 5 (omega arith) (omega arith) refl)
no_body (suc (suc (suc (suc (suc (suc zero)))))) none = absurd (none 6 (omega arith) (omega arith) refl)
no_body (suc (suc (suc (suc (suc (suc (suc n))))))) none = refl

pub no_tag : (tag : ℕ) (b : List ℕ) → length b ≡ length_of tag → NoTag tag → false ≡ values_right (field_of tag b)
unfolding field_of untimed judge both unless
no_tag tag [] e none =
    let other : (k : ℕ) → 1 ≤ k → k ≤ 6 → eqb tag k ≡ false = λ k l h. ne_eqb tag k (none k l h) in
    simp (other 1 (omega arith) (omega arith), other 2 (omega arith) (omega arith), other 3 (omega arith) (omega arith), other 4 (omega arith) (omega arith), other 5 (omega arith) (omega arith)) refl
no_tag tag (x ∷ l) e none = absurd (omega (arith, no_body tag none))

-- ---- what follows

pub record Right (s : List ℕ) (at tag : ℕ) : Type 0 where
  pub stands-there : Stood s at tag
  pub values : judge alone (untimed (field_at s at tag)) ≡ fine

pub right : (s : List ℕ) (at tag : ℕ) → tag_right tag ≡ true → right_at s at tag ≡ true → Right s at tag
right s at tag t e =
    let u = both_true (stands s at tag) _ e in
    record { stands-there = stood s at tag t u.0; values = eqb-true _ fine u.1 }

-- the time of a record in the day, and not below the least
abbrev pub InTime : Before → ℕ → Type 0
InTime before time = (before.time ≤ time) × (time ≤ 86399999)

-- what came before lets the field's instrument be, and its time is right
abbrev pub Timely : Before → Field → Type 0
Timely before (Header metal marks form) = Unit {0}
Timely before (PreviousClose instrument price) = allowed before.third instrument ≡ true
Timely before (Trade time instrument price lots) = (allowed before.third instrument ≡ true) × InTime before time
Timely before (Quote time instrument sides bid offer) = (allowed before.third instrument ≡ true) × InTime before time
Timely before (End count) = Unit {0}

sound-timed : (before : Before) (f : Field) → Sound alone (untimed f) → Timely before f → Sound before f
unfolding untimed
sound-timed before (Header metal marks form) h t = h
sound-timed before (PreviousClose instrument price) h t = (record { in_table = h.0.in_table; let-be = t }, h.1)
sound-timed before (Trade time instrument price lots) h t =
    record { stamp = record { on = record { in_table = h.stamp.on.in_table; let-be = t.0 }; in-day = t.1.1; not-before = t.1.0 }; price-in = h.price-in; some = h.some; most = h.most }
sound-timed before (Quote time instrument sides bid offer) h t =
    record { stamp = record { on = record { in_table = h.stamp.on.in_table; let-be = t.0 }; in-day = t.1.1; not-before = t.1.0 }; sides-in = h.sides-in; prices-in = h.prices-in; in_order = h.in_order }
sound-timed before (End count) h t = tt

pub timed : (before : Before) (f : Field) → judge alone (untimed f) ≡ fine → Timely before f → judge before f ≡ fine
timed before f e t = judge-sound before f (sound-timed before f (sound alone (untimed f) e) t)
