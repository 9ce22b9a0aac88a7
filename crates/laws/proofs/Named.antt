-- Two laws of a header's third value: the contract that it names has 3M's answer, and a spread that it bars has no field to be turned.
--     named-agrees    where 3M is contract c, both lines of the list agree, or c is not reached
--     barred-turns    a barred spread turned round
-- Assumes nothing.
use Rattle.std.specs.Prelude.{ℕ, zero, suc, ◌<◌, ◌≡◌, refl, Bool, true, false, not, List, [], ◌∷◌, map, ◌⊎◌, eqb}
use Rattle.std.proofs.Common.{ap, ap₂, inl, inr, arith, ne_eqb, eqb-true}
use Rattle.field.specs.declared.Field.{Field}
use Rattle.field.specs.declared.Field.TheVariants.{Header, PreviousClose, Trade, Quote, End}
use Rattle.field.specs.Judging.{third_of, allowed}
use Rattle.field.specs.Repriced.{concerns}
use Rattle.field.specs.laws.Field.{clash}
use Rattle.market.specs.Market.{3M, named, barred}
use Rattle.sheet.specs.declared.Day.{Day}
use Rattle.sheet.specs.Fields.{fields_of, encode, Each}
use Rattle.sheet.specs.Judgement.{Verdict, accepts, refuses-at, judge_sheet}
use Rattle.sheet.specs.laws.Accepted.{Let, accepted-let}
use Rattle.price_rules.specs.Closing.{Figures, figures_of, refused, known_at, answer_of, closings_of, six, answers_by, answers_of}
use Rattle.laws.specs.Demand.{answer_at, turned_marks, remarked, turned_field, turned, BarredLaw, NamedLaw}
use Rattle.laws.proofs.Shift.{three-unnamed}
use Rattle.laws.proofs.Lift.{answer_at_lem}

-- ---- the contract that 3M is

-- behind its step what is known of 3M is its answer
three-known : (d : Figures) (c : ℕ) → (known_at d (suc c)).three ≡ answer_of d 3M
unfolding known_at
three-known d zero = refl
three-known d (suc c) = rw (ne_eqb (suc c) 3M (λ e. omega arith)) (three-known d c)

named-answer : (d : Figures) (c : ℕ) → named d.third c ≡ true → (answer_of d c ≡ answer_of d 3M) ⊎ (answer_of d c ≡ refused 15 0)
named-answer d zero e = let none = three-unnamed d.third in clash cc
named-answer d (suc c) e = by (known_at d (suc c)).stopped refl
  where
    by : (t : Bool) → (known_at d (suc c)).stopped ≡ t → (answer_of d (suc c) ≡ answer_of d 3M) ⊎ (answer_of d (suc c) ≡ refused 15 0)
    by true h = inr (rw h refl)
    by false h = inl (rw (h, e) (three-known d c))

-- among the six of an accepted sheet
named-six : (s : List ℕ) (day : Day) (c : ℕ) → c < 6 → named (third_of day.form) c ≡ true →
    let answers = closings_of (figures_of day.metal day.marks (third_of day.form) (fields_of s)) in
    (answer_at answers c ≡ answer_at answers 3M) ⊎ (answer_at answers c ≡ refused 15 0)
unfolding figures_of
named-six s day c low n =
    let d = figures_of day.metal day.marks (third_of day.form) (fields_of s) in
    rw (answer_at_lem d c low, answer_at_lem d 3M (omega arith)) (named-answer d c n)

pub named-agrees : NamedLaw
unfolding answers_of
named-agrees s day answers c low e n = by (judge_sheet s) e
  where
    by : (v : Verdict) → answers_by (fields_of s) v ≡ six day answers → (answer_at answers c ≡ answer_at answers 3M) ⊎ (answer_at answers c ≡ refused 15 0)
    by (accepts told) h =
        let same : told ≡ day = cc in
        let is : closings_of (figures_of told.metal told.marks (third_of told.form) (fields_of s)) ≡ answers = cc in
        rw (← is) (named-six s told c low (rw same n))
    by (refuses-at number at) h = clash cc

-- ---- a spread that is barred

-- an instrument that is let be is another
other : (third i instrument : ℕ) → barred third i ≡ true → allowed third instrument ≡ true → eqb instrument i ≡ false
other third i instrument b h = by (eqb instrument i) refl
  where
    by : (t : Bool) → eqb instrument i ≡ t → t ≡ false
    by true e = let same : instrument ≡ i = eqb-true instrument i e in let no : not (barred third i) ≡ true = rw same at h in let never : false ≡ true = rw b at no in clash cc
    by false e = refl

-- no field is of its instrument
not-concerned : (third i : ℕ) (f : Field) → barred third i ≡ true → Let third f → concerns i f ≡ false
not-concerned third i (Header metal marks form) b h = refl
not-concerned third i (PreviousClose instrument price) b h = other third i instrument b h
not-concerned third i (Trade time instrument price lots) b h = other third i instrument b h
not-concerned third i (Quote time instrument sides bid offer) b h = other third i instrument b h
not-concerned third i (End count) b h = refl

-- so that none is turned
none-turned : (third i : ℕ) (fs : List Field) → barred third i ≡ true → Each (Let third) fs → map (turned_field i) fs ≡ map (remarked (turned_marks i)) fs
none-turned third i [] b h = refl
none-turned third i (f ∷ fs) b h = ap₂ ◌∷◌ (rw (not-concerned third i f b h.0) refl) (none-turned third i fs b h.1)

pub barred-turns : BarredLaw
unfolding turned
barred-turns s day i a b = ap encode (none-turned (third_of day.form) i (fields_of s) b (accepted-let s day a))
