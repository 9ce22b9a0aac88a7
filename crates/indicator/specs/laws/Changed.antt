-- A change of the fields of one instrument, and the indicator's state that goes along with it.
--     after-changed  a change of the state that goes along field by field goes along over the whole list
--     others-stay    the indicators of other instruments stay
-- Assumes nothing.
use Rattle.std.specs.Prelude.{ℕ, ◌≡◌, Bool, true, false, cond, List, [], ◌∷◌, map, leb, eqb, Option, Some, None}
use Rattle.std.proofs.Math.Path.{refl}
use Rattle.std.proofs.Common.{sym, ap, ap₂, ◌∙◌, eqb-true, ne_eqb}
use Rattle.field.specs.declared.Price.{Price}
use Rattle.field.specs.declared.Field.{Field}
use Rattle.field.specs.declared.Field.TheVariants.{Header, PreviousClose, Trade, Quote, End}
use Rattle.field.specs.Repriced.{concerns, changed, Sides, repriced}
use Rattle.indicator.specs.declared.Indicator.{Indicator}
use Rattle.indicator.specs.Indicator.{present, empty, else_at, after_trade, after_close, after_quote, taken, stamp, after_from, after}

-- a side moved by m
abbrev pub on_side : (Price → Price) → Option Price → Option Price
on_side m None = None
on_side m (Some p) = Some (m p)

pub on-present : (m : Price → Price) (r : Option Price) → present (on_side m r) ≡ present r
on-present m None = refl
on-present m (Some p) = refl

pub on-else : (m : Price → Price) (r : Option Price) (price : Price) → else_at (on_side m r) (m price) ≡ on_side m (else_at r price)
on-else m None price = refl
on-else m (Some p) price = refl

-- a function of a choice is the choice of its values
pub cond_map : {A B : Type 0} (g : A → B) (t : Bool) (x y : A) → cond t (g x) (g y) ≡ g (cond t x y)
cond_map g true x y = refl
cond_map g false x y = refl

-- ---- one field

-- a field of another instrument does nothing
other : (i : ℕ) (s : Indicator) (f : Field) → concerns i f ≡ false → taken i s f ≡ s
unfolding taken
other i s (Header metal marks form) e = refl
other i s (PreviousClose instrument price) e = simp e
other i s (Trade time instrument price lots) e = simp e
other i s (Quote time instrument sides bid offer) e = simp e
other i s (End count) e = refl

-- a change that keeps a field's time and instrument
pub record Keeps (g : Field → Field) : Type 0 where
  pub time : (f : Field) → stamp (g f) ≡ stamp f
  pub instrument : (i : ℕ) (f : Field) → concerns i (g f) ≡ concerns i f

pub repriced-keeps : (m : Price → Price) (q : ℕ → Price → Price → Sides) → Keeps (repriced m q)
repriced-keeps m q = record { time = at-time; instrument = of-instrument }
  where
    at-time : (f : Field) → stamp (repriced m q f) ≡ stamp f
    at-time (Header metal marks form) = refl
    at-time (PreviousClose instrument price) = refl
    at-time (Trade time instrument price lots) = refl
    at-time (Quote time instrument sides bid offer) = refl
    at-time (End count) = refl

    of-instrument : (i : ℕ) (f : Field) → concerns i (repriced m q f) ≡ concerns i f
    of-instrument i (Header metal marks form) = refl
    of-instrument i (PreviousClose instrument price) = refl
    of-instrument i (Trade time instrument price lots) = refl
    of-instrument i (Quote time instrument sides bid offer) = refl
    of-instrument i (End count) = refl

-- the state goes along with the change of a field
abbrev pub Along : ℕ → (Field → Field) → (Indicator → Indicator) → Type 0
Along i g G = (s : Indicator) (f : Field) → taken i (G s) (g f) ≡ G (taken i s f)

-- it goes along with a change of prices where it goes along with closes, trades and quotes
module _ (i : ℕ) (m : Price → Price) (q : ℕ → Price → Price → Sides) (G : Indicator → Indicator)
    (close : (s : Indicator) (p : Price) → after_close (G s) (m p) ≡ G (after_close s p))
    (trade : (s : Indicator) (p : Price) → after_trade (G s) (m p) ≡ G (after_trade s p))
    (quote : (s : Indicator) (n : ℕ) (b o : Price) → after_quote (G s) (q n b o).sides (q n b o).bid (q n b o).offer ≡ G (after_quote s n b o)) where
  pub repriced-along : Along i (repriced m q) G
  unfolding taken
  repriced-along s (Header metal marks form) = refl
  repriced-along s (PreviousClose instrument price) = rw (close s price) (cond_map G (eqb instrument i) (after_close s price) s)
  repriced-along s (Trade time instrument price lots) = rw (trade s price) (cond_map G (eqb instrument i) (after_trade s price) s)
  repriced-along s (Quote time instrument sides bid offer) = rw (quote s sides bid offer) (cond_map G (eqb instrument i) (after_quote s sides bid offer) s)
  repriced-along s (End count) = refl

-- ---- a list of fields

along-map : (i t : ℕ) (g : Field → Field) (G : Indicator → Indicator) → ((f : Field) → stamp (g f) ≡ stamp f) → Along i g G
    → (s : Indicator) (fs : List Field) → after_from i t (G s) (map g fs) ≡ G (after_from i t s fs)
unfolding after_from
along-map i t g G time step s [] = refl
along-map i t g G time step s (f ∷ fs) =
    ap (λ (x : Indicator). after_from i t x (map g fs))
    (ap₂ (λ (n : ℕ) (x : Indicator). cond (leb n t) x (G s)) (time f) (step s f) ∙ cond_map G (leb (stamp f) t) (taken i s f) s)
    ∙ along-map i t g G time step (cond (leb (stamp f) t) (taken i s f) s) fs

changed-time : (i : ℕ) (g : Field → Field) → Keeps g → (f : Field) → stamp (changed i g f) ≡ stamp f
changed-time i g keeps f = by-test (concerns i f)
  where
    by-test : (b : Bool) → stamp (cond b (g f) f) ≡ stamp f
    by-test true = keeps.time f
    by-test false = refl

pub after-changed : (i : ℕ) (g : Field → Field) (G : Indicator → Indicator) → Keeps g → Along i g G → G empty ≡ empty
    → (t : ℕ) (fs : List Field) → after i t (map (changed i g) fs) ≡ G (after i t fs)
after-changed i g G keeps along none t fs =
    ap (λ (s : Indicator). after_from i t s (map (changed i g) fs)) (sym none)
    ∙ along-map i t (changed i g) G (changed-time i g keeps) (λ s f. by-test s f (concerns i f) refl) empty fs
  where
    by-test : (s : Indicator) (f : Field) (b : Bool) → concerns i f ≡ b → taken i (G s) (cond b (g f) f) ≡ G (taken i s f)
    by-test s f true e = along s f
    by-test s f false e = other i (G s) f e ∙ ap G (sym (other i s f e))

-- ---- another instrument

one_of : (i j instrument : ℕ) → (j ≡ i → ⊥) → eqb instrument i ≡ true → eqb instrument j ≡ false
one_of i j instrument differs e = ne_eqb instrument j (λ h. differs (sym h ∙ eqb-true instrument i e))

-- a field is of one instrument
pub not-both : (i j : ℕ) (f : Field) → (j ≡ i → ⊥) → concerns i f ≡ true → concerns j f ≡ false
not-both i j (Header metal marks form) d e = refl
not-both i j (PreviousClose instrument price) d e = one_of i j instrument d e
not-both i j (Trade time instrument price lots) d e = one_of i j instrument d e
not-both i j (Quote time instrument sides bid offer) d e = one_of i j instrument d e
not-both i j (End count) d e = refl

pub others-stay : (i j : ℕ) (g : Field → Field) → Keeps g → (j ≡ i → ⊥) → (t : ℕ) (fs : List Field) → after j t (map (changed i g) fs) ≡ after j t fs
others-stay i j g keeps differs t fs = along-map j t (changed i g) (λ s. s) (changed-time i g keeps) (λ s f. by-test s f (concerns i f) refl) empty fs
  where
    by-test : (s : Indicator) (f : Field) (b : Bool) → concerns i f ≡ b → taken j s (cond b (g f) f) ≡ taken j s f
    by-test s f true e =
        let no = not-both i j f differs e in
        other j s (g f) (keeps.instrument j f ∙ no) ∙ sym (other j s f no)
    by-test s f false e = refl
