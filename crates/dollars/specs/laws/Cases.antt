-- The cases of the definitions: as the code meets them, and as an answer tells them. Assumes nothing.
use Rattle.std.specs.Prelude.{ℕ, zero, suc, ◌+◌, ◌-◌, ◌*◌, ◌^◌, ◌<◌, Bool, true, false, not, cond, ◌≡◌, refl, List, [], ◌∷◌, eqb, ℤ, pos, neg_ℤ, ◌-ℤ◌, length, get_or, take, drop, Option, Some, None}
use Rattle.std.proofs.Math.Path.{sym}
use Rattle.std.proofs.Common.{ap, ◌∙◌, arith, length-drop, take_all, to_z, of_z, Fits, SFits, to_z-of_z}
use Rattle.std.proofs.Math.IntN.{+ℤ_idl}
use Rattle.std.specs.Int.{w32}
use Rattle.std.proofs.Math.Facts.{to_z_pos}
use borrow.Author.Tests.{not-true, not-false, eq-eqb, ne_eqb, eqb-true}
use Rattle.numerals.specs.Numerals.{is_digit, number, given}
use Rattle.numerals.specs.laws.Numerals.{clash, Digit, is_digit_lem, number-most}
use Rattle.field.specs.declared.Price.{Price}
use Rattle.dollars.specs.Dollars.{pointed, cents, priced, upward, downward, price}

-- ---- what an answer tells

pub need-true : {A : Type 0} (t : Bool) (x bad : A) (y : A) → (bad ≡ y → ⊥) → cond t x bad ≡ y → (t ≡ true) × (x ≡ y)
need-true true x bad y n e = (refl, e)
need-true false x bad y n e = absurd (n e)

no_value : (h : ℕ) → None ≡ Some h → ⊥
no_value h e = clash cc

pub record Given {A : Type 0} (r : Option ℕ) (more : ℕ → A) (y : A) : Type 0 where
  pub n : ℕ
  pub is : r ≡ Some n
  pub rest : more n ≡ y

pub given_is : {A : Type 0} (r : Option ℕ) (bad : A) (more : ℕ → A) (y : A) → (bad ≡ y → ⊥) → given bad r more ≡ y → Given r more y
given_is (Some n) bad more y never e = record { n = n; is = refl; rest = e }
given_is None bad more y never e = absurd (never e)

pub record Pointed (s : List ℕ) (h : ℕ) : Type 0 where
  pub long : length s ≡ 3
  pub point : get_or s 0 0 ≡ 46
  pub tens : Digit (get_or s 1 0)
  pub units : Digit (get_or s 2 0)
  pub value : (get_or s 1 0 - 48) * 10 + (get_or s 2 0 - 48) ≡ h

pub pointed-is : (s : List ℕ) (h : ℕ) → pointed s ≡ Some h → Pointed s h
unfolding pointed
pointed-is s h e =
    let never = no_value h in
    let a = need-true (eqb (length s) 3) _ None (Some h) never e in
    let b = need-true (eqb (get_or s 0 0) 46) _ None (Some h) never a.1 in
    let c = need-true (is_digit (get_or s 1 0)) _ None (Some h) never b.1 in
    let d = need-true (is_digit (get_or s 2 0)) _ None (Some h) never c.1 in
    let v = d.1 in
    record { long = eqb-true _ _ a.0; point = eqb-true _ _ b.0; tens = is_digit_lem _ c.0; units = is_digit_lem _ d.0; value = cc }

pub record Amount (s : List ℕ) (n : ℕ) : Type 0 where
  pub dollars : ℕ
  pub rest : ℕ
  pub point : pointed (drop (length s - 3) s) ≡ Some rest
  pub whole : number 10000000 (take (length s - 3) s) ≡ Some dollars
  pub value : dollars * 100 + rest ≡ n

pub amount-is : (s : List ℕ) (n : ℕ) → cents s ≡ Some n → Amount s n
unfolding cents
amount-is s n e =
    let a = given_is (pointed (drop (length s - 3) s)) None _ (Some n) (no_value n) e in
    let b = given_is (number 10000000 (take (length s - 3) s)) None _ (Some n) (no_value n) a.rest in
    let v = b.rest in
    record { dollars = b.n; rest = a.n; point = a.is; whole = b.is; value = cc }

pub small-point : (s : List ℕ) (h : ℕ) → pointed s ≡ Some h → h < 100
small-point s h e = let p = pointed-is s h e in omega (arith, p.tens.high, p.units.high, p.value)

pub small-cents : (s : List ℕ) (n : ℕ) → cents s ≡ Some n → n < 2 ^ 31
small-cents s n e = let a = amount-is s n e in omega (arith, small-point _ _ a.point, number-most _ _ _ a.whole, a.value)

-- ---- the places of the code

module _ (s : List ℕ) where
  pub p-long : (length s ≡ 3 → ⊥) → None ≡ pointed s
  unfolding pointed
  p-long h = simp (ne_eqb _ 3 h)

  pub p-point : length s ≡ 3 → (get_or s 0 0 ≡ 46 → ⊥) → None ≡ pointed s
  unfolding pointed
  p-point l h = simp (eq-eqb _ 3 l, ne_eqb _ 46 h)

  module _ (l : length s ≡ 3) (p : get_or s 0 0 ≡ 46) (r : Bool) (q : r ≡ is_digit (get_or s 1 0)) where
    pub p-tens : not r ≡ true → None ≡ pointed s
    unfolding pointed
    p-tens h = simp (eq-eqb _ 3 l, eq-eqb _ 46 p, sym q, not-true r h)

    module _ (h : not r ≡ false) (t : Bool) (u : t ≡ is_digit (get_or s 2 0)) where
      pub p-units : not t ≡ true → None ≡ pointed s
      unfolding pointed
      p-units g = simp (eq-eqb _ 3 l, eq-eqb _ 46 p, sym q, not-false r h, sym u, not-true t g)

      pub p-whole : not t ≡ false → (d e : ℕ) → d ≡ get_or s 1 0 - 48 → e ≡ get_or s 2 0 - 48 → Some (d * 10 + e) ≡ pointed s
      unfolding pointed
      p-whole g d e i j = simp (eq-eqb _ 3 l, eq-eqb _ 46 p, sym q, not-false r h, sym u, not-false t g, i, j)

-- the part from a place to the end
to_end : (k : ℕ) (s : List ℕ) → take (length s - k) (drop k s) ≡ drop k s
to_end k s = take_all (length s - k) (drop k s) (omega (arith, length-drop k s))

module _ (s : List ℕ) (k : ℕ) (r : Option ℕ) (l : k ≡ length s - 3) (p : r ≡ pointed (take (length s - k) (drop k s))) where
  at-point : pointed (drop (length s - 3) s) ≡ r
  at-point = ap (λ (i : ℕ). pointed (drop i s)) (sym l) ∙ ap pointed (sym (to_end k s)) ∙ sym p

  pub c-point : r ≡ None → None ≡ cents s
  unfolding cents
  c-point e = simp (at-point, e)

  module _ (h : ℕ) (e : r ≡ Some h) (q : Option ℕ) (m : q ≡ number 10000000 (take k s)) where
    at-whole : number 10000000 (take (length s - 3) s) ≡ q
    at-whole = ap (λ (i : ℕ). number 10000000 (take i s)) (sym l) ∙ sym m

    pub c-number : q ≡ None → None ≡ cents s
    unfolding cents
    c-number g = simp (at-point, e, at-whole, g)

    pub c-whole : (d : ℕ) → q ≡ Some d → Some (d * 100 + h) ≡ cents s
    unfolding cents
    c-whole d g = simp (at-point, e, at-whole, g)

pub whole-fits : (s : List ℕ) (q : Option ℕ) (d : ℕ) → q ≡ number 10000000 s → q ≡ Some d → Fits w32 (d * 100)
whole-fits s q d m e = record { fits = omega (arith, number-most _ _ _ (sym m ∙ e)) }

pub sum_fits : (s t : List ℕ) (r q : Option ℕ) (h d : ℕ) → r ≡ pointed t → r ≡ Some h → q ≡ number 10000000 s → q ≡ Some d → Fits w32 (d * 100 + h)
sum_fits s t r q h d p f m e = record { fits = omega (arith, number-most _ _ _ (sym m ∙ e), small-point _ _ (sym p ∙ f)) }

-- ---- a signed price

pub up_is : (n : ℕ) → n < 2 ^ 31 → Some (priced (to_z w32 n)) ≡ upward n
up_is n h = ap (λ (z : ℤ). Some (priced z)) (to_z_pos w32 h)

pub minus : (n : ℕ) → n < 2 ^ 31 → pos 0 -ℤ to_z w32 n ≡ neg_ℤ (pos n)
minus n h = ap (λ (z : ℤ). pos 0 -ℤ z) (to_z_pos w32 h) ∙ zero-less n
  where
    zero-less : (n : ℕ) → pos 0 -ℤ pos n ≡ neg_ℤ (pos n)
    zero-less n = +ℤ_idl (neg_ℤ (pos n))

neg-fits : (n : ℕ) → n < 2 ^ 31 → SFits w32 (neg_ℤ (pos n))
neg-fits zero h = record { sfits = omega arith }
neg-fits (suc n) h = record { sfits = omega arith }

pub down_fits : (n : ℕ) → n < 2 ^ 31 → SFits w32 (pos 0 -ℤ to_z w32 n)
down_fits n h = rw (minus n h) (neg-fits n h)

pub down-zero : (n : ℕ) → n ≡ 0 → None ≡ downward n
unfolding downward
down-zero n h = simp (eq-eqb n 0 h)

pub down_is : (n : ℕ) → n < 2 ^ 31 → (n ≡ 0 → ⊥) → Some (priced (to_z w32 (of_z w32 (pos 0 -ℤ to_z w32 n)))) ≡ downward n
unfolding downward
down_is n h z = simp (ne_eqb n 0 z) (ap (λ (z : ℤ). Some (priced z)) (to_z-of_z (down_fits n h) ∙ minus n h))

-- ---- a price

pub price-none : (s : List ℕ) → length s ≡ 0 → None ≡ price s
unfolding price cents pointed
price-none [] h = refl
price-none (b ∷ s) h = absurd (omega arith)

module _ (s : List ℕ) (r : Option ℕ) where
  pub r_small : r ≡ cents s → (n : ℕ) → r ≡ Some n → n < 2 ^ 31
  r_small q n e = small-cents s n (sym q ∙ e)

  module _ (b : get_or s 0 0 ≡ 45 → ⊥) (q : r ≡ cents s) where
    pub price-bad : r ≡ None → None ≡ price s
    unfolding price
    price-bad e = simp (ne_eqb _ 45 b, sym q, e)

    pub price-up : (n : ℕ) (m : Option Price) → r ≡ Some n → m ≡ upward n → m ≡ price s
    unfolding price
    price-up n m e u = simp (ne_eqb _ 45 b, sym q, e, u)

  module _ (b : get_or s 0 0 ≡ 45) (q : r ≡ cents (take (length s - 1) (drop 1 s))) where
    at_rest : cents (drop 1 s) ≡ r
    at_rest = ap cents (sym (to_end 1 s)) ∙ sym q

    pub price-bad-down : r ≡ None → None ≡ price s
    unfolding price
    price-bad-down e = simp (eq-eqb _ 45 b, at_rest, e)

    pub price-down : (n : ℕ) (m : Option Price) → r ≡ Some n → m ≡ downward n → m ≡ price s
    unfolding price
    price-down n m e u = simp (eq-eqb _ 45 b, at_rest, e, u)
