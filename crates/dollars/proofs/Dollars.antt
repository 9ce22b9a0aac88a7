-- A price written is read again, and a price read is what would be written, below 10,000,000 dollars either way. Assumes nothing.
use Rattle.std.specs.Prelude.{ℕ, zero, suc, ◌+◌, ◌-◌, ◌*◌, ◌/◌, ◌%◌, ◌≤◌, ◌<◌, Bool, true, false, ◌≡◌, refl, List, [], ◌∷◌, ◌++◌, eqb, ℤ, pos, negsuc, neg_ℤ, nat_abs, length, get_or, take, drop, Some, None}
use Rattle.std.proofs.Common.{sym, ap, ◌∙◌, div-add-mod', mod-lt, mod-eq_of_lt, div-lt_iff_lt-mul, arith, length-append, take-append-drop, ne_eqb, eqb-true}
use Rattle.std.proofs.Math.Nat.{div-div-eq-div-mul, mul-add-div_right, mul-add-mod_self_right, div-eq_of_lt}
use Rattle.std.proofs.Math.Dec.{eqb-suc-zero}
use Rattle.std.proofs.Math.Seq.{take-append_seam, drop-append_seam}
use Rattle.text.specs.Decimal.{digit, decimal}
use Rattle.numerals.specs.Numerals.{is_digit, number, given}
use Rattle.numerals.specs.laws.Lacks.{lacks, lacks-join}
use Rattle.numerals.specs.laws.Numerals.{clash, Digit, digit-is, writes-read, reads-written, number-first, number-lacks}
use Rattle.field.specs.declared.Price.{Price}
use Rattle.dollars.specs.Dollars.{pointed, cents, priced, upward, downward, price, amount, sign_of, price_text}
use Rattle.dollars.specs.laws.Cases.{given_is, pointed-is, amount-is}

-- ---- three digits off a number

pub record Parts (n d x y : ℕ) : Type 0 where
  pub whole : n / 100 ≡ d
  pub tens : n / 10 % 10 ≡ x
  pub units : n % 10 ≡ y

tenth : (a b : ℕ) → b < 10 → (a * 10 + b) / 10 ≡ a
tenth a b h = mul-add-div_right (omega arith) a b ∙ ap (λ (v : ℕ). a + v) (div-eq_of_lt h) ∙ omega arith

last : (a b : ℕ) → b < 10 → (a * 10 + b) % 10 ≡ b
last a b h = mul-add-mod_self_right a 10 b ∙ mod-eq_of_lt h

parts : (n d x y : ℕ) → x < 10 → y < 10 → d * 100 + (x * 10 + y) ≡ n → Parts n d x y
parts n d x y h g e =
    let f : n ≡ (d * 10 + x) * 10 + y = omega arith in
    let t : n / 10 ≡ d * 10 + x = ap (λ (v : ℕ). v / 10) f ∙ tenth (d * 10 + x) y g in
    record {
      whole = sym (div-div-eq-div-mul n 10 10) ∙ ap (λ (v : ℕ). v / 10) t ∙ tenth d x h;
      tens = ap (λ (v : ℕ). v % 10) t ∙ last d x h;
      units = ap (λ (v : ℕ). v % 10) f ∙ last (d * 10 + x) y g;
    }

pub amount-of : (d x y : ℕ) → x < 10 → y < 10 → decimal d ++ 46 ∷ digit x ∷ digit y ∷ [] ≡ amount (d * 100 + (x * 10 + y))
amount-of d x y h g = let k = parts (d * 100 + (x * 10 + y)) d x y h g refl in sym (simp (k.whole, k.tens, k.units))

back : (n : ℕ) → n / 100 * 100 + (n / 10 % 10 * 10 + n % 10) ≡ n
back n = omega (arith, div-add-mod' n 10, div-add-mod' (n / 10) 10, div-div-eq-div-mul n 10 10)

-- ---- an amount

pointed-of : (x y : ℕ) → x < 10 → y < 10 → pointed (46 ∷ digit x ∷ digit y ∷ []) ≡ Some (x * 10 + y)
unfolding pointed
pointed-of x y h g =
    let a : digit x - 48 ≡ x = omega arith in
    let b : digit y - 48 ≡ y = omega arith in
    simp (digit-is x h, digit-is y g, a, b)

joined : (p t : List ℕ) (h d : ℕ) → length t ≡ 3 → pointed t ≡ Some h → number 10000000 p ≡ Some d → cents (p ++ t) ≡ Some (d * 100 + h)
unfolding cents
joined p t h d l q w =
    let e : length (p ++ t) - 3 ≡ length p = omega (arith, length-append p t) in
    simp (e, drop-append_seam p t, take-append_seam p t, q, w)

dollars-of : (n : ℕ) → n < 1000000000 → number 10000000 (decimal (n / 100)) ≡ Some (n / 100)
dollars-of n h =
    let hundred : 0 < 100 = omega arith in
    let l : n / 100 < 10000000 = (div-lt_iff_lt-mul hundred).1 (omega arith) in
    reads-written 10000000 (n / 100) (omega arith) (omega arith)

pub cents-written : (n : ℕ) → n < 1000000000 → cents (amount n) ≡ Some n
cents-written n h =
    let ten : 0 < 10 = omega arith in
    joined (decimal (n / 100)) (46 ∷ digit (n / 10 % 10) ∷ digit (n % 10) ∷ []) _ _ refl (pointed-of (n / 10 % 10) (n % 10) (mod-lt (n / 10) ten) (mod-lt n ten)) (dollars-of n h)
    ∙ ap Some (back n)

three : (t : List ℕ) → length t ≡ 3 → t ≡ get_or t 0 0 ∷ get_or t 1 0 ∷ get_or t 2 0 ∷ []
three [] h = absurd (omega arith)
three (a ∷ []) h = absurd (omega arith)
three (a ∷ b ∷ []) h = absurd (omega arith)
three (a ∷ b ∷ c ∷ []) h = refl
three (a ∷ b ∷ c ∷ d ∷ t) h = absurd (omega arith)

ending : (t : List ℕ) (n d h : ℕ) → pointed t ≡ Some h → d * 100 + h ≡ n → (n / 100 ≡ d) × (46 ∷ digit (n / 10 % 10) ∷ digit (n % 10) ∷ [] ≡ t)
ending t n d h q e =
    let p = pointed-is t h q in
    let k = parts n d (get_or t 1 0 - 48) (get_or t 2 0 - 48) (omega (arith, p.tens.high)) (omega (arith, p.units.high)) (omega (arith, p.value)) in
    let a : digit (n / 10 % 10) ≡ get_or t 1 0 = omega (arith, k.tens, p.tens.low) in
    let b : digit (n % 10) ≡ get_or t 2 0 = omega (arith, k.units, p.units.low) in
    (k.whole, rw (a, b, ← p.point) (sym (three t p.long)))

pub cents-read : (s : List ℕ) (n : ℕ) → cents s ≡ Some n → n < 1000000000 → amount n ≡ s
cents-read s n e h =
    let a = amount-is s n e in
    let k = ending (drop (length s - 3) s) n a.dollars a.rest a.point a.value in
    let w : decimal a.dollars ≡ take (length s - 3) s = writes-read 10000000 a.dollars _ (omega arith) a.whole (omega (arith, a.value)) in
    ap (λ (v : List ℕ). v ++ 46 ∷ digit (n / 10 % 10) ∷ digit (n % 10) ∷ []) (ap decimal k.0 ∙ w) ∙ ap (λ (v : List ℕ). take (length s - 3) s ++ v) k.1 ∙ take-append-drop (length s - 3) s

-- ---- a price

pub price-plain : (n : ℕ) → amount n ≡ price_text (pos n)
unfolding sign_of
price-plain n = refl

pub price-minus : (n : ℕ) → 1 ≤ n → 45 ∷ amount n ≡ price_text (neg_ℤ (pos n))
unfolding sign_of
price-minus zero h = absurd (omega arith)
price-minus (suc n) h = refl

lead : (p q : List ℕ) → Digit (get_or p 0 0) → Digit (get_or (p ++ q) 0 0)
lead [] q d = absurd (omega (arith, d.low))
lead (b ∷ p) q d = d

pub price-written : (z : ℤ) → nat_abs z < 1000000000 → price (price_text z) ≡ Some (priced z)
unfolding price sign_of downward
price-written (pos n) h =
    let d = lead (decimal (n / 100)) (46 ∷ digit (n / 10 % 10) ∷ digit (n % 10) ∷ []) (number-first _ _ _ (dollars-of n h)) in
    simp (ne_eqb (get_or (amount n) 0 0) 45 (λ e. omega (arith, d.low)), cents-written n h)
price-written (negsuc n) h = rw (cents-written (suc n) h) (minus n)
  where
    minus : (n : ℕ) → downward (suc n) ≡ Some (priced (negsuc n))
    minus n = simp (eqb-suc-zero n)

no-cents : (p : Price) → None ≡ Some p → ⊥
no-cents p e = clash cc

up-read : (s : List ℕ) (n : ℕ) (p : Price) → cents s ≡ Some n → upward n ≡ Some p → nat_abs p.cents < 1000000000 → price_text p.cents ≡ s
unfolding sign_of
up-read s n p e u h =
    let z : p ≡ priced (pos n) = cc in
    rw z (cents-read s n e (rw z at h))

down-read : (s : List ℕ) (n : ℕ) (p : Price) → cents s ≡ Some n → downward n ≡ Some p → nat_abs p.cents < 1000000000 → price_text p.cents ≡ 45 ∷ s
unfolding sign_of downward
down-read s zero p e u h = clash cc
down-read s (suc n) p e u h =
    let v : Some (priced (negsuc n)) ≡ Some p = simp (eqb-suc-zero n) at u in
    let z : p ≡ priced (negsuc n) = cc in
    rw z (ap (λ (v : List ℕ). 45 ∷ v) (cents-read s (suc n) e (rw z at h)))

behind : (s : List ℕ) → get_or s 0 0 ≡ 45 → 45 ∷ drop 1 s ≡ s
behind [] e = absurd (omega arith)
behind (b ∷ s) e = ap (λ (v : ℕ). v ∷ s) (sym e)

pub price-read : (s : List ℕ) (p : Price) → price s ≡ Some p → nat_abs p.cents < 1000000000 → price_text p.cents ≡ s
unfolding price
price-read s p e h = by-test (eqb (get_or s 0 0) 45) refl
  where
    by-test : (t : Bool) → eqb (get_or s 0 0) 45 ≡ t → price_text p.cents ≡ s
    by-test true b =
        let f : given None (cents (drop 1 s)) downward ≡ Some p = simp b at e in
        let g = given_is (cents (drop 1 s)) None downward (Some p) (no-cents p) f in
        down-read (drop 1 s) g.n p g.is g.rest h ∙ behind s (eqb-true _ _ b)
    by-test false b =
        let f : given None (cents s) upward ≡ Some p = simp b at e in
        let g = given_is (cents s) None upward (Some p) (no-cents p) f in
        up-read s g.n p g.is g.rest h

-- ---- a byte that stands in no price

pub record Odd (c : ℕ) : Type 0 where
  pub digits : is_digit c ≡ false
  pub point : eqb 46 c ≡ false
  pub minus : eqb 45 c ≡ false

apart : (c d : ℕ) → is_digit c ≡ false → d < 10 → digit d ≡ c → ⊥
apart c d h l e = clash (cc (digit-is d l))

lacks-amount : (c n : ℕ) → Odd c → n < 1000000000 → lacks c (amount n) ≡ true
lacks-amount c n o h =
    let ten : 0 < 10 = omega arith in
    lacks-join c (decimal (n / 100)) (46 ∷ digit (n / 10 % 10) ∷ digit (n % 10) ∷ []) (number-lacks c 10000000 (n / 100) (decimal (n / 100)) o.digits (dollars-of n h))
    (simp (o.point, ne_eqb (digit (n / 10 % 10)) c (apart c (n / 10 % 10) o.digits (mod-lt (n / 10) ten)), ne_eqb (digit (n % 10)) c (apart c (n % 10) o.digits (mod-lt n ten))))

pub price-lacks : (c : ℕ) (z : ℤ) → Odd c → nat_abs z < 1000000000 → lacks c (price_text z) ≡ true
unfolding sign_of
price-lacks c (pos n) o h = lacks-amount c n o h
price-lacks c (negsuc n) o h = simp o.minus (lacks-amount c (suc n) o h)
