-- Numerals are canonical: what was written is read, and what was read is what would be written.
--     reads-written    number most (decimal n) is n, for n up to most
--     writes-read      bytes that say a number below most are that number's decimal
-- Assumes nothing.
use Rattle.std.specs.Prelude.{ℕ, zero, suc, ◌+◌, ◌-◌, ◌*◌, ◌/◌, ◌%◌, ◌^◌, ◌≤◌, ◌<◌, Bool, true, false, ◌≡◌, refl, List, [], ◌∷◌, ◌++◌, ltb, eqb, length, get_or, Some}
use Rattle.std.proofs.Common.{sym, ap, ◌∙◌, append-nil, append_assoc, pow-suc, div-lt_iff_lt-mul, mod-lt, div-add-mod', mod-eq_of_lt, arith, length-append, lt-ltb, le-ltb, le-leb, ne_eqb, ltb-true}
use Rattle.std.proofs.Math.Nat.{mul-add-div_right, mul-add-mod_self_right, div-eq_of_lt}
use Rattle.std.proofs.Math.Decide.{dec_le, dec_lt}
use Rattle.std.proofs.Math.ListN.{get_or-append}
use Rattle.std.proofs.lemmas.Bool.{lt-leb, eqb-false, not-true}
use Rattle.text.specs.Decimal.{digit, decimal_in, decimal}
use Rattle.text.specs.laws.Decimal.{decimal-length}
use Rattle.numerals.specs.Numerals.{is_digit, risen, number_from, opens, number}
use Rattle.numerals.specs.laws.Lacks.{lacks}
use Rattle.numerals.specs.laws.Walk.{risen-most}

pub clash : {A : Type 0} → ◌≡◌ {A = ℕ} 0 1 → A
clash e = absurd (omega arith)

-- ---- digits

pub digit-is : (d : ℕ) → d < 10 → is_digit (digit d) ≡ true
unfolding is_digit
digit-is d h = simp (le-ltb (digit d) 48 (omega arith), lt-ltb (digit d) 58 (omega arith))

pub record Digit (b : ℕ) : Type 0 where
  pub low : 48 ≤ b
  pub high : b < 58

pub is_digit_lem : (b : ℕ) → is_digit b ≡ true → Digit b
unfolding is_digit
is_digit_lem b e = by-test (dec_lt b 48)
  where
    by-test : Dec (b < 48) → Digit b
    by-test (yes h) = let g = simp (lt-ltb b 48 h) at e in clash cc
    by-test (no h) = let low : 48 ≤ b = omega arith in let g : ltb b 58 ≡ true = simp (le-ltb b 48 low) at e in record { low = low; high = ltb-true b 58 g }

-- ---- rising

pub rises : (most n b : ℕ) → n * 10 + (b - 48) ≤ most → risen most n b ≡ n * 10 + (b - 48)
unfolding risen
rises most n b h = simp (le-leb (n * 10 + (b - 48)) most h)

pub stands : (most n b : ℕ) → most < n * 10 + (b - 48) → risen most n b ≡ most
unfolding risen
stands most n b h = simp (lt-leb (n * 10 + (b - 48)) most h)

full-risen : (most b : ℕ) → risen most most b ≡ most
full-risen most b = by-test (dec_le (most * 10 + (b - 48)) most)
  where
    by-test : Dec (most * 10 + (b - 48) ≤ most) → risen most most b ≡ most
    by-test (yes h) = rises most most b h ∙ omega arith
    by-test (no h) = stands most most b (omega arith)

-- what the first byte of digits says
pub record Begun (most n a b : ℕ) (s : List ℕ) : Type 0 where
  pub is : is_digit b ≡ true
  pub rest : number_from most (risen most a b) s ≡ Some n

pub begun : (most n a b : ℕ) (s : List ℕ) → number_from most a (b ∷ s) ≡ Some n → Begun most n a b s
unfolding number_from
begun most n a b s e = by-test (is_digit b) refl
  where
    by-test : (t : Bool) → is_digit b ≡ t → Begun most n a b s
    by-test true h = record { is = h; rest = simp h at e }
    by-test false h = let g = simp h at e in clash cc

ended : (most n a : ℕ) → number_from most a [] ≡ Some n → a ≡ n
unfolding number_from
ended most n a e = cc

-- a number that has stopped rising stays
full : (most n : ℕ) (s : List ℕ) → number_from most most s ≡ Some n → n ≡ most
full most n [] e = sym (ended most n most e)
full most n (b ∷ s) e = full most n s (rw (full-risen most b) at (begun most n most b s e).rest)

-- a number below most never stopped
pub record Rose (most n a b : ℕ) (s : List ℕ) : Type 0 where
  pub digit : Digit b
  pub rest : number_from most (a * 10 + (b - 48)) s ≡ Some n
  pub below : a * 10 + (b - 48) ≤ most

pub rose : (most n a b : ℕ) (s : List ℕ) → number_from most a (b ∷ s) ≡ Some n → n < most → Rose most n a b s
rose most n a b s e l = by-test (dec_le (a * 10 + (b - 48)) most)
  where
    by-test : Dec (a * 10 + (b - 48) ≤ most) → Rose most n a b s
    by-test (yes h) =
        let g = begun most n a b s e in
        record { digit = is_digit_lem b g.is; rest = rw (rises most a b h) at g.rest; below = h }
    by-test (no h) = absurd (omega (arith, full most n s (rw (stands most a b (omega arith)) at (begun most n a b s e).rest)))

-- ---- the decimal of a number and one digit more

pub one : (k n : ℕ) → n < 10 → decimal_in (suc k) n ≡ digit n ∷ []
unfolding decimal_in
one k n h = simp (lt-ltb n 10 h)

split : (k n : ℕ) → 10 ≤ n → decimal_in (suc k) n ≡ decimal_in k (n / 10) ++ digit (n % 10) ∷ []
unfolding decimal_in
split k n h = simp (le-ltb n 10 h)

tenth : (k n : ℕ) → n < 10 ^ suc k → n / 10 < 10 ^ k
tenth k n h = let ten : 0 < 10 = omega arith in (div-lt_iff_lt-mul ten).1 (rw pow-suc at h)

-- a number has no more digits than the power of ten above it
pub digits-short : (j k n : ℕ) → n < 10 ^ suc k → length (decimal_in j n) ≤ suc k
digits-short zero k n h = omega (arith, decimal-length zero n)
digits-short (suc j) zero n h = rw (one j n (omega arith)) (omega arith)
digits-short (suc j) (suc k) n h = by-test (digits-short j k (n / 10) (tenth (suc k) n h)) (dec_lt n 10)
  where
    by-test : length (decimal_in j (n / 10)) ≤ suc k → Dec (n < 10) → length (decimal_in (suc j) n) ≤ suc (suc k)
    by-test i (yes l) = rw (one j n l) (omega arith)
    by-test i (no l) = rw (split j n (omega arith)) (omega (arith, length-append (decimal_in j (n / 10)) (digit (n % 10) ∷ []), i))

-- more digits than needed change nothing
same_in : (k n : ℕ) → n < 10 ^ suc k → decimal_in (suc (suc k)) n ≡ decimal_in (suc k) n
same_in zero n h = one 1 n (omega arith) ∙ sym (one 0 n (omega arith))
same_in (suc k) n h = by-test (same_in k (n / 10) (tenth (suc k) n h)) (dec_lt n 10)
  where
    by-test : decimal_in (suc (suc k)) (n / 10) ≡ decimal_in (suc k) (n / 10) → Dec (n < 10) → decimal_in (suc (suc (suc k))) n ≡ decimal_in (suc (suc k)) n
    by-test e (yes l) = one (suc (suc k)) n l ∙ sym (one (suc k) n l)
    by-test e (no l) =
        let g : 10 ≤ n = omega arith in
        split (suc (suc k)) n g ∙ ap (λ (p : List ℕ). p ++ digit (n % 10) ∷ []) e ∙ sym (split (suc k) n g)

pub longer : (n d : ℕ) → 1 ≤ n → d < 10 → n < 10 ^ 19 → decimal (n * 10 + d) ≡ decimal n ++ digit d ∷ []
longer n d p h l =
    let q : (n * 10 + d) / 10 ≡ n = mul-add-div_right (omega arith) n d ∙ ap (λ (v : ℕ). n + v) (div-eq_of_lt h) ∙ omega arith in
    let m : (n * 10 + d) % 10 ≡ d = mul-add-mod_self_right n 10 d ∙ mod-eq_of_lt h in
    split 19 (n * 10 + d) (omega arith) ∙ rw (q, m) (ap (λ (s : List ℕ). s ++ digit d ∷ []) (sym (same_in 18 n l)))

byte-back : (b : ℕ) → Digit b → digit (b - 48) ≡ b
byte-back b h = omega arith

-- ---- what was read is what would be written

carried : (most n a : ℕ) (s : List ℕ) → most ≤ 10 ^ 19 → 1 ≤ a → a ≤ most → number_from most a s ≡ Some n → n < most → decimal a ++ s ≡ decimal n
carried most n a [] m p q e l = append-nil (decimal a) ∙ ap decimal (ended most n a e)
carried most n a (b ∷ s) m p q e l =
    let r = rose most n a b s e l in
    let d : b - 48 < 10 = omega (arith, r.digit.high) in
    let u : decimal (a * 10 + (b - 48)) ≡ decimal a ++ b ∷ [] = longer a (b - 48) p d (omega (arith, r.below)) ∙ ap (λ (x : ℕ). decimal a ++ x ∷ []) (byte-back b r.digit) in
    sym (append_assoc (decimal a) (b ∷ []) s) ∙ ap (λ (v : List ℕ). v ++ s) (sym u) ∙ carried most n (a * 10 + (b - 48)) s m (omega arith) r.below r.rest l

opened : (most n : ℕ) (s : List ℕ) → number most s ≡ Some n → (opens s ≡ true) × (number_from most 0 s ≡ Some n)
unfolding number
opened most n s e = by-test (opens s) refl
  where
    by-test : (t : Bool) → opens s ≡ t → (opens s ≡ true) × (number_from most 0 s ≡ Some n)
    by-test true h = (h, simp h at e)
    by-test false h = let g = simp h at e in clash cc

first : (most n b : ℕ) (s : List ℕ) → number_from most 0 (b ∷ s) ≡ Some n → n < most → Digit b × (number_from most (b - 48) s ≡ Some n) × (b - 48 ≤ most)
first most n b s e l =
    let r = rose most n 0 b s e l in
    let z : 0 * 10 + (b - 48) ≡ b - 48 = omega arith in
    (r.digit, rw z at r.rest, omega (arith, r.below))

alone : (b : ℕ) → Digit b → decimal (b - 48) ≡ b ∷ []
alone b d = one 19 (b - 48) (omega (arith, d.high)) ∙ ap (λ (x : ℕ). x ∷ []) (byte-back b d)

spelled : (most n : ℕ) (s : List ℕ) → most ≤ 10 ^ 19 → opens s ≡ true → number_from most 0 s ≡ Some n → n < most → decimal n ≡ s
unfolding opens
spelled most n [] m o e l = clash cc
spelled most n (b ∷ []) m o e l =
    let r = first most n b [] e l in
    ap decimal (sym (ended most n (b - 48) r.1)) ∙ alone b r.0
spelled most n (b ∷ c ∷ s) m o e l =
    let r = first most n b (c ∷ s) e l in
    let z = eqb-false b 48 (not-true (eqb b 48) o) in
    let p : 1 ≤ b - 48 = by-test z r.0 (dec_le 1 (b - 48)) in
    sym (carried most n (b - 48) (c ∷ s) m p r.2 r.1 l) ∙ ap (λ (v : List ℕ). v ++ c ∷ s) (alone b r.0)
  where
    by-test : (b ≡ 48 → ⊥) → Digit b → Dec (1 ≤ b - 48) → 1 ≤ b - 48
    by-test z d (yes h) = h
    by-test z d (no h) = absurd (z (omega (arith, d.low)))

pub writes-read : (most n : ℕ) (s : List ℕ) → most ≤ 10 ^ 19 → number most s ≡ Some n → n < most → decimal n ≡ s
writes-read most n s m e l = let o = opened most n s e in spelled most n s m o.0 o.1 l

-- ---- what was written is read

on : (most a b : ℕ) (s : List ℕ) → is_digit b ≡ true → number_from most a (b ∷ s) ≡ number_from most (risen most a b) s
unfolding number_from
on most a b s h = simp h

behind : (most a n : ℕ) (p q : List ℕ) → number_from most a p ≡ Some n → number_from most a (p ++ q) ≡ number_from most n q
behind most a n [] q e = ap (λ (v : ℕ). number_from most v q) (ended most n a e)
behind most a n (b ∷ p) q e =
    let g = begun most n a b p e in
    on most a b (p ++ q) g.is ∙ behind most (risen most a b) n p q g.rest

last : (most a d : ℕ) → d < 10 → a * 10 + d ≤ most → number_from most a (digit d ∷ []) ≡ Some (a * 10 + d)
unfolding number_from
last most a d h l =
    let z : digit d - 48 ≡ d = omega arith in
    let g : risen most a (digit d) ≡ a * 10 + d = rises most a (digit d) (omega arith) ∙ ap (λ (v : ℕ). a * 10 + v) z in
    simp (digit-is d h, g)

told : (k most n : ℕ) → n < 10 ^ suc k → n ≤ most → number_from most 0 (decimal_in (suc k) n) ≡ Some n
told zero most n h l = rw (one 0 n (omega arith)) (last most 0 n (omega arith) (omega arith) ∙ ap Some (omega arith))
told (suc k) most n h l = by-test (told k most (n / 10) (tenth (suc k) n h) (omega (arith, div-add-mod' n 10))) (dec_lt n 10)
  where
    by-test : number_from most 0 (decimal_in (suc k) (n / 10)) ≡ Some (n / 10) → Dec (n < 10) → number_from most 0 (decimal_in (suc (suc k)) n) ≡ Some n
    by-test e (yes g) = rw (one (suc k) n g) (last most 0 n g (omega arith) ∙ ap Some (omega arith))
    by-test e (no g) =
        let d : n % 10 < 10 = mod-lt n (omega arith) in
        rw (split (suc k) n (omega arith))
        (behind most 0 (n / 10) (decimal_in (suc k) (n / 10)) (digit (n % 10) ∷ []) e ∙ last most (n / 10) (n % 10) d (omega (arith, div-add-mod' n 10)) ∙ ap Some (div-add-mod' n 10))

-- it starts with a digit that is no zero
pub record Leads (s : List ℕ) : Type 0 where
  pub some : 1 ≤ length s
  pub more : 49 ≤ get_or s 0 0

leads_one : (n : ℕ) → 1 ≤ n → Leads (digit n ∷ [])
leads_one n h = record { some = omega arith; more = omega arith }

leads-on : (p q : List ℕ) → Leads p → Leads (p ++ q)
leads-on p q l = record { some = omega (arith, length-append p q, l.some); more = rw (get_or-append p q 0 0 (omega (arith, l.some))) l.more }

leads : (k n : ℕ) → n < 10 ^ suc k → 1 ≤ n → Leads (decimal_in (suc k) n)
leads zero n h p = rw (one 0 n (omega arith)) (leads_one n p)
leads (suc k) n h p = by-test (λ g. leads k (n / 10) (tenth (suc k) n h) g) (dec_lt n 10)
  where
    by-test : (1 ≤ n / 10 → Leads (decimal_in (suc k) (n / 10))) → Dec (n < 10) → Leads (decimal_in (suc (suc k)) n)
    by-test f (yes g) = rw (one (suc k) n g) (leads_one n p)
    by-test f (no g) =
        let d : n % 10 < 10 = mod-lt n (omega arith) in
        rw (split (suc k) n (omega arith)) (leads-on (decimal_in (suc k) (n / 10)) (digit (n % 10) ∷ []) (f (omega (arith, div-add-mod' n 10))))

opens-lead : (s : List ℕ) → Leads s → opens s ≡ true
unfolding opens
opens-lead [] l = absurd (omega (arith, l.some))
opens-lead (b ∷ []) l = refl
opens-lead (b ∷ c ∷ s) l = simp (ne_eqb b 48 (λ e. omega (arith, l.more)))

opens-decimal : (n : ℕ) → n < 10 ^ 20 → Dec (1 ≤ n) → opens (decimal n) ≡ true
unfolding opens
opens-decimal n h (yes p) = opens-lead (decimal n) (leads 19 n h p)
opens-decimal n h (no p) = rw (one 19 n (omega arith)) refl

pub reads-written : (most n : ℕ) → n < 10 ^ 20 → n ≤ most → number most (decimal n) ≡ Some n
unfolding number
reads-written most n h l = simp (opens-decimal n h (dec_le 1 n)) (told 19 most n h l)

-- ---- what holds of bytes that say a number

most-from : (most a n : ℕ) (s : List ℕ) → a ≤ most → number_from most a s ≡ Some n → n ≤ most
most-from most a n [] h e = omega (arith, ended most n a e)
most-from most a n (b ∷ s) h e = most-from most (risen most a b) n s (risen-most most a b) (begun most n a b s e).rest

pub number-most : (most n : ℕ) (s : List ℕ) → number most s ≡ Some n → n ≤ most
number-most most n s e = most-from most 0 n s (omega arith) (opened most n s e).1

begins : (most n : ℕ) (s : List ℕ) → opens s ≡ true → number_from most 0 s ≡ Some n → Digit (get_or s 0 0)
unfolding opens
begins most n [] o e = clash cc
begins most n (b ∷ s) o e = is_digit_lem b (begun most n 0 b s e).is

pub number-first : (most n : ℕ) (s : List ℕ) → number most s ≡ Some n → Digit (get_or s 0 0)
number-first most n s e = let o = opened most n s e in begins most n s o.0 o.1

lacks-from : (c most a n : ℕ) (s : List ℕ) → is_digit c ≡ false → number_from most a s ≡ Some n → lacks c s ≡ true
lacks-from c most a n [] h e = refl
lacks-from c most a n (b ∷ s) h e =
    let g = begun most n a b s e in
    simp (ne_eqb b c (λ q. clash (apart b c q g.is h)), lacks-from c most (risen most a b) n s h g.rest)
  where
    apart : (b c : ℕ) → b ≡ c → is_digit b ≡ true → is_digit c ≡ false → ◌≡◌ {A = ℕ} 0 1
    apart b c q x y = cc

-- no byte but a digit
pub number-lacks : (c most n : ℕ) (s : List ℕ) → is_digit c ≡ false → number most s ≡ Some n → lacks c s ≡ true
number-lacks c most n s h e = lacks-from c most 0 n s h (opened most n s e).1
