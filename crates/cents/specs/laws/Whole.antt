-- Signed whole numbers for `omega`, which reads natural numbers only. Two ways across:
--     IsDiff z a b    z is a − b. Every z is such a difference (`is`), and so are sums, negatives and multiples by those of their parts (`is-+` ..).
--                     An equation or an order of two of them is one of natural numbers, shown by `show-≡` .. and read by `read-≡` ..
--     Known B z v     z, as the machine reads it, is v, whose size is at most B: what a need of signed arithmetic asks (`fits`, `.known`)
-- Assumes nothing.
use Rattle.std.specs.Prelude.{◌≡◌, refl, Bool, true, false, not, cond, ◌⊎◌, ℕ, zero, suc, ◌+◌, ◌-◌, ◌*◌, ◌^◌, ◌≤◌, ◌<◌, T, ltb, ℤ, pos, negsuc, neg_ℤ, nat_abs, ◌+ℤ◌, ◌-ℤ◌, ◌*ℤ◌, ◌≤ℤ◌, ◌<ℤ◌}
use Rattle.std.proofs.Common.{sym, ap, ◌∙◌, subst, inl, inr, ⊎_elim, mul-add, mul_assoc, mul-le-mul, mul-le-mul_left, le_trans, le_refl, lt_of_not-le, arith, leb→le, le→leb, ltb→lt, nltb→le, to_z-of_z}
use Rattle.std.proofs.Math.Nat.{le_of_mul-le-mul_left}
use Rattle.std.proofs.Math.Decide.{dec_lt}
use Rattle.std.proofs.Math.IntN.{sub_ℕ}
use Rattle.std.specs.Int.Signed.{mag, le_z, lt_z, non_neg, lt_z_yes, lt_z_no, clash_ℤ, yes_non_neg, pos-nat_abs, nat_abs-le}
use Rattle.std.specs.Int.{Width, w16, w32, w64}
use mir.Val.{Fits, SFits, hbits, to_z, of_z}
use Rattle.std.proofs.Math.Facts.{to_z_pos}

-- ---- a whole number as a difference of two natural numbers

-- z is a − b, said without subtraction
abbrev pub Diff : ℤ → ℕ → ℕ → Type 0
Diff (pos n) a b = n + b ≡ a
Diff (negsuc n) a b = a + suc n ≡ b

-- the same as a record, so that z, a and b can be inferred
pub record IsDiff (z : ℤ) (a b : ℕ) : Type 0 where
  pub diff : Diff z a b

-- z where it is not negative, else 0
abbrev pub up : ℤ → ℕ
up (pos n) = n
up (negsuc n) = 0

-- −z where it is not positive, else 0
abbrev pub down : ℤ → ℕ
down (pos n) = 0
down (negsuc n) = suc n

diff-of : (z : ℤ) → Diff z (up z) (down z)
diff-of (pos n) = omega arith
diff-of (negsuc n) = omega arith

pub is : (z : ℤ) → IsDiff z (up z) (down z)
is z = record { diff = diff-of z }

pub is_pos : (n : ℕ) → IsDiff (pos n) n 0
is_pos n = record { diff = omega arith }

shift : (z : ℤ) (a b c d : ℕ) → Diff z a b → a + d ≡ c + b → Diff z c d
shift (pos n) a b c d h e = omega arith
shift (negsuc n) a b c d h e = omega arith

cond_ind : (t : Bool) (x y : ℤ) (P : ℤ → Type 0) → (T t → P x) → (T (not t) → P y) → P (cond t x y)
cond_ind true x y P f g = f tt
cond_ind false x y P f g = g tt

diff-subℕ : (a b : ℕ) → Diff (sub_ℕ a b) a b
diff-subℕ a b = cond_ind (ltb a b) (negsuc (b - suc a)) (pos (a - b)) (λ z. Diff z a b) (λ t. omega (arith, ltb→lt a b t)) (λ t. omega (arith, nltb→le a b t))

sum : (x y : ℤ) (a b c d : ℕ) → Diff x a b → Diff y c d → Diff (x +ℤ y) (a + c) (b + d)
sum (pos m) (pos n) a b c d h k = omega arith
sum (pos m) (negsuc n) a b c d h k = shift (sub_ℕ m (suc n)) m (suc n) (a + c) (b + d) (diff-subℕ m (suc n)) (omega arith)
sum (negsuc m) (pos n) a b c d h k = shift (sub_ℕ n (suc m)) n (suc m) (a + c) (b + d) (diff-subℕ n (suc m)) (omega arith)
sum (negsuc m) (negsuc n) a b c d h k = omega arith

opposite : (x : ℤ) (a b : ℕ) → Diff x a b → Diff (neg_ℤ x) b a
opposite (pos zero) a b h = omega arith
opposite (pos (suc n)) a b h = omega arith
opposite (negsuc n) a b h = omega arith

multiple : (k : ℕ) (x : ℤ) (a b : ℕ) → Diff x a b → Diff (pos k *ℤ x) (k * a) (k * b)
multiple k (pos n) a b h = sym (mul-add k n b) ∙ ap (λ (v : ℕ). k * v) h
multiple k (negsuc n) a b h = opposite (pos (k * suc n)) (k * b) (k * a) (omega (arith, mul-add k a (suc n), ap (λ (v : ℕ). k * v) h))

pub is-+ : {x y : ℤ} {a b c d : ℕ} → IsDiff x a b → IsDiff y c d → IsDiff (x +ℤ y) (a + c) (b + d)
is-+ {x} {y} {a} {b} {c} {d} p q = record { diff = sum x y a b c d p.diff q.diff }

pub is-neg : {x : ℤ} {a b : ℕ} → IsDiff x a b → IsDiff (neg_ℤ x) b a
is-neg {x} {a} {b} p = record { diff = opposite x a b p.diff }

pub is-- : {x y : ℤ} {a b c d : ℕ} → IsDiff x a b → IsDiff y c d → IsDiff (x -ℤ y) (a + d) (b + c)
is-- p q = is-+ p (is-neg q)

pub is-* : (k : ℕ) {x : ℤ} {a b : ℕ} → IsDiff x a b → IsDiff (pos k *ℤ x) (k * a) (k * b)
is-* k {x} {a} {b} p = record { diff = multiple k x a b p.diff }

-- ---- an equation and an order, shown by and read as one of natural numbers

equal : (x y : ℤ) (a b c d : ℕ) → Diff x a b → Diff y c d → a + d ≡ c + b → x ≡ y
equal (pos m) (pos n) a b c d h k e = ap pos (omega arith)
equal (pos m) (negsuc n) a b c d h k e = absurd (omega arith)
equal (negsuc m) (pos n) a b c d h k e = absurd (omega arith)
equal (negsuc m) (negsuc n) a b c d h k e = ap negsuc (omega arith)

one-pair : (x : ℤ) (a b c d : ℕ) → Diff x a b → Diff x c d → a + d ≡ c + b
one-pair (pos n) a b c d h k = omega arith
one-pair (negsuc n) a b c d h k = omega arith

less : (x y : ℤ) (a b c d : ℕ) → Diff x a b → Diff y c d → a + d ≤ c + b → T (le_z x y)
less (pos m) (pos n) a b c d h k e = le→leb m n (omega arith)
less (pos m) (negsuc n) a b c d h k e = absurd (omega arith)
less (negsuc m) (pos n) a b c d h k e = tt
less (negsuc m) (negsuc n) a b c d h k e = le→leb n m (omega arith)

more : (x y : ℤ) (a b c d : ℕ) → Diff x a b → Diff y c d → T (le_z x y) → a + d ≤ c + b
more (pos m) (pos n) a b c d h k t = omega (arith, leb→le m n t)
more (pos m) (negsuc n) a b c d h k t = absurd t
more (negsuc m) (pos n) a b c d h k t = omega arith
more (negsuc m) (negsuc n) a b c d h k t = omega (arith, leb→le n m t)

module _ {x y : ℤ} {a b c d : ℕ} (p : IsDiff x a b) (q : IsDiff y c d) where
  pub show-≡ : a + d ≡ c + b → x ≡ y
  show-≡ e = equal x y a b c d p.diff q.diff e

  pub read-≡ : x ≡ y → a + d ≡ c + b
  read-≡ e = one-pair y a b c d (subst (λ (v : ℤ). Diff v a b) e p.diff) q.diff

  pub show-≤ : a + d ≤ c + b → x ≤ℤ y
  show-≤ e = record { le = less x y a b c d p.diff q.diff e }

  pub read-≤ : x ≤ℤ y → a + d ≤ c + b
  read-≤ h = more x y a b c d p.diff q.diff h.le

holds : (t : Bool) → (T (not t) → ⊥) → T t
holds true h = tt
holds false h = absurd (h tt)

passed : {t : Bool} → t ≡ true → T t
passed e = rw e tt

failed : {t : Bool} → t ≡ false → T (not t)
failed e = rw e tt

module _ {x y : ℤ} {a b c d : ℕ} (p : IsDiff x a b) (q : IsDiff y c d) where
  pub show-< : a + d < c + b → x <ℤ y
  show-< e = lt_z_yes (holds (lt_z x y) (λ t. omega (arith, read-≤ q p (lt_z_no t))))

  pub read-< : x <ℤ y → a + d < c + b
  read-< h = lt_of_not-le (λ e. clash_ℤ h (show-≤ q p e))

  -- a test of the code, passed and failed
  pub read-lt : lt_z x y ≡ true → a + d < c + b
  read-lt e = read-< (lt_z_yes (passed e))

  pub read-ge : lt_z x y ≡ false → c + b ≤ a + d
  read-ge e = read-≤ q p (lt_z_no (failed e))

-- ---- laws of the order and of multiples

pub ≤ℤ-trans : {x y z : ℤ} → x ≤ℤ y → y ≤ℤ z → x ≤ℤ z
≤ℤ-trans {x} {y} {z} h k = show-≤ (is x) (is z) (omega (arith, read-≤ (is x) (is y) h, read-≤ (is y) (is z) k))

pub ≤ℤ-antisym : {x y : ℤ} → x ≤ℤ y → y ≤ℤ x → x ≡ y
≤ℤ-antisym {x} {y} h k = show-≡ (is x) (is y) (omega (arith, read-≤ (is x) (is y) h, read-≤ (is y) (is x) k))

pub ≤ℤ-total : (x y : ℤ) → (x ≤ℤ y) ⊎ (y ≤ℤ x)
≤ℤ-total x y = either (dec_lt (up y + down x) (up x + down y))
  where
    either : Dec (up y + down x < up x + down y) → (x ≤ℤ y) ⊎ (y ≤ℤ x)
    either (yes h) = inr (show-≤ (is y) (is x) (omega arith))
    either (no h) = inl (show-≤ (is x) (is y) (omega arith))

pub negℤ-≤ : {x y : ℤ} → x ≤ℤ y → neg_ℤ y ≤ℤ neg_ℤ x
negℤ-≤ {x} {y} h = show-≤ (is-neg (is y)) (is-neg (is x)) (omega (arith, read-≤ (is x) (is y) h))

pub +ℤ-mono : {x y : ℤ} (z : ℤ) → x ≤ℤ y → (x +ℤ z) ≤ℤ (y +ℤ z)
+ℤ-mono {x} {y} z h = show-≤ (is-+ (is x) (is z)) (is-+ (is y) (is z)) (omega (arith, read-≤ (is x) (is y) h))

pub *ℤ-mono : (k : ℕ) {x y : ℤ} → x ≤ℤ y → (pos k *ℤ x) ≤ℤ (pos k *ℤ y)
*ℤ-mono k {x} {y} h = show-≤ (is-* k (is x)) (is-* k (is y)) (omega (arith, mul-add k (up x) (down y), mul-add k (up y) (down x), mul-le-mul_left k (read-≤ (is x) (is y) h)))

pub *ℤ-cancel : (k : ℕ) {x y : ℤ} → 0 < k → (pos k *ℤ x) ≤ℤ (pos k *ℤ y) → x ≤ℤ y
*ℤ-cancel k {x} {y} k>0 h = show-≤ (is x) (is y) (le_of_mul-le-mul_left (omega (arith, mul-add k (up x) (down y), mul-add k (up y) (down x), read-≤ (is-* k (is x)) (is-* k (is y)) h)) k>0)

pub *ℤ-negℤ : (k : ℕ) (x : ℤ) → pos k *ℤ neg_ℤ x ≡ neg_ℤ (pos k *ℤ x)
*ℤ-negℤ k x = show-≡ (is-* k (is-neg (is x))) (is-neg (is-* k (is x))) (omega arith)

pub *ℤ-+ℤ : (k : ℕ) (x y : ℤ) → pos k *ℤ (x +ℤ y) ≡ pos k *ℤ x +ℤ pos k *ℤ y
*ℤ-+ℤ k x y = show-≡ (is-* k (is-+ (is x) (is y))) (is-+ (is-* k (is x)) (is-* k (is y))) (omega (arith, mul-add k (up x) (up y), mul-add k (down x) (down y)))

pub *ℤ-*ℤ : (a b : ℕ) (x : ℤ) → pos a *ℤ (pos b *ℤ x) ≡ pos (a * b) *ℤ x
*ℤ-*ℤ a b x = show-≡ (is-* a (is-* b (is x))) (is-* (a * b) (is x)) (omega (arith, mul_assoc a b (up x), mul_assoc a b (down x)))

-- ---- the size of a whole number

pub size_is : (z : ℤ) → nat_abs z ≡ up z + down z
size_is (pos n) = omega arith
size_is (negsuc n) = omega arith

size-subℕ : (a b : ℕ) → nat_abs (sub_ℕ a b) ≤ a + b
size-subℕ a b = cond_ind (ltb a b) (negsuc (b - suc a)) (pos (a - b)) (λ z. nat_abs z ≤ a + b) (λ t. omega (arith, ltb→lt a b t)) (λ t. omega arith)

pub size-+ : (x y : ℤ) → nat_abs (x +ℤ y) ≤ nat_abs x + nat_abs y
size-+ (pos a) (pos b) = omega arith
size-+ (pos a) (negsuc b) = size-subℕ a (suc b)
size-+ (negsuc a) (pos b) = omega (arith, size-subℕ b (suc a))
size-+ (negsuc a) (negsuc b) = omega arith

pub size-neg : (x : ℤ) → nat_abs (neg_ℤ x) ≡ nat_abs x
size-neg (pos zero) = refl
size-neg (pos (suc n)) = refl
size-neg (negsuc n) = refl

pub size-- : (x y : ℤ) → nat_abs (x -ℤ y) ≤ nat_abs x + nat_abs y
size-- x y = omega (arith, size-+ x (neg_ℤ y), size-neg y)

pub size-* : (x y : ℤ) → nat_abs (x *ℤ y) ≡ nat_abs x * nat_abs y
size-* (pos a) (pos b) = refl
size-* (pos a) (negsuc b) = size-neg (pos (a * suc b))
size-* (negsuc a) (pos b) = size-neg (pos (suc a * b))
size-* (negsuc a) (negsuc b) = refl

pub mag-size : (z : ℤ) → mag z ≤ nat_abs z
mag-size (pos n) = omega arith
mag-size (negsuc n) = omega arith

one-sided : (z : ℤ) → (up z ≡ 0) ⊎ (down z ≡ 0)
one-sided (pos n) = inr refl
one-sided (negsuc n) = inl refl

-- between −B and B, as two tests of the code leave it
pub size-between : (z : ℤ) (B : ℕ) → lt_z z (neg_ℤ (pos B)) ≡ false → lt_z (pos B) z ≡ false → nat_abs z ≤ B
size-between z B l h =
    let low = read-ge (is z) (is-neg (is_pos B)) l in
    let high = read-ge (is_pos B) (is z) h in
    ⊎_elim (λ e. omega (arith, size_is z)) (λ e. omega (arith, size_is z)) (one-sided z)

-- ---- what the machine reads. A signed local holds bits, so the code's z is `to_z w (of_z w z)` in every need.
--      Make a `Known` of each local, put them together as the code does, and take out what a need asks.

-- z, as the machine reads it, is v, and the size of v is at most B
pub record Known (B : ℕ) (z v : ℤ) : Type 0 where
  pub known : z ≡ v
  pub within : nat_abs v ≤ B

-- a result of which a contract says r ≡ v
pub known_is : {B : ℕ} {r v : ℤ} → r ≡ v → nat_abs v ≤ B → Known B r v
known_is e h = record { known = e; within = h }

-- the same number under another name, and a wider bound
pub known-to : {A B : ℕ} {z v v' : ℤ} → A ≤ B → v ≡ v' → Known A z v → Known B z v'
known-to h e k = record { known = k.known ∙ e; within = rw (sym e) (le_trans k.within h) }

-- a literal of the code
pub literal : (n : ℕ) → Known n (pos n) (pos n)
literal n = known_is refl (le_refl n)

-- that it fits a signed type: `fits tt k` where the bound is a numeral, `fits_lt h k` where it is not
pub fits_lt : {w : Width} {B : ℕ} {z v : ℤ} → B < 2 ^ hbits w → Known B z v → SFits w z
fits_lt {v = v} h k = rw k.known (record { sfits = omega (arith, mag-size v, k.within) })

pub fits : {w : Width} {B : ℕ} {z v : ℤ} → T (ltb B (2 ^ hbits w)) → Known B z v → SFits w z
fits {w} {B} t k = fits_lt (ltb→lt B (2 ^ hbits w) t) k

-- written to an i64 and read back: `back tt k`, `back-lt h k`
pub back-lt : {B : ℕ} {z v : ℤ} → B < 2 ^ 63 → Known B z v → Known B (to_z w64 (of_z w64 z)) v
back-lt h k = record { known = to_z-of_z {w = w64} (fits_lt h k) ∙ k.known; within = k.within }

pub back : {B : ℕ} {z v : ℤ} → T (ltb B (2 ^ 63)) → Known B z v → Known B (to_z w64 (of_z w64 z)) v
back {B} t k = back-lt (ltb→lt B (2 ^ 63) t) k

-- a parameter of the width w, with the bound that the contract has of it
pub param : {w : Width} {B : ℕ} {z : ℤ} → SFits w z → nat_abs z ≤ B → Known B (to_z w (of_z w z)) z
param f h = record { known = to_z-of_z f; within = h }

-- an i32 with no bound but its type's
pub param-i32 : {z : ℤ} → SFits w32 z → Known 2147483648 (to_z w32 (of_z w32 z)) z
param-i32 {z} f = param f (nat_abs-le z f.sfits)

-- a field, an element or a call's result, of which the record has only the bound that its type gives
pub same_at : (w : Width) (z : ℤ) → mag z < 2 ^ hbits w → to_z w (of_z w z) ≡ z
same_at w z h = to_z-of_z {w = w} (record { sfits = h })

pub field : (z : ℤ) {B : ℕ} → mag z < 2 ^ 63 → nat_abs z ≤ B → Known B (to_z w64 (of_z w64 z)) z
field z p h = known_is (same_at w64 z p) h

-- an unsigned number that was cast to i64: itself its bound, below a numeral, or as its type has it
pub cast-own : {n : ℕ} → n < 2 ^ 63 → Known n (to_z w64 n) (pos n)
cast-own {n} h = known_is (to_z_pos w64 h) (le_refl n)

pub cast-u : {B n : ℕ} → T (ltb B (2 ^ 63)) → n ≤ B → Known B (to_z w64 n) (pos n)
cast-u {B} {n} t h = known-to h refl (cast-own (omega (arith, ltb→lt B (2 ^ 63) t)))

pub cast-u16 : {n : ℕ} → Fits w16 n → Known 65535 (to_z w64 n) (pos n)
cast-u16 f = cast-u tt (omega arith)

pub cast-u32 : {n : ℕ} → Fits w32 n → Known 4294967295 (to_z w64 n) (pos n)
cast-u32 f = cast-u tt (omega arith)

-- the code's sum, difference and product of two
module _ {A B : ℕ} {x y a b : ℤ} (p : Known A x a) (q : Known B y b) where
  pub plus : Known (A + B) (x +ℤ y) (a +ℤ b)
  plus = record { known = cc; within = omega (arith, size-+ a b, p.within, q.within) }

  pub minus : Known (A + B) (x -ℤ y) (a -ℤ b)
  minus = record { known = cc; within = omega (arith, size-- a b, p.within, q.within) }

  pub times : Known (A * B) (x *ℤ y) (a *ℤ b)
  times = record { known = cc; within = rw (size-* a b) (mul-le-mul p.within q.within) }

-- what a cast to an unsigned type asks and gives, of a number that is known to be a natural one
pub cast-nonneg : {B n : ℕ} {z : ℤ} → Known B z (pos n) → T (non_neg z)
cast-nonneg k = rw k.known tt

pub cast-nat : {B n : ℕ} {z : ℤ} → Known B z (pos n) → nat_abs z ≡ n
cast-nat k = ap nat_abs k.known

-- the same of a number that a test showed not negative
pub record Natural (w : Width) (z : ℤ) : Type 0 where
  pub nonneg : T (non_neg (to_z w (of_z w z)))
  pub value : pos (nat_abs (to_z w (of_z w z))) ≡ z
  pub small : nat_abs (to_z w (of_z w z)) < 2 ^ hbits w

pub natural : {w : Width} {z : ℤ} → SFits w z → lt_z (to_z w (of_z w z)) (pos 0) ≡ false → Natural w z
natural {w} {z} f t =
    let n = yes_non_neg {z = to_z w (of_z w z)} (lt_z_no (failed t)) in
    let v = pos-nat_abs (to_z w (of_z w z)) n ∙ to_z-of_z f in
    record { nonneg = n; value = v; small = omega (arith, ap mag v, f.sfits) }

-- a test of two signed locals (f is `lt_z` or `le_z`), read of the numbers themselves
pub test_at : (f : ℤ → ℤ → Bool) {w : Width} {x y : ℤ} {t : Bool} → SFits w x → SFits w y → f (to_z w (of_z w x)) (to_z w (of_z w y)) ≡ t → f x y ≡ t
test_at f g h e = rw (to_z-of_z g, to_z-of_z h) at e
