-- Laws of a sum over milliseconds: one more, one stretch behind another, one value throughout, and terms that are moved or negated.
-- Assumes nothing.
use Rattle.std.specs.Prelude.{ℕ, zero, suc, ◌+◌, ◌*◌, ◌≤◌, ◌<◌, ◌≡◌, refl, ℤ, pos, neg_ℤ, nat_abs, ◌+ℤ◌, ◌*ℤ◌}
use Rattle.std.proofs.Common.{sym, ap, ap₂, ◌∙◌, add-zero, add-suc, suc-mul, add-one, arith}
use Rattle.std.proofs.Math.IntN.{+ℤ_idr, +ℤ_assoc, neg_ℤ-+ℤ, zero-*ℤ}
use Rattle.cents.specs.laws.Whole.{up, down, is, is-+, is-*, show-≡, size-+}
use Rattle.indicator.specs.Indicator.{sum_from}

-- n times a number, and once more
pub times-suc : (n : ℕ) (v : ℤ) → pos n *ℤ v +ℤ v ≡ pos (suc n) *ℤ v
times-suc n v = show-≡ (is-+ (is-* n (is v)) (is v)) (is-* (suc n) (is v)) (omega (arith, suc-mul n (up v), suc-mul n (down v)))

pub sum-none : (f : ℕ → ℤ) (t : ℕ) → sum_from f t 0 ≡ pos 0
unfolding sum_from
sum-none f t = refl

-- one millisecond more
pub sum_step : (f : ℕ → ℤ) (t n : ℕ) {a v : ℤ} → a ≡ sum_from f t n → v ≡ f (t + n) → a +ℤ v ≡ sum_from f t (n + 1)
unfolding sum_from
sum_step f t n p q = ap₂ ◌+ℤ◌ p q ∙ ap (sum_from f t) (sym (add-one n))

-- n milliseconds, then m
pub sum-append : (f : ℕ → ℤ) (t n m : ℕ) → sum_from f t (n + m) ≡ sum_from f t n +ℤ sum_from f (t + n) m
unfolding sum_from
sum-append f t n zero = ap (sum_from f t) (add-zero n) ∙ sym (+ℤ_idr (sum_from f t n))
sum-append f t n (suc m) =
    let e : t + (n + m) ≡ t + n + m = omega arith in
    ap (sum_from f t) (add-suc n m) ∙ ap₂ ◌+ℤ◌ (sum-append f t n m) (ap f e) ∙ +ℤ_assoc (sum_from f t n) (sum_from f (t + n) m) (f (t + n + m))

-- terms that agree on the stretch
pub sum-cong : (f g : ℕ → ℤ) (t n : ℕ) → ((j : ℕ) → t ≤ j → j < t + n → f j ≡ g j) → sum_from f t n ≡ sum_from g t n
unfolding sum_from
sum-cong f g t zero h = refl
sum-cong f g t (suc n) h = ap₂ ◌+ℤ◌ (sum-cong f g t n (λ j a b. h j a (omega arith))) (h (t + n) (omega arith) (omega arith))

-- one value throughout
pub sum-const : (f : ℕ → ℤ) (t n : ℕ) (v : ℤ) → ((j : ℕ) → t ≤ j → j < t + n → f j ≡ v) → sum_from f t n ≡ pos n *ℤ v
unfolding sum_from
sum-const f t zero v h = sym (zero-*ℤ v)
sum-const f t (suc n) v h = ap₂ ◌+ℤ◌ (sum-const f t n v (λ j a b. h j a (omega arith))) (h (t + n) (omega arith) (omega arith)) ∙ times-suc n v

-- every term moved by k, and every term negated
pub sum-shift : (f : ℕ → ℤ) (k : ℤ) (t n : ℕ) → sum_from (λ j. f j +ℤ k) t n ≡ sum_from f t n +ℤ pos n *ℤ k
unfolding sum_from
sum-shift f k t zero = sym (ap (λ (x : ℤ). pos 0 +ℤ x) (zero-*ℤ k))
sum-shift f k t (suc n) = ap (λ (x : ℤ). x +ℤ (f (t + n) +ℤ k)) (sum-shift f k t n) ∙ regrouped (sum_from f t n) (pos n *ℤ k) (f (t + n)) k ∙ ap (λ (x : ℤ). sum_from f t n +ℤ f (t + n) +ℤ x) (times-suc n k)
  where
    regrouped : (a b c d : ℤ) → (a +ℤ b) +ℤ (c +ℤ d) ≡ (a +ℤ c) +ℤ (b +ℤ d)
    regrouped a b c d = show-≡ (is-+ (is-+ (is a) (is b)) (is-+ (is c) (is d))) (is-+ (is-+ (is a) (is c)) (is-+ (is b) (is d))) (omega arith)

pub sum-neg : (f : ℕ → ℤ) (t n : ℕ) → sum_from (λ j. neg_ℤ (f j)) t n ≡ neg_ℤ (sum_from f t n)
unfolding sum_from
sum-neg f t zero = refl
sum-neg f t (suc n) = ap (λ (x : ℤ). x +ℤ neg_ℤ (f (t + n))) (sum-neg f t n) ∙ sym (neg_ℤ-+ℤ (sum_from f t n) (f (t + n)))

-- terms of a size up to B
pub sum-size : (f : ℕ → ℤ) (t n B : ℕ) → ((j : ℕ) → t ≤ j → j < t + n → nat_abs (f j) ≤ B) → nat_abs (sum_from f t n) ≤ n * B
unfolding sum_from
sum-size f t zero B h = omega arith
sum-size f t (suc n) B h = omega (arith, size-+ (sum_from f t n) (f (t + n)), sum-size f t n B (λ j a b. h j a (omega arith)), h (t + n) (omega arith) (omega arith), suc-mul n B)
