-- The marks with one bit changed: that spread's mark is turned, the others stay, and changed twice it is as it was.
-- Assumes nothing.
use Rattle.std.specs.Prelude.{ℕ, zero, suc, ◌+◌, ◌-◌, ◌*◌, ◌/◌, ◌%◌, ◌^◌, ◌≤◌, ◌<◌, ◌≡◌, refl, not, eqb}
use Rattle.std.proofs.Common.{sym, ap, ap₂, ◌∙◌, div-add-mod', mod-lt, mul-div_cancel, pow-suc, arith, pow_pos, pow-add}
use Rattle.std.proofs.Math.Decide.{dec_lt}
use Rattle.std.proofs.Math.Nat.{div-eq_of_lt, mul-div_cancel_left, mul-mod_left}
use Rattle.std.proofs.Math.Arith.{bin_ind}
use Rattle.std.specs.Int.Bits.{bit_xor, xor_self, xor_zero_r}
use Rattle.std.proofs.lemmas.Nat.{xor_shr, xor_mod, xor_lt}
use Rattle.std.proofs.Math.Pow.{pow-lt}
use Rattle.market.specs.Market.{marked}
use Rattle.laws.specs.Demand.{turned_marks}

-- ---- changed twice

-- of one digit
digit-twice : (a b : ℕ) → a < 2 → b < 2 → bit_xor (bit_xor a b) b ≡ a
digit-twice zero zero h k = refl
digit-twice zero (suc zero) h k = refl
digit-twice (suc zero) zero h k = refl
digit-twice (suc zero) (suc zero) h k = refl
digit-twice (suc (suc a)) b h k = absurd (omega arith)
digit-twice zero (suc (suc b)) h k = absurd (omega arith)
digit-twice (suc zero) (suc (suc b)) h k = absurd (omega arith)

-- the digits of two numbers that are changed alike
halves : (a b : ℕ) → bit_xor (bit_xor a b) b / 2 ≡ bit_xor (bit_xor (a / 2) (b / 2)) (b / 2)
halves a b = xor_shr (bit_xor a b) b 1 ∙ ap (λ (n : ℕ). bit_xor n (b / 2)) (xor_shr a b 1)

lasts : (a b : ℕ) → bit_xor (bit_xor a b) b % 2 ≡ a % 2
lasts a b = xor_mod (bit_xor a b) b 1 ∙ ap (λ (n : ℕ). bit_xor n (b % 2)) (xor_mod a b 1) ∙ digit-twice (a % 2) (b % 2) (mod-lt a (omega arith)) (mod-lt b (omega arith))

pub xor-twice : (a b : ℕ) → bit_xor (bit_xor a b) b ≡ a
xor-twice = bin_ind (λ (a : ℕ). (b : ℕ) → bit_xor (bit_xor a b) b ≡ a) (λ b. xor_self b) (λ a ih b.
    sym (div-add-mod' (bit_xor (bit_xor a b) b) 2) ∙ ap₂ (λ (x y : ℕ). x * 2 + y) (halves a b ∙ ih (b / 2)) (lasts a b) ∙ div-add-mod' a 2)

-- ---- each mark

-- bit j of 2^k
bit-own : (k : ℕ) → 2 ^ k / 2 ^ k % 2 ≡ 1
bit-own k = let e : 2 ^ k ≡ 1 * 2 ^ k = omega arith in ap (λ (n : ℕ). n / 2 ^ k % 2) e ∙ ap (λ (n : ℕ). n % 2) (mul-div_cancel 1 (pow_pos k))

bit-other : (j k : ℕ) → (j ≡ k → ⊥) → 2 ^ k / 2 ^ j % 2 ≡ 0
bit-other j k h = by (dec_lt j k)
  where
    above : (d : ℕ) → 2 ^ (j + suc d) / 2 ^ j % 2 ≡ 0
    above d = ap (λ (n : ℕ). n / 2 ^ j % 2) (pow-add 2 j (suc d)) ∙ ap (λ (n : ℕ). n % 2) (mul-div_cancel_left (2 ^ suc d) (pow_pos j)) ∙ ap (λ (n : ℕ). n % 2) (pow-suc 2 d) ∙ mul-mod_left (2 ^ d) 2

    by : Dec (j < k) → 2 ^ k / 2 ^ j % 2 ≡ 0
    by (yes l) = let e : k ≡ j + suc (k - suc j) = omega arith in ap (λ (n : ℕ). 2 ^ n / 2 ^ j % 2) e ∙ above (k - suc j)
    by (no l) = ap (λ (n : ℕ). n % 2) (div-eq_of_lt (pow-lt (omega arith)))

-- bit j of a number with another
bit-xor : (n m j : ℕ) → bit_xor n m / 2 ^ j % 2 ≡ bit_xor (n / 2 ^ j % 2) (m / 2 ^ j % 2)
bit-xor n m j = ap (λ (x : ℕ). x % 2) (xor_shr n m j) ∙ xor_mod (n / 2 ^ j) (m / 2 ^ j) 1

digit-turned : (a : ℕ) → a < 2 → eqb (bit_xor a 1) 1 ≡ not (eqb a 1)
digit-turned zero h = refl
digit-turned (suc zero) h = refl
digit-turned (suc (suc a)) h = absurd (omega arith)

pub mark-turned : (marks i : ℕ) → 1 ≤ i → marked (turned_marks i marks) i ≡ not (marked marks i)
unfolding marked
mark-turned marks zero h = absurd (omega arith)
mark-turned marks (suc k) h =
    let e : suc k - 1 ≡ k = omega arith in
    ap (λ (n : ℕ). eqb (bit_xor marks (2 ^ n) / 2 ^ k % 2) 1) e
    ∙ ap (λ (n : ℕ). eqb n 1) (bit-xor marks (2 ^ k) k ∙ ap (bit_xor (marks / 2 ^ k % 2)) (bit-own k))
    ∙ digit-turned (marks / 2 ^ k % 2) (mod-lt (marks / 2 ^ k) (omega arith))

pub mark-kept : (marks i j : ℕ) → 1 ≤ i → (j ≡ i → ⊥) → marked (turned_marks i marks) j ≡ marked marks j
unfolding marked
mark-kept marks i zero l h = refl
mark-kept marks zero (suc j) l h = absurd (omega arith)
mark-kept marks (suc k) (suc j) l h =
    let e : suc k - 1 ≡ k = omega arith in
    ap (λ (n : ℕ). eqb (bit_xor marks (2 ^ n) / 2 ^ j % 2) 1) e
    ∙ ap (λ (n : ℕ). eqb n 1) (bit-xor marks (2 ^ k) j ∙ ap (bit_xor (marks / 2 ^ j % 2)) (bit-other j k (λ d. h (ap suc d))) ∙ xor_zero_r (marks / 2 ^ j % 2))

pub marks-small : (marks i : ℕ) → marks ≤ 2047 → 1 ≤ i → i ≤ 11 → turned_marks i marks ≤ 2047
marks-small marks i h l k =
    let under : bit_xor marks (2 ^ (i - 1)) < 2048 = xor_lt 11 marks (2 ^ (i - 1)) (omega arith) (pow-lt {i = i - 1} {j = 11} (omega arith)) in
    omega arith
