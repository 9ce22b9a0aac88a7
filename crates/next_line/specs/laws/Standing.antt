-- What stands in a text at a place, and the number that does. Pieces that stand one behind the other are their join, as for pieces that are put.
-- Assumes nothing.
use Rattle.std.specs.Prelude.{◌≡◌, ℕ, suc, ◌+◌, ◌-◌, ◌*◌, ◌^◌, ◌<◌, ◌≤◌, List, [], ◌∷◌, ◌++◌, length, drop, ◌≢◌, slice_index, slice_range, refl, None, IfSome}
use Rattle.std.proofs.Common.{sym, ap, ◌∙◌, subst, append_assoc, pow-suc, add-one, arith, length-append, length-drop, take-append-drop, drop-cons, drop-drop, length-take-le, Fits}
use Rattle.std.proofs.Math.Nat.{pow-le-pow_right}
use Rattle.std.specs.Int.{w32}
use Rattle.text.specs.Decimal.{digit, decimal}
use Rattle.numerals.specs.laws.Numerals.{one, longer}

-- the text has these bytes from a place on, and another place is behind them
pub record Stands (s : List ℕ) (at : ℕ) (p : List ℕ) (next : ℕ) : Type 0 where
  pub there : drop at s ≡ p ++ drop next s
  pub behind : next ≡ at + length p

-- a place that the code hands back, behind a piece of at most so many bytes
pub record Found (s : List ℕ) (at most : ℕ) (p : List ℕ) (next : ℕ) : Type 0 where
  pub stands : Stands s at p next
  pub near : next ≤ at + most

pub record Near (at most next : ℕ) : Type 0 where
  pub from : at ≤ next
  pub to : next ≤ at + most

-- what the digit at a place says
pub record Digit-at (s : List ℕ) (at r : ℕ) : Type 0 where
  pub is : slice_index s at ≡ digit r
  pub small : r ≤ 9

-- ---- pieces

pub then : {s p q : List ℕ} {a b c : ℕ} → Stands s a p b → Stands s b q c → Stands s a (p ++ q) c
then {s} {p} {q} {a} {b} {c} x y = record {
  there = x.there ∙ ap (λ (v : List ℕ). p ++ v) y.there ∙ sym (append_assoc p q (drop c s));
  behind = omega (arith, x.behind, y.behind, length-append p q);
}

pub same_bytes : {s p q : List ℕ} {a b : ℕ} → p ≡ q → Stands s a p b → Stands s a q b
same_bytes {s} {p} {q} {a} {b} e x = subst (λ (v : List ℕ). Stands s a v b) e x

pub stands-byte : (s : List ℕ) (i b : ℕ) → i < length s → slice_index s i ≡ b → Stands s i (b ∷ []) (i + 1)
stands-byte s i b h e = record { there = drop-cons s i 0 h ∙ ap (λ (v : ℕ). v ∷ drop (suc i) s) e ∙ rw add-one; behind = refl }

pub stands-part : (s : List ℕ) (a e : ℕ) → a ≤ e → e ≤ length s → Stands s a (slice_range s a e) e
stands-part s a e h g =
    let n : a + (e - a) ≡ e = omega arith in
    record {
      there = sym (take-append-drop (e - a) (drop a s)) ∙ ap (λ (v : List ℕ). slice_range s a e ++ v) (drop-drop (e - a) a s ∙ ap (λ (i : ℕ). drop i s) n);
      behind = sym n ∙ ap (λ (k : ℕ). a + k) (sym (length-take-le (e - a) (drop a s) (omega (arith, length-drop a s))));
    }

-- ---- as the code hands them back

-- at no place nothing is found
pub found_none : (s : List ℕ) (at most : ℕ) (p : List ℕ) → IfSome None (λ (next : ℕ). Found s at most p next)
found_none s at most p = tt

pub found : {s p : List ℕ} {at most next : ℕ} → Stands s at p next → next ≤ at + most → Found s at most p next
found x h = record { stands = x; near = h }

pub found-byte : (s : List ℕ) (at b : ℕ) → at < length s → slice_index s at ≡ b → Found s at 1 (b ∷ []) (at + 1)
found-byte s at b h e = found (stands-byte s at b h e) (omega arith)

-- ---- a number, digit after digit

pub record OnNumber (s : List ℕ) (at n k : ℕ) : Type 0 where
  pub stands : Stands s at (decimal n) (at + k)
  pub some : 1 ≤ n
  pub small : n < 10 ^ k
  pub short : k ≤ 9

nine : (k : ℕ) → k ≤ 9 → 10 ^ k ≤ 1000000000
nine k h = let ten : 0 < 10 = omega arith in pow-le-pow_right ten h

eight : (k : ℕ) → k < 9 → 10 ^ k ≤ 100000000
eight k h = let ten : 0 < 10 = omega arith in let l : k ≤ 8 = omega arith in pow-le-pow_right ten l

module _ (s : List ℕ) (at : ℕ) (room : at + 9 ≤ length s) where
  single : (d : ℕ) → Digit-at s at d → Stands s at (decimal d) (at + 1)
  single d e = same_bytes (sym (one 19 d (omega (arith, e.small)))) (stands-byte s at (digit d) (omega arith) e.is)

  pub number-zero : (d : ℕ) → Digit-at s at d → d ≡ 0 → Found s at 9 (decimal 0) (at + 1)
  number-zero d e z = found (subst (λ (v : ℕ). Stands s at (decimal v) (at + 1)) z (single d e)) (omega arith)

  pub number-start : (d : ℕ) → Digit-at s at d → (d ≢ 0) → OnNumber s at d 1
  number-start d e z = record { stands = single d e; some = omega (arith, z); small = omega (arith, e.small); short = omega arith }

  module _ (n k : ℕ) (o : OnNumber s at n k) where
    pub number-end : Found s at 9 (decimal n) (at + k)
    number-end = found o.stands (omega (arith, o.short))

    pub number-full : 9 ≤ k → Found s at 9 (decimal n) (at + 9)
    number-full h = let z : k ≡ 9 = omega (arith, o.short) in subst (λ (v : ℕ). Found s at 9 (decimal n) (at + v)) z number-end

    pub number-most : n ≤ 999999999
    number-most = omega (arith, o.small, nine k o.short)

    module _ (h : k < 9) where
      pub number-wide : Fits w32 (n * 10)
      number-wide = record { fits = omega (arith, o.small, eight k h) }

      pub number_more : (d : ℕ) → d ≤ 9 → Fits w32 (n * 10 + d)
      number_more d l = record { fits = omega (arith, o.small, eight k h) }

      pub number-next : (d : ℕ) → Digit-at s (at + k) d → OnNumber s at (n * 10 + d) (k + 1)
      number-next d e =
          let l = e.small in
          let p : n < 10 ^ 19 = omega (arith, o.small, eight k h) in
          let z : at + k + 1 ≡ at + (k + 1) = omega arith in
          let q : 10 ^ (k + 1) ≡ 10 ^ k * 10 = rw add-one (pow-suc 10 k) in
          record {
            stands = subst (λ (v : ℕ). Stands s at (decimal (n * 10 + d)) v) z
                (same_bytes (sym (longer n d o.some (omega arith) p)) (then o.stands (stands-byte s (at + k) (digit d) (omega arith) e.is)));
            some = omega (arith, o.some);
            small = omega (arith, o.small, q);
            short = omega arith;
          }
