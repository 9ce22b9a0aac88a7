-- Pieces put one behind the other into a lent buffer are their join put at once. Assumes nothing.
use Rattle.std.specs.Prelude.{ℕ, ◌+◌, ◌≤◌, true, ◌≡◌, List, [], ◌++◌, length, take, drop, Option, Some, None}
use Rattle.std.proofs.Common.{sym, ap, ◌∙◌, subst, append_assoc, append-nil, arith, length-append, length-drop, take-append-drop, length-take-le, drop-drop, le-leb}
use Rattle.std.proofs.Math.Seq.{take-append_seam, drop-append_seam}
use Rattle.text.specs.Over.{over, fits, put_place, put_buffer}

-- where the buffer has room for s at the place, it has s there, and the place behind it is handed back
pub record Wrote (b : List ℕ) (at : ℕ) (s : List ℕ) (r : ℕ) (b' : List ℕ) : Type 0 where
  pub next : r ≡ at + length s
  pub bytes : b' ≡ over b at s

abbrev pub Puts : List ℕ → ℕ → List ℕ → ℕ → List ℕ → Type 0
Puts b at s r b' = at + length s ≤ length b → Wrote b at s r b'

-- ---- bytes over bytes

pub over-length : (b s : List ℕ) (at : ℕ) → at + length s ≤ length b → length (over b at s) ≡ length b
over-length b s at h =
    length-append (take at b ++ s) (drop (at + length s) b)
    ∙ omega (arith, length-append (take at b) s, length-take-le at b (omega arith), length-drop (at + length s) b)

drop-behind : (x y : List ℕ) (n k : ℕ) → length x ≡ n → drop (n + k) (x ++ y) ≡ drop k y
drop-behind x y n k e = sym (drop-drop k n (x ++ y)) ∙ ap (drop k) (ap (λ (i : ℕ). drop i (x ++ y)) (sym e) ∙ drop-append_seam x y)

take-front : (x y : List ℕ) (n : ℕ) → length x ≡ n → take n (x ++ y) ≡ x
take-front x y n e = ap (λ (i : ℕ). take i (x ++ y)) (sym e) ∙ take-append_seam x y

over-over : (b p q : List ℕ) (at : ℕ) → at + length (p ++ q) ≤ length b → over (over b at p) (at + length p) q ≡ over b at (p ++ q)
over-over b p q at h =
    let size : at + length p + length q ≡ at + length (p ++ q) = omega (arith, length-append p q) in
    let front : length (take at b ++ p) ≡ at + length p = length-append (take at b) p ∙ omega (arith, length-take-le at b (omega (arith, length-append p q))) in
    let head : take (at + length p) (over b at p) ≡ take at b ++ p = take-front (take at b ++ p) (drop (at + length p) b) (at + length p) front in
    let tail : drop (at + length p + length q) (over b at p) ≡ drop (at + length (p ++ q)) b =
    drop-behind (take at b ++ p) (drop (at + length p) b) (at + length p) (length q) front
    ∙ drop-drop (length q) (at + length p) b ∙ ap (λ (i : ℕ). drop i b) size in
    ap (λ (v : List ℕ). (v ++ q) ++ drop (at + length p + length q) (over b at p)) head
    ∙ ap (λ (v : List ℕ). ((take at b ++ p) ++ q) ++ v) tail
    ∙ ap (λ (v : List ℕ). v ++ drop (at + length (p ++ q)) b) (append_assoc (take at b) p q)

-- ---- pieces

-- one piece, then the rest
pub then : {b p q b' b'' : List ℕ} {at r r'' : ℕ} → Puts b at p r b' → Puts b' r q r'' b'' → Puts b at (p ++ q) r'' b''
then {b} {p} {q} {b'} {b''} {at} {r} {r''} one two h =
    let both = length-append p q in
    let w = one (omega arith) in
    let l : length b' ≡ length b = ap length w.bytes ∙ over-length b p at (omega arith) in
    let v = two (omega (arith, w.next)) in
    record {
      next = omega (arith, v.next, w.next);
      bytes = v.bytes ∙ ap (λ (x : List ℕ). over x r q) w.bytes ∙ ap (λ (i : ℕ). over (over b at p) i q) w.next ∙ over-over b p q at h;
    }

-- the same bytes under another name
pub same_bytes : {b s t b' : List ℕ} {at r : ℕ} → s ≡ t → Puts b at s r b' → Puts b at t r b'
same_bytes {b} {s} {t} {b'} {at} {r} e p = subst (λ (v : List ℕ). Puts b at v r b') e p

-- what `put_bytes` says, as the code takes it apart
next-is : (m n : ℕ) → Some m ≡ Some n → m ≡ n
next-is m n e = cc

pub put_next : (b s b' : List ℕ) (at n : ℕ) {r : Option ℕ} → r ≡ put_place b at s → b' ≡ put_buffer b at s → r ≡ Some n → Puts b at s n b'
put_next b s b' at n e f g h =
    let yes : fits b at s ≡ true = le-leb (at + length s) (length b) h in
    let w : Some n ≡ Some (at + length s) = sym g ∙ e ∙ simp yes in
    record { next = next-is n (at + length s) w; bytes = f ∙ simp yes }

pub put_full : (b s b' : List ℕ) (at : ℕ) {r : Option ℕ} → r ≡ put_place b at s → r ≡ None → Puts b at s at b'
put_full b s b' at e g h =
    let yes : fits b at s ≡ true = le-leb (at + length s) (length b) h in
    let w : None ≡ Some (at + length s) = sym g ∙ e ∙ simp yes in
    let z : ◌≡◌ {A = ℕ} 0 1 = cc in
    absurd (omega arith)

-- nothing put
pub put-none : (b : List ℕ) (at : ℕ) → at + 0 ≤ length b → (at ≡ at + 0) × (b ≡ over b at [])
put-none b at h =
    let z : at + 0 ≡ at = omega arith in
    (omega arith, sym (ap (λ (v : List ℕ). v ++ drop (at + 0) b) (append-nil (take at b)) ∙ ap (λ (i : ℕ). take at b ++ drop i b) z ∙ take-append-drop at b))
