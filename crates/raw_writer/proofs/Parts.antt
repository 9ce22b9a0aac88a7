-- Bytes put into the part of a buffer that starts at a place: what the buffer holds then. `put_mid a m xs ys` is the list xs with ys in place
-- of its m entries from a on, as the caller of a writer finds it. Assumes nothing.
use Prim.Native.Nat.{ℕ, ◌+◌, ◌-◌, ◌≤◌}
use mathlib.Core.Path.{◌≡◌, sym, ap, ◌∙◌}
use mathlib.Core.List.{List, [], ◌++◌, append_assoc, append-nil}
use native.Mathlib.Nat.{le_refl}
use native.Mathlib.Omega.{arith}
use lib.ListN.{length, take, drop, length-append, length-drop, drop_of_length-le}
use lib.Seq.{take_all, take_at, drop_at, drop-drop}
use borrow.Rule.Slice.PartMut.{put_mid}
use Rattle.wire.specs.Big.{put}
use Rattle.wire.specs.laws.Trips.{put-fits}
use Rattle.field.specs.Writing.{over}

-- the part from a on, with bytes put at its start
pub put-part : (bytes xs ys : List ℕ) (a : ℕ) → a + length bytes ≤ length xs → ys ≡ put bytes (take (length xs - a) (drop a xs)) → put_mid a (length xs - a) xs ys ≡ over xs a bytes
put-part bytes xs ys a h e =
    let whole : take (length xs - a) (drop a xs) ≡ drop a xs = take_all (length xs - a) (drop a xs) (rw length-drop (le_refl _)) in
    let none : drop (length xs - a) (drop a xs) ≡ [] = drop_of_length-le (drop a xs) {i = length xs - a} (rw length-drop (le_refl _)) in
    let room : length bytes ≤ length (drop a xs) = rw length-drop (omega arith) in
    simp (none, append-nil, e, whole, put-fits bytes (drop a xs) room, drop-drop)

-- bytes put behind others: as if both were put at once
pub put-behind : (p bytes xs l ys : List ℕ) (a : ℕ) → length p ≡ a → a + length bytes ≤ length xs → l ≡ put p xs → ys ≡ put bytes (take (length l - a) (drop a l)) → put_mid a (length l - a) l ys ≡ put (p ++ bytes) xs
put-behind p bytes xs l ys a ep h el e =
    let first : l ≡ p ++ drop a xs = el ∙ put-fits p xs (omega arith) ∙ ap (λ (n : ℕ). p ++ drop n xs) ep in
    let front : take a l ≡ p = ap (take a) first ∙ take_at p (drop a xs) a ep in
    let back : drop a l ≡ drop a xs = ap (drop a) first ∙ drop_at p (drop a xs) a ep in
    let long : length l ≡ length p + length (drop a xs) = ap length first ∙ length-append p (drop a xs) in
    let rest : length (drop a xs) ≡ length xs - a = length-drop a xs in
    let both : length (p ++ bytes) ≡ a + length bytes = length-append p bytes ∙ ap (λ (n : ℕ). n + length bytes) ep in
    let placed : over l a bytes ≡ (p ++ bytes) ++ drop (a + length bytes) xs = simp (front, ← drop-drop (length bytes) a l, back, drop-drop, append_assoc) in
    put-part bytes l ys a (omega arith) e ∙ placed ∙ sym (put-fits (p ++ bytes) xs (omega arith) ∙ ap (λ (n : ℕ). (p ++ bytes) ++ drop n xs) both)
