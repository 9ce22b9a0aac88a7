-- What a loop that puts bytes one by one behind a place keeps: the start with the bytes so far, and the rest as it was. Assumes nothing.
use Rattle.std.proofs.Common.{ℕ, ◌+◌, ◌≤◌, ◌<◌, ◌≡◌, List, [], ◌∷◌, ◌++◌, length, take, drop, get_or, sym, ap, ◌∙◌, arith, append_assoc}
use Rattle.std.proofs.Math.ListN.{set}
use Rattle.std.proofs.lemmas.List.{take_more, take_more_set, drop-set-lt}
use Rattle.std.proofs.lemmas.List.{drop-drop}

pub record Reached (b o s : List ℕ) (at i : ℕ) : Type 0 where
  pub start : take (at + i) o ≡ take at b ++ take i s
  pub rest : drop (at + i) o ≡ drop (at + i) b

pub one-more : (b o s : List ℕ) (at i : ℕ) → length o ≡ length b → at + length s ≤ length b → i < length s → Reached b o s at i → Reached b (set o (at + i) (get_or s i 0)) s at (i + 1)
one-more b o s at i same room below r =
    let x : ℕ = get_or s i 0 in
    let n : ℕ = at + i in
    let low : n < length o = omega arith in
    let e : at + (i + 1) ≡ n + 1 = omega arith in
    let more = take_more s i 0 below in
    record {
      start = rw e (take_more_set o n x low ∙ ap (λ (l : List ℕ). l ++ x ∷ []) r.start ∙ append_assoc (take at b) (take i s) (x ∷ []) ∙ ap (λ (l : List ℕ). take at b ++ l) (sym more));
      rest = rw e (drop-set-lt (n + 1) o n x (omega arith) ∙ sym (drop-drop 1 n o) ∙ ap (drop 1) r.rest ∙ drop-drop 1 n b);
    }
