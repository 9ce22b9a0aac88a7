-- Two pieces one after the other are their join, whether they fit or not; and which bytes a text holds. Assumes nothing.
use Rattle.std.specs.Prelude.{ℕ, ◌≤◌, ◌<◌, ◌≡◌, refl, List, [], ◌++◌, length, take, Option, Some, None}
use Rattle.std.proofs.Common.{sym, ap, ◌∙◌, append_assoc, append-nil, arith, length-append, le-leb}
use Rattle.std.proofs.Math.Decide.{dec_le}
use Rattle.std.proofs.lemmas.Bool.{lt-leb}
use Rattle.std.proofs.lemmas.Option.{none-some}
use Rattle.text.specs.declared.Text.{Text}
use Rattle.text.specs.Held.{Held, fit, held, kept, ◌⊕◌, Has, TooLong, empty_text}

has≢long : (s : List ℕ) → Has s ≡ TooLong → ⊥
has≢long s e = cc

pub fit-yes : (s : List ℕ) → length s ≤ 512 → fit s ≡ Has s
unfolding fit
fit-yes s h = simp (le-leb (length s) 512 h)

pub fit-no : (s : List ℕ) → 512 < length s → fit s ≡ TooLong
unfolding fit
fit-no s h = simp (lt-leb (length s) 512 h)

fit-join : (a s : List ℕ) → Dec (length a ≤ 512) → fit a ⊕ s ≡ fit (a ++ s)
unfolding ◌⊕◌
fit-join a s (yes h) = rw (fit-yes a h) refl
fit-join a s (no h) = rw (fit-no a (omega arith)) (sym (fit-no (a ++ s) (omega (arith, length-append a s))))

pub fit-⊕ : (a s : List ℕ) → fit a ⊕ s ≡ fit (a ++ s)
fit-⊕ a s = fit-join a s (dec_le (length a) 512)

pub ⊕-⊕ : (h : Held) (s t : List ℕ) → h ⊕ s ⊕ t ≡ h ⊕ (s ++ t)
unfolding ◌⊕◌
⊕-⊕ (Has a) s t = fit-⊕ (a ++ s) t ∙ ap fit (append_assoc a s t)
⊕-⊕ TooLong s t = refl

pub empty_holds : held empty_text ≡ Has []
unfolding held
empty_holds = refl

-- a text that starts empty holds the pieces, where they have at most 512 bytes
pub whole : (s : List ℕ) → length s ≤ 512 → Has [] ⊕ s ≡ Has s
unfolding ◌⊕◌
whole s h = fit-yes s h

-- ---- as the code puts one piece behind another: the next piece, and a piece that did not fit, behind which nothing more is put

pub kept-some : (u h : Held) → Some u ≡ kept h → u ≡ h
kept-some u (Has s) e = cc
kept-some u TooLong e = absurd (none-some u (sym e))

pub kept-none : (h : Held) → None ≡ kept h → TooLong ≡ h
kept-none (Has s) e = absurd (none-some (Has s) e)
kept-none TooLong e = refl

module _ (h : Held) (s : List ℕ) where
  pub then_put : (u : Held) (v : List ℕ) (r : Option Held) → Some u ≡ kept (h ⊕ s) → r ≡ kept (u ⊕ v) → r ≡ kept (h ⊕ (s ++ v))
  then_put u v r e f = f ∙ ap (λ (x : Held). kept (x ⊕ v)) (kept-some u (h ⊕ s) e) ∙ ap kept (⊕-⊕ h s v)

  pub then_none : (v : List ℕ) → None ≡ kept (h ⊕ s) → None ≡ kept (h ⊕ (s ++ v))
  unfolding ◌⊕◌
  then_none v e = ap (λ (x : Held). kept (x ⊕ v)) (kept-none (h ⊕ s) e) ∙ ap kept (⊕-⊕ h s v)

  -- no bytes behind what was put leave it as it is
  pub then_end : (u : Held) → Some u ≡ kept (h ⊕ s) → Some u ≡ kept (u ⊕ [])
  then_end u e =
      let same : u ≡ h ⊕ s = kept-some u (h ⊕ s) e in
      e ∙ ap kept (sym (ap (λ (x : Held). x ⊕ []) same ∙ ⊕-⊕ h s [] ∙ ap (λ (v : List ℕ). h ⊕ v) (append-nil s)))

-- ---- a text that was put together is short

fit-short : (s r : List ℕ) → Dec (length s ≤ 512) → Has r ≡ fit s → length r ≤ 512
fit-short s r (yes h) e = let g : Has r ≡ Has s = e ∙ fit-yes s h in let q : r ≡ s = cc in rw q h
fit-short s r (no h) e = absurd (has≢long r (e ∙ fit-no s (omega arith)))

pub put_short : (h : Held) (s r : List ℕ) → Has r ≡ h ⊕ s → length r ≤ 512
unfolding ◌⊕◌
put_short (Has a) s r e = fit-short (a ++ s) r (dec_le (length (a ++ s)) 512) e
put_short TooLong s r e = absurd (has≢long r e)

-- ---- what a text holds is its bytes up to its length, where that is at most 512, as in each text that was put together

pub held-is : (t : Text) → t.len ≤ 512 → held t ≡ Has (take t.len t.store)
unfolding held
held-is t h = simp (le-leb t.len 512 h)

pub held-over : (t : Text) → 512 < t.len → held t ≡ TooLong
unfolding held
held-over t h = simp (lt-leb t.len 512 h)

within : (t : Text) (s : List ℕ) → Dec (t.len ≤ 512) → held t ≡ Has s → (t.len ≤ 512) × (take t.len t.store ≡ s)
within t s (yes h) e = let g : Has (take t.len t.store) ≡ Has s = sym (held-is t h) ∙ e in (h, cc)
within t s (no h) e = absurd (has≢long s (sym e ∙ held-over t (omega arith)))

-- a text that holds bytes, as the empty one does
pub held-within : (t : Text) (s : List ℕ) → held t ≡ Has s → (t.len ≤ 512) × (take t.len t.store ≡ s)
held-within t s e = within t s (dec_le t.len 512) e

-- a text that is handed out, by the clause `held_by result ≡ kept h`
pub kept-within : (h : Held) (t : Text) → Some (held t) ≡ kept h → (t.len ≤ 512) × (Has (take t.len t.store) ≡ h)
kept-within (Has s) t e = let w = held-within t s (kept-some _ _ e) in (w.0, ap Has w.1)
kept-within TooLong t e = absurd (none-some (held t) (sym e))
