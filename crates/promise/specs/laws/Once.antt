-- How `Once` is proved.
--     once     where the contract says what is seen
--     through  where the contract says what an answer means, and no two answers mean the same
-- Assumes nothing.
use Rattle.std.specs.Prelude.{◌≡◌}
use Rattle.std.proofs.Common.{sym, ap, ◌∙◌}

-- two things that are each what a definition says are one
pub once : {A : Type 0} {d x y : A} → x ≡ d → y ≡ d → x ≡ y
once p q = p ∙ sym q

-- two answers that mean what a definition says are one, where `back` reads an answer off its meaning
pub through : {A M : Type 0} (means : A → M) (back : M → A) → ((x : A) → back (means x) ≡ x) → {d : M} {x y : A} → means x ≡ d → means y ≡ d → x ≡ y
through means back told {d} {x} {y} p q = sym (told x) ∙ ap back (p ∙ sym q) ∙ told y
