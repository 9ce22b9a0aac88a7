-- The closes that a contract is priced from are closes: every one is at most 99,999,999. Assumes nothing.
use Rattle.std.specs.Prelude.{ℕ, zero, suc, ◌≤◌, List, [], ◌∷◌, get_or, set}
use Rattle.market.specs.declared.Leg.{Leg}
use Rattle.market.specs.declared.Leg.TheVariants.{Outright, Over, Under}
use Rattle.price_rules.specs.Closing.{base_of, Told, close, refused}
use Rattle.std.proofs.Common.{arith}

pub record Bounded (closes : List ℕ) : Type 0 where
  pub small : (c : ℕ) → get_or closes c 0 ≤ 99999999

pub base-small : {closes : List ℕ} → Bounded closes → (leg : Leg) → base_of closes leg ≤ 99999999
base-small b Outright = omega arith
base-small b (Over c) = b.small c
base-small b (Under c) = b.small c

set-small : (l : List ℕ) (i m : ℕ) → m ≤ 99999999 → ((c : ℕ) → get_or l c 0 ≤ 99999999) → (c : ℕ) → get_or (set l i m) c 0 ≤ 99999999
set-small [] i m h k c = k c
set-small (x ∷ l) zero m h k zero = h
set-small (x ∷ l) zero m h k (suc c) = k (suc c)
set-small (x ∷ l) (suc i) m h k zero = k zero
set-small (x ∷ l) (suc i) m h k (suc c) = set-small l i m h (λ j. k (suc j)) c

pub bounded-set : {closes : List ℕ} → Bounded closes → (c m : ℕ) → m ≤ 99999999 → Bounded (set closes c m)
bounded-set {closes} b c m h = record { small = set-small closes c m h b.small }

-- the close of an answer, where it has one
abbrev pub Small : Told → Type 0
Small (close method m lots) = m ≤ 99999999
Small (refused number lots) = Unit {0}
