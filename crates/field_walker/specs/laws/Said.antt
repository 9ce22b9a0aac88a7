-- No two turns of a walk say the same. Assumes nothing.
use Rattle.std.specs.Prelude.{ℕ, ◌≡◌, length, Result}
use Rattle.std.proofs.Common.{ap}
use Rattle.promise.specs.laws.Once.{once}
use Rattle.field.specs.declared.Field.{Field}
use Rattle.field.specs.declared.Refusal.{Refusal}
use Rattle.field.specs.laws.Said.{read-once}
use Rattle.field_walker.specs.declared.Turn.{Turn}
use Rattle.field_walker.specs.Said.{Turned, turn_says}

-- a turn, of its parts
abbrev turn : Result (Field × ℕ) Refusal → ℕ → ℕ → Turn
turn read length next = record { read = read; length = length; next = next }

turn-same : {r r' : Result (Field × ℕ) Refusal} {l l' n n' : ℕ} → r ≡ r' → l ≡ l' → n ≡ n' → turn r l n ≡ turn r' l' n'
turn-same p q s = cc

pub turn-once : {d : Turned} {x y : Turn} → turn_says x ≡ d → turn_says y ≡ d → x ≡ y
turn-once p q = turn-same (read-once (ap (λ t. t.said) p) (ap (λ t. t.said) q)) (once (ap (λ t. t.length) p) (ap (λ t. t.length) q)) (once (ap (λ t. t.next) p) (ap (λ t. t.next) q))
