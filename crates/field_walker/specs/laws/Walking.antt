-- What a host that goes field by field may rely on: a step leads past a field that was read, and at a refusal the walker stays and sees it again.
-- Assumes nothing.
use Rattle.std.specs.Prelude.{◌≡◌, ℕ}
use Rattle.std.proofs.Common.{ap}
use Rattle.field.specs.declared.Field.{Field}
use Rattle.field.specs.Said.{gives, refuses}
use Rattle.field_walker.specs.declared.Walker.{Walker}
use Rattle.field_walker.specs.Walking.{behind, place_after, standing, looked, stepped}

pub steps_on : (w : Walker) (f : Field) (next : ℕ) → looked w ≡ gives f next → stepped w ≡ standing w.sheet next
unfolding place_after
steps_on w f next e = ap (λ said. standing w.sheet (behind w.at said)) e

pub stays : (w : Walker) (number place : ℕ) → looked w ≡ refuses number place → stepped w ≡ w
unfolding place_after
stays w number place e = ap (λ said. standing w.sheet (behind w.at said)) e
