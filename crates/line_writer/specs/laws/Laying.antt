-- What a line in a lent buffer is behind bytes that were put: the same loan, with the bytes at the place, and the place behind them.
use Rattle.std.specs.Prelude.{ℕ, ◌≡◌, List, ◌++◌}
use Rattle.std.proofs.Common.{◌∙◌}
use Rattle.text.specs.laws.Putting.{Puts, then, same_bytes}
use Rattle.line_writer.specs.declared.Line.{Line}

pub record Lays (old new : Line) (s : List ℕ) : Type 0 where
  pub same_loan : new.buf.ghost_name ≡ old.buf.ghost_name
  pub puts : Puts old.buf.now old.at s new.at new.buf.now

-- bytes behind bytes, and the same bytes in other words
pub then_lays : {a b c : Line} {s t : List ℕ} → Lays a b s → Lays b c t → Lays a c (s ++ t)
then_lays p q = record { same_loan = q.same_loan ∙ p.same_loan; puts = then p.puts q.puts }

pub same_lays : {a b : Line} {s t : List ℕ} → s ≡ t → Lays a b s → Lays a b t
same_lays e p = record { same_loan = p.same_loan; puts = same_bytes e p.puts }
