-- `text::Text::number` meets its contract. Assumes nothing.
use mathlib.Core.Path.{subst}
use mathlib.Core.List.{List}
use Prim.Native.Nat.{ℕ}
use Rattle.text.specs.Held.{Added}
use Rattle.text.specs.laws.Decimal.{spelled}
use Rattle.text.proofs.Text.number.Goals as goal

pub returns : goal.returns
returns c =
    let d = c.decimal-k in
    subst (λ (s : List ℕ). Added c.args.self s c.put.result) (spelled _ _ _ c.ranges.n.fits (d.ensures.len, d.ensures.digits)) c.put.ensures
