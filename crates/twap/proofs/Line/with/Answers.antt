-- `twap::Line::with` meets its contract: the sizes of a fair line keep its total within 64 bits. Assumes nothing.
use mathlib.Core.Path.{◌≡◌, refl, sym, ◌∙◌}
use borrow.Author.Rules.{rules}
use mir.Syntax.{w64}
use mir.Val.{to_z, of_z}
use Rattle.std.proofs.Common.{true, cond}
use Rattle.twap.specs.laws.Lines.{tells, cut-clamp, line-built}
use Rattle.twap.proofs.Line.with.Goals as goal
use Rattle.twap.proofs.Line.with.Goals.{then-self, else-self}

pub returns : goal.returns
returns c =
    let a = c.args in
    let total : to_z w64 (of_z w64 a.self.total) ≡ a.self.total = search rules in
    let sum : to_z w64 (of_z w64 c.plus.result) ≡ c.plus.result = search rules in
    let told : c.if-self.result ≡ cond a.self.told true (tells a.start a.stamp) =
    elim c.if-self.branch [
      | then-self w ↦ rw (w.result-is, w.if-self.true) refl
      | else-self w ↦ rw (w.result-is, w.if-self.false) w.tells_by.ensures
    ] in
    line-built a.stamp.instrument a.start a.self a.field (sym c.requires.2) c.take_field.ensures (c.clamp-to.ensures ∙ cut-clamp _ _ _ c.requires.0.to) c.value.ensures (sum ∙ rw total at c.plus.ensures) told
