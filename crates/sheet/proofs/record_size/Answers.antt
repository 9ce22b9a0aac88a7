-- `sheet::record_size` meets its contract. Assumes nothing.
use native.Mathlib.Omega.{arith}
use mathlib.Core.Path.{◌∙◌, ap, refl}
use Rattle.sheet.specs.laws.Past.{some_size, size-some, size-not, sized-none, sized-let, sized-barred, right-inside}
use Rattle.sheet.proofs.record_size.Goals as goal

pub returns-in_err-size : goal.returns-in_err-size
returns-in_err-size c = rw c.from_residual.ensures (ap some_size (sized-none _ _ _ refl (size-not _ c.in_err-size.ensures)))

pub overflow_add-at : goal.overflow_add-at
overflow_add-at c = let some = size-some _ c.in_ok-size.ensures in omega (arith, right-inside _ _ some.0 some.1)

pub bounds-sheet-at : goal.bounds-sheet-at
bounds-sheet-at c = let some = size-some _ c.in_ok-size.ensures in omega (arith, right-inside _ _ some.0 some.1)

pub returns-then-is_let : goal.returns-then-is_let
returns-then-is_let c = c.in_ok-size.ensures ∙ ap some_size (sized-let _ _ _ refl c.is_let.ensures c.if-is_let.true)

pub returns-else-is_let : goal.returns-else-is_let
returns-else-is_let c = ap some_size (sized-barred _ _ _ refl c.is_let.ensures c.if-is_let.false)
