-- `line_reader::first_item` meets its contract. Assumes nothing.
use Rattle.std.specs.Prelude.{◌≡◌, ◌∷◌, [], ◌+◌, ◌-◌, ℕ, List, length, take, drop, refl}
use Rattle.std.proofs.Common.{ap, sym, ◌∙◌, arith, take_all, length-drop}
use Rattle.items.specs.Items.{items}
use Rattle.items.specs.laws.Items.{last-item, next-item}
use Rattle.line_reader.proofs.first_item.Goals as goal

pub returns-then-s-end : goal.returns-then-s-end
returns-then-s-end c =
    last-item 44 c.args.s.now 0 _ c.end_of-end.ensures c.if-s-end.true
    ∙ ap (λ (v : List ℕ). v ∷ []) (take_all (c.end_of-end.result - 0) c.args.s.now (omega arith))

to_end : (k : ℕ) (s : List ℕ) → take (length s - k) (drop k s) ≡ drop k s
to_end k s = take_all (length s - k) (drop k s) (omega (arith, length-drop k s))

pub returns : goal.returns
returns c =
    let z : c.end_of-end.result - 0 ≡ c.end_of-end.result = omega arith in
    next-item 44 c.args.s.now 0 _ c.end_of-end.ensures c.if-s-end.false _ refl
    ∙ ap (λ (n : ℕ). take n c.args.s.now ∷ items (drop (c.end_of-end.result + 1) c.args.s.now)) z
    ∙ ap (λ (v : List ℕ). take c.end_of-end.result c.args.s.now ∷ items v) (sym (to_end (c.end_of-end.result + 1) c.args.s.now))
