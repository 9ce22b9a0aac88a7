-- `line_reader::read_line` meets its contract: item by item. Assumes nothing.
use Rattle.std.proofs.Common.{sym, ◌∙◌}
use Rattle.line_reader.specs.laws.Cases.{one_item, two_items, three_items, four_items, five_items, more_items}
use Rattle.line_reader.proofs.read_line.Goals as goal

pub returns-in_err-behind_a : goal.returns-in_err-behind_a
returns-in_err-behind_a c = c.from_residual.ensures ∙ one_item _ _ (rw c.in_err-behind_a.was at c.first_item.ensures)

pub returns-in_err-behind_b : goal.returns-in_err-behind_b
returns-in_err-behind_b c =
    let one = rw c.in_ok-behind_a.was at c.first_item.ensures in
    c.from_residual-in_err-behind_b.ensures ∙ two_items _ _ _ _ one (rw c.in_err-behind_b.was at c.first_item-2.ensures)

pub returns-in_default : goal.returns-in_default
returns-in_default c =
    let one = rw c.in_ok-behind_a.was at c.first_item.ensures in
    let two = rw c.in_ok-behind_b.was at c.first_item-2.ensures in
    c.of_three.ensures ∙ sym (three_items _ _ _ _ one _ _ two (rw c.in_default.is at c.first_item-3.ensures))

pub returns-in_default-behind_d : goal.returns-in_default-behind_d
returns-in_default-behind_d c =
    let one = rw c.in_ok-behind_a.was at c.first_item.ensures in
    let two = rw c.in_ok-behind_b.was at c.first_item-2.ensures in
    let three = rw c.in-Some.is at c.first_item-3.ensures in
    c.of_four.ensures ∙ sym (four_items _ _ _ _ one _ _ two _ _ three (rw c.in_default-behind_d.is at c.first_item-4.ensures))

pub returns-in-None : goal.returns-in-None
returns-in-None c =
    let one = rw c.in_ok-behind_a.was at c.first_item.ensures in
    let two = rw c.in_ok-behind_b.was at c.first_item-2.ensures in
    let three = rw c.in-Some.is at c.first_item-3.ensures in
    let four = rw c.in-Some-behind_d.is at c.first_item-4.ensures in
    c.of_five.ensures ∙ sym (five_items _ _ _ _ one _ _ two _ _ three _ _ four (rw c.in-None.is at c.first_item-5.ensures))

pub returns-in-Some-behind_e : goal.returns-in-Some-behind_e
returns-in-Some-behind_e c =
    let one = rw c.in_ok-behind_a.was at c.first_item.ensures in
    let two = rw c.in_ok-behind_b.was at c.first_item-2.ensures in
    let three = rw c.in-Some.is at c.first_item-3.ensures in
    let four = rw c.in-Some-behind_d.is at c.first_item-4.ensures in
    sym (more_items _ _ _ _ one _ _ two _ _ three _ _ four _ (rw c.in-Some-behind_e.is at c.first_item-5.ensures))
