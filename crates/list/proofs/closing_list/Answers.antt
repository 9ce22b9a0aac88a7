-- `list::closing_list` meets its contract. Assumes nothing.
use Rattle.std.specs.Prelude.{◌≡◌}
use Rattle.std.proofs.Common.{sym, ap, ◌∙◌}
use Rattle.text.specs.Held.{Has, held}
use Rattle.text.specs.laws.Held.{kept-some}
use Rattle.list_lines.specs.Listing.{list_text, list_of}
use Rattle.list_lines.specs.laws.Listing.{too_long, listed}
use Rattle.list.proofs.closing_list.Goals as goal

pub returns-then-sheet-gt-LONGEST : goal.returns-then-sheet-gt-LONGEST
returns-then-sheet-gt-LONGEST c = rw (too_long _ c.if-sheet-gt-LONGEST.true) c.put_bytes.ensures

pub returns : goal.returns
returns c =
    let put = c.put_into in
    let text : held c.in_ok-answers_text.field-0 ≡ Has (list_of c.args.sheet.now) = kept-some _ (Has _) c.in_ok-answers_text.ensures ∙ ap Has (ap list_text c.closings.ensures ∙ sym (listed _ c.if-sheet-gt-LONGEST.false)) in
    (put.ensures.0 ∙ simp text, put.ensures.1 ∙ simp text)
