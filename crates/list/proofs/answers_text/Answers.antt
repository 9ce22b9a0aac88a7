-- `list::answers_text` meets its contract: the pieces that were put, as one text behind no bytes. Assumes nothing.
use Rattle.std.specs.Prelude.{◌≡◌, Some, None, List, [], ◌∷◌, ◌++◌, ℕ, Result, Ok, Err}
use Rattle.std.proofs.Common.{sym, ap, ◌∙◌, append_assoc}
use Rattle.text.specs.declared.Text.{Text}
use Rattle.text.specs.Held.{Held, Has, held, kept, empty_text, ◌⊕◌}
use Rattle.text.specs.laws.Held.{then_put, then_none, empty_holds, whole}
use Rattle.field.specs.declared.Refusal.{Refusal}
use Rattle.field.specs.Said.{fault_number}
use Rattle.sheet.specs.declared.Day.{Day}
use Rattle.price_rules.specs.declared.SixAnswers.{SixAnswers}
use Rattle.price_rules.specs.Says.{closings_say, closed_says}
use Rattle.names.specs.Names.{metal_name}
use Rattle.list_lines.specs.Listing.{line, refusal, answer_lines, list_text}
use Rattle.list_lines.specs.laws.Listing.{list_length}
use Rattle.list.proofs.answers_text.Goals as goal

-- behind no bytes
whole_list : (t : Text) → t ≡ empty_text → (r : Result (Day × SixAnswers) Refusal) → kept (held t ⊕ list_text (closed_says r)) ≡ Some (Has (list_text (closed_says r)))
whole_list t e r = ap kept (ap (λ (v : Text). held v ⊕ list_text (closed_says r)) e ∙ ap (λ (h : Held). h ⊕ list_text (closed_says r)) empty_holds ∙ whole _ (list_length r))

six-text : (t : Text) → t ≡ empty_text → (day : Day) (k : SixAnswers) → kept (held t ⊕ (metal_name day.metal ++ (10 ∷ answer_lines 0 (closings_say k)))) ≡ Some (Has (list_text (closed_says (Ok (day, k)))))
unfolding list_text
six-text t e day k =
    ap (λ (v : List ℕ). kept (held t ⊕ v)) (sym (append_assoc (metal_name day.metal) (10 ∷ []) (answer_lines 0 (closings_say k))))
    ∙ whole_list t e (Ok (day, k))

refused-text : (t : Text) → t ≡ empty_text → (r : Refusal) → kept (held t ⊕ line (refusal (fault_number r.fault) r.at)) ≡ Some (Has (list_text (closed_says (Err r))))
unfolding list_text
refused-text t e r = whole_list t e (Err r)

pub returns-in_err-put_metal-in-Ok : goal.returns-in_err-put_metal-in-Ok
returns-in_err-put_metal-in-Ok c =
    rw (c.from_residual.ensures, c.in-Ok.is) (then_none _ _ _ c.in_err-put_metal-in-Ok.ensures ∙ six-text _ c.empty-t.ensures _ _)

pub returns-in_err-put-in-Ok : goal.returns-in_err-put-in-Ok
returns-in_err-put-in-Ok c =
    rw (c.from_residual-in_err-put-in-Ok.ensures, c.in-Ok.is)
    (then_put _ _ _ _ None c.in_ok-put_metal-in-Ok.ensures (then_none _ _ _ c.in_err-put-in-Ok.ensures.holds) ∙ six-text _ c.empty-t.ensures _ _)

pub returns-in_ok-put-in-Ok : goal.returns-in_ok-put-in-Ok
returns-in_ok-put-in-Ok c =
    rw c.in-Ok.is
    (then_put _ _ _ _ _ c.in_ok-put_metal-in-Ok.ensures (then_put _ _ _ _ _ c.in_ok-put-in-Ok.ensures.holds c.put_lines.ensures) ∙ six-text _ c.empty-t.ensures _ _)

pub returns-in-Err : goal.returns-in-Err
returns-in-Err c = let number = c.from.ensures in rw c.in-Err.is (rw number at c.put_refusal.ensures ∙ refused-text _ c.empty-t.ensures _)
