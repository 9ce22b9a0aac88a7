-- A contract's line item by item, and how long a list can be. Assumes nothing.
use Rattle.std.specs.Prelude.{ℕ, ◌+◌, ◌≤◌, ◌<◌, ◌≡◌, refl, List, [], ◌∷◌, ◌++◌, length, map, drop, get_or, Some, None, Result, Ok, Err}
use Rattle.std.proofs.Common.{sym, ap, ◌∙◌, arith, add-one, length-append, le-leb}
use Rattle.std.proofs.Math.ListN.{drop_of_length-le}
use Rattle.std.proofs.Math.Seq.{drop-cons}
use Rattle.std.proofs.Math.Decide.{dec_le}
use Rattle.std.proofs.lemmas.Bool.{lt-leb}
use Rattle.text.specs.Decimal.{decimal}
use Rattle.text.specs.laws.Decimal.{decimal-length}
use Rattle.text.specs.Held.{Held, kept, ◌⊕◌}
use Rattle.text.specs.laws.Held.{⊕-⊕, kept-some, then_none, then_end}
use Rattle.price_rules.specs.declared.Priced.{Priced}
use Rattle.price_rules.specs.declared.Unpriced.{Unpriced}
use Rattle.field.specs.declared.Refusal.{Refusal}
use Rattle.field.specs.Said.{fault_number}
use Rattle.price_rules.specs.declared.SixAnswers.{SixAnswers}
use Rattle.field.specs.declared.Field.{Field}
use Rattle.field.specs.Judging.{third_of}
use Rattle.sheet.specs.declared.Day.{Day}
use Rattle.sheet.specs.Fields.{fields_of}
use Rattle.sheet.specs.Judgement.{Verdict, accepts, refuses-at, judge_sheet}
use Rattle.price_rules.specs.Closing.{Told, close, refused, six, none-priced, figures_of, answer_of, closings_of, answers_by, answers_of}
use Rattle.price_rules.specs.Says.{answer_says, closed_says}
use Rattle.names.specs.Names.{contract_name, too_long_name}
use Rattle.list_lines.specs.Listing.{space, line, answer_items, answer_line, answer_lines, list_text, list_of}
use Rattle.names.specs.laws.Names.{metal-length, contract-length, method-length}

-- ---- lines

-- the contract, and behind a space its answer
pub answer-line : (c : ℕ) (t : Told) → answer_line c t ≡ contract_name c ++ space ∷ line (answer_items t)
unfolding answer_line
answer-line c (close method cents lots) = refl
answer-line c (refused number lots) = refl

-- a sheet that is listed, and one that is too long
pub listed : (s : List ℕ) → length s ≤ 65536 → list_of s ≡ list_text (answers_of s)
unfolding list_of
listed s h = simp (le-leb (length s) 65536 h)

pub too_long : (s : List ℕ) → 65536 < length s → list_of s ≡ line (too_long_name ∷ [])
unfolding list_of
too_long s h = simp (lt-leb (length s) 65536 h)

-- ---- the contracts' lines, as they are put one behind the other

-- what is left to be put behind the text, from a contract on
pub record Listed (t : Held) (answers : List (Result Priced Unpriced)) (text : Held) (contract : ℕ) : Type 0 where
  pub rest : t ⊕ answer_lines 0 (map answer_says answers) ≡ text ⊕ answer_lines contract (map answer_says (drop contract answers))
  pub end : 1 ≤ contract → Some text ≡ kept (text ⊕ [])

module _ (t : Held) (answers : List (Result Priced Unpriced)) where
  pub list-start : Listed t answers t 0
  list-start = record { rest = refl; end = λ h. absurd (omega arith) }

  module _ (text : Held) (contract : ℕ) (o : Listed t answers text contract) where
    pub list-end : length answers ≤ contract → 1 ≤ contract → Some text ≡ kept (t ⊕ answer_lines 0 (map answer_says answers))
    unfolding answer_lines
    list-end h some =
        let d : drop contract answers ≡ [] = drop_of_length-le answers h in
        o.end some ∙ ap kept (sym (rw d at o.rest))

    module _ (d : Result Priced Unpriced) (h : contract < length answers) where
      left : drop contract answers ≡ get_or answers contract d ∷ drop (contract + 1) answers
      left = drop-cons answers contract d h ∙ rw add-one refl

      here : t ⊕ answer_lines 0 (map answer_says answers) ≡ text ⊕ (answer_line contract (answer_says (get_or answers contract d)) ++ answer_lines (contract + 1) (map answer_says (drop (contract + 1) answers)))
      unfolding answer_lines
      here = o.rest ∙ rw (left, add-one) refl

      pub list_next : (r : Held) → Some r ≡ kept (text ⊕ answer_line contract (answer_says (get_or answers contract d))) → Listed t answers r (contract + 1)
      list_next r g = record {
        rest = here ∙ sym (⊕-⊕ text _ _) ∙ ap (λ (v : Held). v ⊕ answer_lines (contract + 1) (map answer_says (drop (contract + 1) answers))) (sym (kept-some r _ g));
        end = λ _. then_end text _ r g;
      }

      pub list-none : None ≡ kept (text ⊕ answer_line contract (answer_says (get_or answers contract d))) → None ≡ kept (t ⊕ answer_lines 0 (map answer_says answers))
      list-none g = then_none text _ _ g ∙ ap kept (sym here)

-- ---- lengths

two-length : (a b : ℕ) → length (line (decimal a ∷ decimal b ∷ [])) ≤ 42
two-length a b = simp length-append (omega (arith, decimal-length 20 a, decimal-length 20 b))

answer-length : (t : Told) → length (line (answer_items t)) ≤ 50
answer-length (close method cents lots) = simp length-append (omega (arith, method-length method, decimal-length 20 cents, decimal-length 20 lots))
answer-length (refused number lots) = omega (arith, two-length number lots)

line-length : (c : ℕ) (t : Told) → length (answer_line c t) ≤ 55
line-length c t = simp (answer-line, length-append) (omega (arith, contract-length c, answer-length t))

-- the metal's name and six lines
six-length : (day : Day) (a b c d e f : Told) → length (list_text (six day (a ∷ b ∷ c ∷ d ∷ e ∷ f ∷ []))) ≤ 512
unfolding list_text answer_lines
six-length day a b c d e f =
    simp length-append
    (omega (arith, metal-length day.metal, line-length 0 a, line-length 1 b, line-length 2 c, line-length 3 d, line-length 4 e, line-length 5 f))

one-length : (number at : ℕ) → length (list_text (none-priced number at)) ≤ 512
unfolding list_text
one-length number at = omega (arith, two-length number at)

-- the answers of the code, and those of a sheet
pub list_length : (r : Result (Day × SixAnswers) Refusal) → length (list_text (closed_says r)) ≤ 512
list_length (Ok (day, k)) = six-length day (answer_says k.three) (answer_says k.m3) (answer_says k.m2) (answer_says k.m4) (answer_says k.m1) (answer_says k.cash)
list_length (Err refusal) = one-length (fault_number refusal.fault) refusal.at

answers-length : (fs : List Field) (v : Verdict) → length (list_text (answers_by fs v)) ≤ 512
unfolding closings_of
answers-length fs (accepts day) =
    let told = answer_of (figures_of day.metal day.marks (third_of day.form) fs) in
    six-length day (told 0) (told 1) (told 2) (told 3) (told 4) (told 5)
answers-length fs (refuses-at number at) = one-length number at

sheet-length : (s : List ℕ) → Dec (length s ≤ 65536) → length (list_of s) ≤ 512
unfolding answers_of
sheet-length s (yes h) = rw (listed s h) (answers-length (fields_of s) (judge_sheet s))
sheet-length s (no h) = rw (too_long s (omega arith)) (omega arith)

-- a buffer of 512 bytes holds every list
pub list-fits : (s : List ℕ) → length (list_of s) ≤ 512
list-fits s = sheet-length s (dec_le (length s) 65536)
