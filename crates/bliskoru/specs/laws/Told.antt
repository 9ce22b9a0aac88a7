-- What is handed over is what the definitions say: a law for each answer of the code, from what the code knows where it has that answer.
--     told     what is read off an answer of the code is what is read off the definition that it meets
-- Assumes nothing.
use Rattle.std.specs.Prelude.{ℕ, ◌≡◌, refl, List, [], ◌∷◌, ◌++◌, ℤ, Option, Some, None, Result, Ok, Err}
use Rattle.std.proofs.Common.{sym, ap, ◌∙◌, append_assoc, append-nil}
use Rattle.field.specs.declared.Field.{Field}
use Rattle.field.specs.declared.Refusal.{Refusal}
use Rattle.field.specs.Said.{Said, fault_number, read_says, written_says}
use Rattle.sheet.specs.declared.Day.{Day}
use Rattle.sheet.specs.Judgement.{Verdict, judged_says}
use Rattle.price_rules.specs.declared.SixAnswers.{SixAnswers}
use Rattle.price_rules.specs.Closing.{Told, Answers}
use Rattle.price_rules.specs.Says.{closings_say, closed_says}
use Rattle.bliskoru.specs.Host.{filled_number, filled_length, filled_place, length_or0, verdict_number, verdict_byte, row_of, rows_of, answers_number, answers_byte, answers_rows, values_of, said_number, said_next, read_values}

told : {A B C : Type 0} (g : B → C) (says : A → B) {r x : A} {d : B} → says r ≡ d → r ≡ x → g (says x) ≡ g d
told g says e f = ap g (sym (ap says f) ∙ e)

-- ---- the list

module _ {d r : Option ℕ} (e : r ≡ d) where
  pub listed : {n : ℕ} → r ≡ Some n → n ≡ length_or0 d
  listed f = told length_or0 (λ x. x) e f

  pub no_room : r ≡ None → 0 ≡ length_or0 d
  no_room f = told length_or0 (λ x. x) e f

-- ---- what was put at the start of a buffer

module _ {r : Result ℕ Refusal} where
  module _ {n : ℕ} (f : r ≡ Ok n) where
    pub whole-number : 0 ≡ filled_number (written_says r)
    whole-number = told filled_number written_says refl f

    pub whole_length : (old : ℕ) → n ≡ filled_length old (written_says r)
    whole_length old = told (filled_length old) written_says refl f

    pub whole-place : (old : ℕ) → old ≡ filled_place old (written_says r)
    whole-place old = told (filled_place old) written_says refl f

  module _ {refusal : Refusal} (f : r ≡ Err refusal) where
    pub unfilled-number : fault_number refusal.fault ≡ filled_number (written_says r)
    unfilled-number = told filled_number written_says refl f

    pub unfilled-length : (old : ℕ) → old ≡ filled_length old (written_says r)
    unfilled-length old = told (filled_length old) written_says refl f

    pub unfilled-place : (old : ℕ) → refusal.at ≡ filled_place old (written_says r)
    unfilled-place old = told (filled_place old) written_says refl f

-- what is handed over of an answer is that of what the answer is, whatever stands in the buffer
pub handed-over : (length at : ℕ) (r d : Said (Unit {0})) {n len place : ℕ} {b c : List ℕ} → (n ≡ filled_number r) × ((len ≡ filled_length length r) × (place ≡ filled_place at r)) → (r ≡ d) × (b ≡ c)
    → (n ≡ filled_number d) × ((b ≡ c) × ((len ≡ filled_length length d) × (place ≡ filled_place at d)))
handed-over length at r d over is = (over.0 ∙ ap filled_number is.0, (is.1, (over.1.0 ∙ ap (filled_length length) is.0, over.1.1 ∙ ap (filled_place at) is.0)))

-- ---- a sheet's judgement

module _ {d : Verdict} {r : Result Day Refusal} (e : judged_says r ≡ d) where
  module _ {day : Day} (f : r ≡ Ok day) where
    pub accepted-number : 0 ≡ verdict_number d
    accepted-number = told verdict_number judged_says e f

    pub accepted-byte : (old : ℕ) → old ≡ verdict_byte old d
    accepted-byte old = told (verdict_byte old) judged_says e f

  module _ {refusal : Refusal} (f : r ≡ Err refusal) where
    pub refused-number : fault_number refusal.fault ≡ verdict_number d
    refused-number = told verdict_number judged_says e f

    pub refused-byte : (old : ℕ) → refusal.at ≡ verdict_byte old d
    refused-byte old = told (verdict_byte old) judged_says e f

-- ---- the six answers

module _ {d : Answers} {r : Result (Day × SixAnswers) Refusal} (e : closed_says r ≡ d) where
  module _ {day : Day} {k : SixAnswers} (f : r ≡ Ok (day, k)) where
    pub six-number : 0 ≡ answers_number d
    six-number = told answers_number closed_says e f

    pub six-byte : (old : ℕ) → old ≡ answers_byte old d
    six-byte old = told (answers_byte old) closed_says e f

    pub six-rows : (old : List ℕ) {rows : List ℕ} → rows ≡ rows_of (closings_say k) → rows ≡ answers_rows old d
    six-rows old h = h ∙ told (answers_rows old) closed_says e f

  module _ {refusal : Refusal} (f : r ≡ Err refusal) where
    pub none_number : fault_number refusal.fault ≡ answers_number d
    none_number = told answers_number closed_says e f

    pub none-byte : (old : ℕ) → refusal.at ≡ answers_byte old d
    none-byte old = told (answers_byte old) closed_says e f

    pub none_rows : (old : List ℕ) → old ≡ answers_rows old d
    none_rows old = told (answers_rows old) closed_says e f

-- ---- one field that is read, and one that is written

module _ {d : Said Field} {r : Result (Field × ℕ) Refusal} (e : read_says r ≡ d) where
  module _ {field : Field} {next : ℕ} (f : r ≡ Ok (field, next)) where
    pub read_number : 0 ≡ said_number d
    read_number = told said_number read_says e f

    pub read_next : (old : ℕ) → next ≡ said_next old d
    read_next old = told (said_next old) read_says e f

    pub read-values : (old : List ℤ) {values : List ℤ} → values ≡ values_of field → values ≡ read_values old d
    read-values old h = h ∙ told (read_values old) read_says e f

  module _ {refusal : Refusal} (f : r ≡ Err refusal) where
    pub unread-number : fault_number refusal.fault ≡ said_number d
    unread-number = told said_number read_says e f

    pub unread-next : (old : ℕ) → old ≡ said_next old d
    unread-next old = told (said_next old) read_says e f

    pub unread-values : (old : List ℤ) → old ≡ read_values old d
    unread-values old = told (read_values old) read_says e f

module _ {d : Said (Unit {0})} {r : Result ℕ Refusal} (e : written_says r ≡ d) where
  module _ {next : ℕ} (f : r ≡ Ok next) where
    pub written-number : 0 ≡ said_number d
    written-number = told said_number written_says e f

    pub written_next : (old : ℕ) → next ≡ said_next old d
    written_next old = told (said_next old) written_says e f

  module _ {refusal : Refusal} (f : r ≡ Err refusal) where
    pub unwritten-number : fault_number refusal.fault ≡ said_number d
    unwritten-number = told said_number written_says e f

    pub unwritten-next : (old : ℕ) → old ≡ said_next old d
    unwritten-next old = told (said_next old) written_says e f

-- ---- the rows

pub rows_are : {a b c d e f : List ℕ} (s t u v w x : Told) → a ≡ row_of s → b ≡ row_of t → c ≡ row_of u → d ≡ row_of v → e ≡ row_of w → f ≡ row_of x
    → a ++ b ++ c ++ d ++ e ++ f ≡ rows_of (s ∷ t ∷ u ∷ v ∷ w ∷ x ∷ [])
rows_are s t u v w x p q k l m n = rw (sym p, sym q, sym k, sym l, sym m, sym n) (simp (append_assoc, append-nil))
