-- What the lines of an accepted text were: each a field that may come next, and behind the last line feed nothing. Assumes nothing.
use Rattle.std.specs.Prelude.{ℕ, ◌≤◌, Bool, true, false, cond, ◌≡◌, refl, List, [], ◌∷◌, ◌++◌, eqb, Option, Some, None}
use Rattle.std.proofs.Common.{ap, ◌∙◌, append_assoc, arith, eqb-true}
use Rattle.std.proofs.lemmas.Bool.{eqb-false}
use Rattle.numerals.specs.laws.Numerals.{clash}
use Rattle.field.specs.declared.Field.{Field}
use Rattle.field.specs.declared.Field.TheVariants as F
use Rattle.field.specs.Layout.{tag_of}
use Rattle.admit.specs.declared.Progress.{Progress}
use Rattle.admit.specs.Admitting.{Step, goes, ends, stops, admit}
use Rattle.line_reader.specs.Lines.{line_of}
use Rattle.line_reader.specs.laws.Trips.{Lined}
use Rattle.tape.specs.Tape.{LinesSay, tells, bad, with, capped, at_last, onward, say_line, line_text, text_of}

-- what stood behind the last line feed
pub record Closed (p : Progress) (size : ℕ) (fs : List Field) : Type 0 where
  pub nothing : size ≡ 0
  pub headed : 1 ≤ p.stage
  pub none : fs ≡ []

pub closed : (line size : ℕ) (p : Progress) (fs : List Field) → at_last line p size ≡ tells fs → Closed p size fs
unfolding at_last
closed line size p fs e = by-test (eqb size 0) refl (eqb p.stage 0) refl e
  where
    by-test : (t : Bool) → eqb size 0 ≡ t → (u : Bool) → eqb p.stage 0 ≡ u → cond t (cond u (bad 5 1) (tells [])) (bad 17 line) ≡ tells fs → Closed p size fs
    by-test true h true k g = clash cc
    by-test true h false k g = record { nothing = eqb-true size 0 h; headed = omega (arith, eqb-false p.stage 0 k); none = cc }
    by-test false h u k g = clash cc

-- what a line was
pub record Took (p : Progress) (l : Option Field) (later : Progress → LinesSay) (fs : List Field) : Type 0 where
  pub f : Field
  pub r : Progress
  pub gs : List Field
  pub said : l ≡ Some f
  pub goes_on : admit (capped p) f ≡ goes r
  pub after : later r ≡ tells gs
  pub are : fs ≡ f ∷ gs

with-tells : (f : Field) (t : LinesSay) (fs : List Field) → with f t ≡ tells fs → (gs : List Field) × (t ≡ tells gs) × (fs ≡ f ∷ gs)
with-tells f (tells gs) fs e = (gs, refl, cc)
with-tells f (bad number line) fs e = clash cc

went_on : (line : ℕ) (p : Progress) (f : Field) (t : Step) (later : Progress → LinesSay) (fs : List Field) → admit (capped p) f ≡ t → onward line f t later ≡ tells fs → Took p (Some f) later fs
unfolding onward
went_on line p f (goes r) later fs a e = let w = with-tells f (later r) fs e in record { f = f; r = r; gs = w.0; said = refl; goes_on = a; after = w.1; are = w.2 }
went_on line p f ends later fs a e = clash cc
went_on line p f (stops number) later fs a e = clash cc

pub took : (line : ℕ) (p : Progress) (l : Option Field) (later : Progress → LinesSay) (fs : List Field) → say_line line p l later ≡ tells fs → Took p l later fs
unfolding say_line
took line p (Some f) later fs e = went_on line p f (admit (capped p) f) later fs refl e
took line p None later fs e = clash cc

-- ---- a field that is no end has a line

pub lined : (f : Field) → (tag_of f ≡ 5 → ⊥) → Lined f
unfolding tag_of
lined (F.Header metal marks form) h = tt
lined (F.PreviousClose instrument p) h = tt
lined (F.Trade time instrument p lots) h = tt
lined (F.Quote time instrument sides bid offer) h = tt
lined (F.End count) h = h refl

pub line-is : (f : Field) → Lined f → line_text f ≡ line_of f ++ 10 ∷ []
unfolding line_text
line-is (F.Header metal marks form) h = refl
line-is (F.PreviousClose instrument p) h = refl
line-is (F.Trade time instrument p lots) h = refl
line-is (F.Quote time instrument sides bid offer) h = refl
line-is (F.End count) h = absurd h

pub text-more : (f : Field) (fs : List Field) → Lined f → text_of (f ∷ fs) ≡ line_of f ++ 10 ∷ text_of fs
unfolding text_of
text-more f fs h = ap (λ (v : List ℕ). v ++ text_of fs) (line-is f h) ∙ append_assoc (line_of f) (10 ∷ []) (text_of fs)
