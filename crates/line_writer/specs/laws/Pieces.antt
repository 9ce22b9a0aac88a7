-- The pieces that the code puts are those of the line, and a line that is put stands whole. Assumes nothing.
use Rattle.std.specs.Prelude.{ℕ, suc, ◌+◌, ◌-◌, ◌≤◌, ◌<◌, Bool, true, false, ◌≡◌, refl, List, ◌∷◌, ◌++◌, ℤ, pos, negsuc, length}
use Rattle.std.proofs.Common.{sym, ap, subst, arith, ltb-true, SFits}
use Rattle.std.specs.Int.{w32}
use lib.Signed.{lt_z}
use Rattle.text.specs.Ascii.{ascii}
use Rattle.text.specs.Decimal.{decimal}
use Rattle.text.specs.Over.{over}
use Rattle.text.specs.laws.Putting.{Puts, put-none}
use Rattle.wire.specs.Big.{bits}
use Rattle.field.specs.declared.Price.{Price}
use Rattle.field.specs.declared.Form.{Form}
use Rattle.field.specs.declared.Form.TheVariants.{Short, Long}
use Rattle.field.specs.declared.Field.{Field}
use Rattle.field.specs.declared.Field.TheVariants as F
use Rattle.dollars.specs.Dollars.{amount, sign_of, price_text}
use Rattle.line_reader.specs.Lines.{side_text}
use Rattle.line_reader.specs.laws.Pieces.{form_text}
use Rattle.tape.specs.Tape.{line_text}

-- ---- a price by its bits

pub written-up : (z : ℤ) (b : ℕ) → SFits w32 z → b ≡ bits z → b < 2147483648 → amount b ≡ price_text z
unfolding sign_of
written-up (pos n) b f e h = ap amount e
written-up (negsuc n) b f e h = absurd (omega (arith, f.sfits))

pub written-down : (z : ℤ) (b : ℕ) → SFits w32 z → b ≡ bits z → 2147483648 ≤ b → ascii "-" ++ amount (4294967295 - b + 1) ≡ price_text z
unfolding sign_of
written-down (pos n) b f e h = absurd (omega (arith, f.sfits))
written-down (negsuc n) b f e h = let z : 4294967295 - b + 1 ≡ suc n = omega (arith, f.sfits) in ap (λ (v : ℕ). 45 ∷ amount v) z

-- ---- the sign of a price

pub sign-down : (z : ℤ) → lt_z z (pos 0) ≡ true → ascii "-" ≡ sign_of z
unfolding sign_of
sign-down (pos n) h = absurd (omega (arith, ltb-true n 0 h))
sign-down (negsuc n) h = refl

pub sign-up : {b : List ℕ} {at : ℕ} (z : ℤ) → lt_z z (pos 0) ≡ false → Puts b at (sign_of z) at b
unfolding sign_of
sign-up {b} {at} (pos n) h = λ room. let w = put-none b at room in record { next = w.0; bytes = w.1 }
sign-up {b} {at} (negsuc n) h = absurd cc

-- ---- a side, a form, and a line, as the code takes them apart

pub side-there : (present : Bool) (p : Price) → present ≡ true → price_text p.cents ≡ side_text present p
unfolding side_text
side-there present p e = simp e

pub side-absent : (present : Bool) (p : Price) → present ≡ false → ascii "-" ≡ side_text present p
unfolding side_text
side-absent present p e = simp e

pub form-none : {b : List ℕ} {at : ℕ} {form : Form} → form ≡ Short → Puts b at (form_text form) at b
form-none {b} {at} e h = rw e (let w = put-none b at (rw e at h) in record { next = w.0; bytes = w.1 })

pub form-third : {form : Form} {third : ℕ} → form ≡ Long third → ascii "," ++ decimal third ≡ form_text form
form-third e = rw e refl

pub line-put : {b b' : List ℕ} {at r : ℕ} (f : Field) {g : Field} → g ≡ f → at + length (line_text g) ≤ length b → Puts b at (line_text f) r b' → (r ≡ at + length (line_text g)) × (b' ≡ over b at (line_text g))
line-put {b} {b'} {at} {r} f {g} e h p =
    let w = subst (λ (v : Field). Puts b at (line_text v) r b') (sym e) p h in
    (w.next, w.bytes)

pub line-none : {b : List ℕ} {at : ℕ} (count : ℕ) {g : Field} → g ≡ F.End count → Puts b at (line_text g) at b
unfolding line_text
line-none {b} {at} count e h = rw e (let w = put-none b at (rw e at h) in record { next = w.0; bytes = w.1 })
