-- Laws of the sum: when there is one, and that no two answers of the code say the same. Assumes nothing.
use Rattle.std.specs.Prelude.{ℕ, ◌<◌, Bool, cond, List, ◌≡◌, refl, ℤ, Option, Some, None}
use Rattle.std.proofs.Common.{sym, ap, ◌∙◌, arith, ext_get_or}
use Rattle.promise.specs.laws.Once.{through}
use Rattle.field.specs.declared.Field.{Field}
use Rattle.indicator.specs.Indicator.{twap_sum}
use Rattle.indicator.specs.laws.Indicator.{told_by}
use Rattle.indicator.proofs.State.{reference-told}
use Rattle.twap.specs.Span.{Span, span_of, span_says, missing, sum, Sums}

-- a reference is a previous close, or a trade by then
pub span-told : (i start : ℕ) (fs : List Field) → span_of i start fs ≡ cond (told_by i start fs) (sum (twap_sum i start fs)) missing
unfolding span_of
span-told i start fs = ap (λ (b : Bool). cond b (sum (twap_sum i start fs)) missing) (reference-told i start fs)

abbrev summed-of : Span → Option ℤ
summed-of missing = None
summed-of (sum total) = Some total

summed-back : (r : Option ℤ) → summed-of (span_says r) ≡ r
summed-back None = refl
summed-back (Some total) = refl

pub span-once : {d : Span} {x y : Option ℤ} → span_says x ≡ d → span_says y ≡ d → x ≡ y
span-once p q = through span_says summed-of summed-back p q

-- and no two lists of them tell the same
pub sums-once : {metal : ℕ} {fs : List Field} {x y : List (Option ℤ)} → Sums metal fs x → Sums metal fs y → x ≡ y
sums-once {metal} {fs} {x} {y} p q =
    ext_get_or None x y (p.long ∙ sym q.long) (λ i h. let on : i < 12 = omega (arith, p.long) in span-once (p.each i on) (q.each i on))
