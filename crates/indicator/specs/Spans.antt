-- RULES 6 in a clerk's order of work: the spans of a window, from one record of the instrument to the next, each with the indicator that stands over
-- it. Price times length of span, added up, is the sum over the window's milliseconds (`laws/Spans`).
use Rattle.std.specs.Prelude.{ℕ, ◌+◌, ◌-◌, Bool, false, cond, List, [], ◌∷◌, leb, eqb, ℤ, pos, ◌+ℤ◌, ◌*ℤ◌}
use Rattle.field.specs.declared.Field.{Field}
use Rattle.field.specs.declared.Field.TheVariants.{Header, PreviousClose, Trade, Quote, End}
use Rattle.market.specs.Market.{window_length}
use Rattle.indicator.specs.declared.Indicator.{Indicator}
use Rattle.indicator.specs.Indicator.{cents_of, empty, value_of, taken, stamp}

-- its first millisecond, the first one behind it, and the indicator over it, in cents
pub record PricedSpan : Type 0 where
  pub from : ℕ
  pub to : ℕ
  pub price : ℤ

-- a span in the state s
abbrev pub standing : Indicator → ℕ → ℕ → PricedSpan
standing s from to = record { from = from; to = to; price = cents_of (value_of s) }

-- whether a field is of instrument i; a header and an end are of none
abbrev pub is_of : ℕ → Field → Bool
is_of i (Header metal marks form) = false
is_of i (PreviousClose instrument price) = eqb instrument i
is_of i (Trade time instrument price lots) = eqb instrument i
is_of i (Quote time instrument sides bid offer) = eqb instrument i
is_of i (End count) = false

-- from `since` up to `until`, in the state s with the fields to come. A field of the instrument that counts at `since` changes the state alone; one
-- that comes later ends the span and begins the next; one at `until` or behind it changes nothing any more
unfoldable pub spans_from : ℕ → ℕ → ℕ → Indicator → List Field → List PricedSpan
spans_from i until since s [] = standing s since until ∷ []
spans_from i until since s (f ∷ fs) =
    cond (is_of i f)
    (cond (leb (stamp f) since) (spans_from i until since (taken i s f) fs)
    (cond (leb until (stamp f)) (standing s since until ∷ [])
    (standing s since (stamp f) ∷ spans_from i until (stamp f) (taken i s f) fs)))
    (spans_from i until since s fs)

-- the spans of instrument i over the window that starts at start. The day begins with no reference and an empty book
abbrev pub spans_of : ℕ → ℕ → List Field → List PricedSpan
spans_of i start fs = spans_from i (start + window_length) start empty fs

-- price times length of span, added up
unfoldable pub products_of : List PricedSpan → ℤ
products_of [] = pos 0
products_of (x ∷ xs) = pos (x.to - x.from) *ℤ x.price +ℤ products_of xs
