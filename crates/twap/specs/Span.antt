-- RULES 6: what a contract's TWAP needs of its instrument over its window.
use Rattle.std.specs.Prelude.{ℕ, ◌<◌, cond, List, ◌≡◌, ℤ, length, get_or, Option, Some, None}
use Rattle.field.specs.declared.Field.{Field}
use Rattle.market.specs.Market.{start_of}
use Rattle.sheet.specs.declared.Day.{Day}
use Rattle.sheet.specs.Judgement.{accepts, judge_sheet}
use Rattle.indicator.specs.Indicator.{has_reference, twap_sum}

-- no indicator at the window's first millisecond; or the indicator's sum
pub data Span : Type 0 where
  missing : Span
  sum : ℤ → Span

-- missing where the instrument has no reference at the window's first millisecond (RULES 9, 13); else the sum of its indicator over the window
unfoldable pub span_of : ℕ → ℕ → List Field → Span
span_of i start fs = cond (has_reference i start fs) (sum (twap_sum i start fs)) missing

-- a sheet that is accepted, with its day
pub record Accepted (s : List ℕ) : Type 0 where
  pub day : Day
  pub judged : judge_sheet s ≡ accepts day

-- ---- what the code's answers say

-- what each says
abbrev pub span_says : Option ℤ → Span
span_says None = missing
span_says (Some total) = sum total

-- a list of answers tells of each instrument, 0 to 11, the sum over its window
pub record Sums (metal : ℕ) (fs : List Field) (r : List (Option ℤ)) : Type 0 where
  pub long : length r ≡ 12
  pub each : (i : ℕ) → i < 12 → span_says (get_or r i None) ≡ span_of i (start_of metal i) fs
