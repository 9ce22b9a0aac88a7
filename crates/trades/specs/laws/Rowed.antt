-- Every metal and every instrument that is admitted has its row in the tables: the ranges that a sheet is held to and the tables that price it
-- are of one size.
--     rowed            the metal of a right header has a row: its step is above 0, its windows lie in the day
--     accepted-step    every contract of an accepted sheet has a step above 0
--     lined            a right instrument has a row
-- proofs/Accepted has them of an accepted sheet.
-- Assumes nothing.
use Rattle.std.specs.Prelude.{ℕ, ◌+◌, ◌≤◌, ◌<◌, ◌≡◌, Bool, true, List, leb, length}
use Rattle.std.proofs.Common.{arith, leb→le}
use Rattle.field.specs.declared.Field.{Field}
use Rattle.field.specs.declared.Field.TheVariants.{Header, PreviousClose, Trade, Quote, End}
use Rattle.field.specs.Judging.{third_of, header_right}
use Rattle.field.proofs.Sound.{metal-range}
use Rattle.market.specs.declared.Metal.{Metal}
use Rattle.market.specs.Market.{metals, metal_of, instruments, step_of, window_length}
use Rattle.market.specs.laws.Rows.{window-length}
use Rattle.market.specs.laws.Rules.{step-some}
use Rattle.market.specs.laws.Table.{both, both_left, both_right, from_one}
use Rattle.sheet.specs.declared.Day.{Day}
use Rattle.sheet.specs.Judgement.{accepts, judge_sheet}
use Rattle.sheet.specs.laws.Accepted.{accepted-right}

-- ---- metals

-- a row is there, with a step of a cent or more, and both windows end within the 86,400,000 milliseconds of the day
pub record Rowed (m : ℕ) : Type 0 where
  pub counted : 1 ≤ m
  pub there : m ≤ length metals
  pub step : 1 ≤ (metal_of m).step
  pub spread : (metal_of m).spread + window_length ≤ 86400000
  pub anchor : (metal_of m).anchor + window_length ≤ 86400000

-- the same of a row, as one test that is computed over the table
abbrev in_day : Metal → Bool
in_day r = both (leb (r.spread + 300000) 86400000) (leb (r.anchor + 300000) 86400000)

abbrev usable : Metal → Bool
usable r = both (leb 1 r.step) (in_day r)

pub rowed : (m marks third : ℕ) → header_right m marks third ≡ true → Rowed m
unfolding metal_of
rowed m marks third e =
    let range = metal-range m marks third e in
    let r = metal_of m in
    let t = from_one (λ m. usable (metal_of m)) 5 m tt range.0 (omega (arith, range.1)) in
    let windows = both_right (leb 1 r.step) (in_day r) t in
    record {
      counted = range.0;
      there = range.1;
      step = leb→le 1 r.step (both_left (leb 1 r.step) (in_day r) t);
      spread = rw window-length (leb→le (r.spread + 300000) 86400000 (both_left (leb (r.spread + 300000) 86400000) (leb (r.anchor + 300000) 86400000) windows));
      anchor = rw window-length (leb→le (r.anchor + 300000) 86400000 (both_right (leb (r.spread + 300000) 86400000) (leb (r.anchor + 300000) 86400000) windows));
    }

-- and every contract of an accepted sheet is rounded to a step above 0
pub accepted-step : (s : List ℕ) (day : Day) (c : ℕ) → judge_sheet s ≡ accepts day → 0 < step_of day.metal c
accepted-step s day c a = let r = metal-range day.metal day.marks (third_of day.form) (accepted-right s day a) in step-some day.metal c r.0 r.1

-- ---- instruments

-- the instrument of a field has a row; a header and an end have none
abbrev pub Lined : Field → Type 0
Lined (Header metal marks form) = Unit {0}
Lined (PreviousClose instrument price) = instrument < length instruments
Lined (Trade time instrument price lots) = instrument < length instruments
Lined (Quote time instrument sides bid offer) = instrument < length instruments
Lined (End count) = Unit {0}

-- as many rows as there are numbers up to 11
pub lined : (i : ℕ) → i ≤ 11 → i < length instruments
lined i h = omega (arith, h, leb→le 12 (length instruments) tt)
