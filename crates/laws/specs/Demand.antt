-- RULES 11, the laws as they are stated: with 3M's outright prices lifted by whole steps every priced contract is lifted by as much, its method
-- and lots and all refusals staying; with a spread turned round the six answers stay; the contract that 3M is has 3M's answer. Lift, Turning and Named
-- prove what stands here.
--     lifted, ShiftLaw     a sheet with 3M lifted, and the first law
--     turned, TurnLaw      a sheet with one spread turned round, and the second law;  TwiceLaw    turned twice it is as it was
--     BarredLaw            a barred spread turned round;  NamedLaw    3M a third Wednesday
use Rattle.std.specs.Prelude.{ℕ, ◌-◌, ◌^◌, ◌≤◌, ◌<◌, ◌≡◌, true, List, map, ◌⊎◌, ℤ, pos, ◌+ℤ◌, ◌*ℤ◌, get_or}
use Rattle.std.specs.Int.Bits.{bit_xor}
use Rattle.wire.specs.Big.{Bytes}
use Rattle.field.specs.declared.Field.{Field}
use Rattle.field.specs.declared.Field.TheVariants.{Header, PreviousClose, Trade, Quote, End}
use Rattle.field.specs.Judging.{third_of, price_right, side_prices_right}
use Rattle.market.specs.Market.{step_of, 3M, named, barred}
use Rattle.sheet.specs.declared.Day.{Day}
use Rattle.sheet.specs.Fields.{fields_of, encode, Each}
use Rattle.sheet.specs.Judgement.{accepts, judge_sheet}
use Rattle.field.specs.Repriced.{changed, shift_price, shift_field, turn_field}
use Rattle.price_rules.specs.declared.Method.{Method}
use Rattle.price_rules.specs.Closing.{Told, close, refused, six, answers_of}

-- ---- 3M lifted

-- k whole steps of the day's metal, in cents; k may be below zero
abbrev pub steps : Day → ℤ → ℤ
steps day k = pos (step_of day.metal 3M) *ℤ k

-- every 3M outright price lifted by δ cents: its trades, the quote sides that are there, and its previous close
abbrev pub lifted_field : ℤ → Field → Field
lifted_field δ f = changed 0 (shift_field δ) f

unfoldable pub lifted : ℤ → List ℕ → List ℕ
lifted δ s = encode (map (lifted_field δ) (fields_of s))

-- they stay prices: 1 to 99,999,999
abbrev pub Liftable : ℤ → Field → Type 0
Liftable δ (Header metal marks form) = Unit {0}
Liftable δ (PreviousClose instrument price) = instrument ≡ 0 → price_right 0 (shift_price δ price) ≡ true
Liftable δ (Trade time instrument price lots) = instrument ≡ 0 → price_right 0 (shift_price δ price) ≡ true
Liftable δ (Quote time instrument sides bid offer) = instrument ≡ 0 → side_prices_right 0 sides (shift_price δ bid) (shift_price δ offer) ≡ true
Liftable δ (End count) = Unit {0}

-- a contract's answer lifted by δ: the close is, method and lots stay; a refusal stays as it is
pub data Moved (δ : ℤ) : Told → Told → Type 0 where
  lifts : {method : Method} {m m' lots : ℕ} → pos m' ≡ pos m +ℤ δ → Moved δ (close method m lots) (close method m' lots)
  stays : {number lots : ℕ} → Moved δ (refused number lots) (refused number lots)

-- the answer is not 14
abbrev pub InRange : Told → Type 0
InRange (close method m lots) = Unit {0}
InRange (refused number lots) = number ≡ 14 → ⊥

-- the answer of contract c in pricing order
abbrev pub answer_at : List Told → ℕ → Told
answer_at answers c = get_or answers c (refused 15 0)

-- each contract, up to which neither list has a 14, is lifted by δ or refused as before
abbrev pub Moves : ℤ → List Told → List Told → Type 0
Moves δ before after = (c : ℕ) → c < 6 → ((j : ℕ) → j ≤ c → InRange (answer_at before j) × InRange (answer_at after j)) → Moved δ (answer_at before c) (answer_at after c)

-- both sheets are accepted, and the answers of the one are those of the other, lifted
pub record Lifts (δ : ℤ) (s s' : List ℕ) (day : Day) : Type 0 where
  pub accepted : judge_sheet s' ≡ accepts day
  pub before : List Told
  pub after : List Told
  pub was : answers_of s ≡ six day before
  pub is-now : answers_of s' ≡ six day after
  pub moves : Moves δ before after

-- for every accepted sheet, and every whole number of steps that leaves its 3M prices in their range
abbrev pub ShiftLaw : Type 0
ShiftLaw = (s : List ℕ) (day : Day) (k : ℤ) → Bytes s → judge_sheet s ≡ accepts day → Each (Liftable (steps day k)) (fields_of s) → Lifts (steps day k) s (lifted (steps day k) s) day

-- ---- a spread turned round

-- spread i is quoted the other way round: its mark, bit i-1, is changed
abbrev pub turned_marks : ℕ → ℕ → ℕ
turned_marks i marks = bit_xor marks (2 ^ (i - 1))

abbrev pub remarked : (ℕ → ℕ) → Field → Field
remarked m (Header metal marks form) = Header metal (m marks) form
remarked m (PreviousClose instrument price) = PreviousClose instrument price
remarked m (Trade time instrument price lots) = Trade time instrument price lots
remarked m (Quote time instrument sides bid offer) = Quote time instrument sides bid offer
remarked m (End count) = End count

-- its mark changed, its prices negated, and its bids and offers exchanged
abbrev pub turned_field : ℕ → Field → Field
turned_field i f = remarked (turned_marks i) (changed i turn_field f)

unfoldable pub turned : ℕ → List ℕ → List ℕ
turned i s = encode (map (turned_field i) (fields_of s))

abbrev pub turned_day : ℕ → Day → Day
turned_day i day = record { metal = day.metal; marks = turned_marks i day.marks; form = day.form; fields = day.fields }

-- both sheets are accepted, and their six answers are the same
pub record Turns (i : ℕ) (s s' : List ℕ) (day : Day) : Type 0 where
  pub accepted : judge_sheet s' ≡ accepts (turned_day i day)
  pub answers : List Told
  pub was : answers_of s ≡ six day answers
  pub is-now : answers_of s' ≡ six (turned_day i day) answers

-- for every accepted sheet and every spread
abbrev pub TurnLaw : Type 0
TurnLaw = (s : List ℕ) (day : Day) (i : ℕ) → Bytes s → judge_sheet s ≡ accepts day → 1 ≤ i → i ≤ 11 → Turns i s (turned i s) day

-- and turned round once more the sheet is the one that it was
abbrev pub TwiceLaw : Type 0
TwiceLaw = (s : List ℕ) (day : Day) (i : ℕ) → Bytes s → judge_sheet s ≡ accepts day → 1 ≤ i → i ≤ 11 → turned i (turned i s) ≡ s

-- of a spread that the header's third value bars, only the mark changes
abbrev pub BarredLaw : Type 0
BarredLaw = (s : List ℕ) (day : Day) (i : ℕ) → judge_sheet s ≡ accepts day → barred (third_of day.form) i ≡ true → turned i s ≡ encode (map (remarked (turned_marks i)) (fields_of s))

-- ---- 3M a third Wednesday

-- the contract that 3M is has 3M's answer, method, close and lots, or is not reached
abbrev pub NamedLaw : Type 0
NamedLaw = (s : List ℕ) (day : Day) (answers : List Told) (c : ℕ) → c < 6 → answers_of s ≡ six day answers → named (third_of day.form) c ≡ true → (answer_at answers c ≡ answer_at answers 3M) ⊎ (answer_at answers c ≡ refused 15 0)
