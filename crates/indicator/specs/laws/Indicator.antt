-- Words for the state over a list of fields, by which its laws are stated: proofs/State has the laws.
--     Rising           previous closes before records, whose times never fall
--     Counted, Parted  the fields that count at a time, and those that come later
--     told_by          13's words: a previous close, or a trade of the instrument by then
--     latest_quote     the book's words: the latest quote record by then
use Rattle.std.specs.Prelude.{ℕ, suc, ◌≤◌, ◌≡◌, Bool, false, leb, eqb, Option}
use Rattle.std.proofs.Math.Bool.{true, cond}
use mathlib.Core.List.{List, [], ◌∷◌, ◌++◌}
use Rattle.field.specs.declared.Price.{Price}
use Rattle.field.specs.declared.Field.{Field}
use Rattle.field.specs.declared.Field.TheVariants.{Header, PreviousClose, Trade, Quote, End}
use Rattle.field.specs.Judging.{has_bid, has_offer}
use Rattle.indicator.specs.declared.Indicator.{Indicator}
use Rattle.indicator.specs.Indicator.{side_of, taken, stamp}

-- previous closes before records, whose times never fall, from t on
abbrev pub Rising : ℕ → List Field → Type 0
Rising t [] = Unit {0}
Rising t (Header metal marks form ∷ fs) = (t ≡ 0) × Rising t fs
Rising t (PreviousClose instrument price ∷ fs) = (t ≡ 0) × Rising t fs
Rising t (Trade time instrument price lots ∷ fs) = (t ≤ time) × Rising time fs
Rising t (Quote time instrument sides bid offer ∷ fs) = (t ≤ time) × Rising time fs
Rising t (End count ∷ fs) = Rising t fs

-- every field of the list counts at t
abbrev pub Counted : ℕ → List Field → Type 0
Counted t [] = Unit {0}
Counted t (f ∷ fs) = (stamp f ≤ t) × Counted t fs

-- every field of the list taken
unfoldable pub all_taken : ℕ → Indicator → List Field → Indicator
all_taken i s [] = s
all_taken i s (f ∷ fs) = all_taken i (taken i s f) fs

-- those that count at t, then those that come later
pub record Parted (t : ℕ) (fs : List Field) : Type 0 where
  pub early : List Field
  pub later : List Field
  pub whole : fs ≡ early ++ later
  pub counted : Counted t early
  pub rising : Rising (suc t) later

-- a previous close of instrument i, or a trade of it at or before t
unfoldable pub told_by : ℕ → ℕ → List Field → Bool
told_by i t [] = false
told_by i t (Header metal marks form ∷ fs) = told_by i t fs
told_by i t (PreviousClose instrument price ∷ fs) = cond (eqb instrument i) true (told_by i t fs)
told_by i t (Trade time instrument price lots ∷ fs) = cond (eqb instrument i) (cond (leb time t) true (told_by i t fs)) (told_by i t fs)
told_by i t (Quote time instrument sides bid offer ∷ fs) = told_by i t fs
told_by i t (End count ∷ fs) = told_by i t fs

-- a quote record by its sides, or none
pub data Latest : Type 0 where
  none : Latest
  quoted : ℕ → Price → Price → Latest

-- the second where it is there, else the first
abbrev pub later_of : Latest → Latest → Latest
later_of q none = q
later_of q (quoted sides bid offer) = quoted sides bid offer

-- the latest quote record of instrument i that is stamped at or before t
unfoldable pub latest_quote : ℕ → ℕ → List Field → Latest
latest_quote i t [] = none
latest_quote i t (Header metal marks form ∷ fs) = latest_quote i t fs
latest_quote i t (PreviousClose instrument price ∷ fs) = latest_quote i t fs
latest_quote i t (Trade time instrument price lots ∷ fs) = latest_quote i t fs
latest_quote i t (Quote time instrument sides bid offer ∷ fs) = later_of (cond (eqb instrument i) (cond (leb time t) (quoted sides bid offer) none) none) (latest_quote i t fs)
latest_quote i t (End count ∷ fs) = latest_quote i t fs

-- the two sides
pub record Book : Type 0 where
  pub bid : Option Price
  pub offer : Option Price

abbrev pub book_of : Indicator → Book
book_of s = record { bid = s.bid; offer = s.offer }

-- the sides that a quote record has, both absent where it has none; where there is no record, those before
abbrev pub book_by : Book → Latest → Book
book_by before none = before
book_by before (quoted sides bid offer) = record { bid = side_of (has_bid sides) bid; offer = side_of (has_offer sides) offer }
