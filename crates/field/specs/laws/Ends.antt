-- The two ends of a price's range, and a quote with both sides judged by them. The rules are Judging's, and proofs/Ends proves that these say the same.
use Rattle.std.specs.Prelude.{ℕ, Bool, true, false, eqb, pos, neg_ℤ}
use Rattle.std.specs.Int.Signed.{le_z}
use Rattle.field.specs.declared.Price.{Price}
use Rattle.field.specs.Judging.{both, instrument_right}

-- by whether the instrument is the outright
abbrev pub lowest_of : Bool → Price
lowest_of true = record { cents = pos 1 }
lowest_of false = record { cents = neg_ℤ (pos 9999999) }

abbrev pub highest_of : Bool → Price
highest_of true = record { cents = pos 99999999 }
highest_of false = record { cents = pos 9999999 }

unfoldable pub lowest_price : ℕ → Price
lowest_price instrument = lowest_of (eqb instrument 0)

unfoldable pub highest_price : ℕ → Price
highest_price instrument = highest_of (eqb instrument 0)

abbrev pub both_sides_right : ℕ → Price → Price → Bool
both_sides_right instrument bid offer =
    both (instrument_right instrument)
    (both (le_z (lowest_price instrument).cents bid.cents)
    (both (le_z bid.cents offer.cents) (le_z offer.cents (highest_price instrument).cents)))
