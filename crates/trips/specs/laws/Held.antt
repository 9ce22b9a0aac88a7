-- Values that earn no number fit their bytes. Assumes nothing.
use Rattle.std.specs.Prelude.{◌≤◌, ◌≡◌, ℤ, pos, negsuc, nat_abs}
use Rattle.std.proofs.Common.{arith}
use Rattle.std.specs.Int.Signed.{mag}
use Rattle.field.specs.declared.Price.{Price}
use Rattle.field.specs.declared.Before.{Before}
use Rattle.field.specs.declared.Field.{Field}
use Rattle.field.specs.declared.Field.TheVariants.{Header, PreviousClose, Trade, Quote, End}
use Rattle.field.specs.Judging.{fine, third_of, judge}
use Rattle.field.proofs.Sound.{Sound, sound, marks-range, price-size, sides-size}
use Rattle.trips.specs.Held.{HeldPrice, Held, Counted}

-- a price of so few cents fits
small-held : (price : Price) → nat_abs price.cents ≤ 99999999 → HeldPrice price
small-held price h = record { sfits = omega (arith, mag-natAbs price.cents) }
  where
    mag-natAbs : (z : ℤ) → mag z ≤ nat_abs z
    mag-natAbs (pos n) = omega arith
    mag-natAbs (negsuc n) = omega arith

-- values that earn no number fit their bytes, whatever came before them
pub held : (before : Before) (f : Field) → Counted f → judge before f ≡ fine → Held f
held before f c e = by_field f c (sound before f e)
  where
    by_field : (f : Field) → Counted f → Sound before f → Held f
    by_field (Header metal marks form) c h = omega (arith, (marks-range metal marks (third_of form) h).0)
    by_field (PreviousClose instrument price) c h = small-held price (price-size instrument price h.1)
    by_field (Trade time instrument price lots) c h = (omega (arith, h.stamp.in-day), small-held price (price-size instrument price h.price-in), omega (arith, h.most))
    by_field (Quote time instrument sides bid offer) c h =
        let size = sides-size before time instrument sides bid offer h in
        (omega (arith, h.stamp.in-day), small-held bid size.0, small-held offer size.1)
    by_field (End count) c h = c
