-- RULES 9: what is said of a rounded price. It is a close, or 14.
use Rattle.std.specs.Prelude.{cond, ◌&&◌, ℕ, leb, ℤ, pos, negsuc, Option, Some, None}

-- a close in cents, or a number of RULES 9
pub data Said : Type 0 where
  close : ℕ → Said
  refused : ℕ → Said

-- what each answer of the code says
abbrev pub means : Option ℕ → Said
means (Some m) = close m
means None = refused 14

-- RULES 9, 14: a number from 1 to 99,999,999 is a close, and no other is. Where D or u is 0, `round` gives 0 or less, so that this is 14 too
unfoldable pub close_of : ℤ → Said
close_of (pos m) = cond (leb 1 m && leb m 99999999) (close m) (refused 14)
close_of (negsuc m) = refused 14
