-- Bytes put into a buffer from a place on, all of them or none.
use Rattle.std.specs.Prelude.{ℕ, ◌+◌, Bool, cond, List, ◌++◌, leb, length, take, drop, Option, Some, None}

-- a buffer with the bytes in the place of as many of its own
abbrev pub over : List ℕ → ℕ → List ℕ → List ℕ
over b at s = take at b ++ s ++ drop (at + length s) b

-- there is room for them behind the place
abbrev pub fits : List ℕ → ℕ → List ℕ → Bool
fits b at s = leb (at + length s) (length b)

-- the place behind them, or no room
abbrev pub put_place : List ℕ → ℕ → List ℕ → Option ℕ
put_place b at s = cond (fits b at s) (Some (at + length s)) None

-- the buffer with them, or as it was
abbrev pub put_buffer : List ℕ → ℕ → List ℕ → List ℕ
put_buffer b at s = cond (fits b at s) (over b at s) b
