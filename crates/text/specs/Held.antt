-- A text that is put together piece by piece: what it holds, or that a piece did not fit.
use Rattle.std.specs.Prelude.{ℕ, ◌+◌, ◌-◌, ◌≡◌, cond, List, ◌++◌, leb, length, take, replicate, Option, Some, None}
use Rattle.text.specs.Over.{over, put_place, put_buffer}
use Rattle.text.specs.declared.Text.{Text}

-- the bytes, or that there were more than 512
pub data Held : Type 0 where
  Has : List ℕ → Held
  TooLong : Held

-- s, where it has at most 512 bytes
unfoldable pub fit : List ℕ → Held
fit s = cond (leb (length s) 512) (Has s) TooLong

-- what a text holds
unfoldable pub held : Text → Held
held t = cond (leb t.len 512) (Has (take t.len t.store)) TooLong

-- what is held by a text that was put together, where there is one
abbrev pub held_by : Option Text → Option Held
held_by (Some t) = Some (held t)
held_by None = None

-- what there is of it: the bytes, and no text where a piece did not fit
abbrev pub kept : Held → Option Held
kept (Has s) = Some (Has s)
kept TooLong = None

-- bytes put behind what is held
infixl 20 ◌⊕◌
unfoldable pub ◌⊕◌ : Held → List ℕ → Held
Has a ⊕ s = fit (a ++ s)
TooLong ⊕ s = TooLong

-- the text of no bytes
abbrev pub empty_text : Text
empty_text = record { store = replicate 512 0; len = 0 }

-- a text with the bytes put behind it, where they fit
abbrev pub added : Text → List ℕ → Option Text
added t s =
    cond (leb t.len 512)
    (cond (leb (length s) (512 - t.len)) (Some (record { store = over t.store t.len s; len = t.len + length s })) None)
    None

-- the text, every byte of it, and what it holds
pub record Added (t : Text) (s : List ℕ) (r : Option Text) : Type 0 where
  pub is : r ≡ added t s
  pub holds : held_by r ≡ kept (held t ⊕ s)

-- the place behind a whole text put into a buffer
abbrev pub place_after : List ℕ → ℕ → Held → Option ℕ
place_after b at (Has s) = put_place b at s
place_after b at TooLong = None

-- the buffer with it, or as it was
abbrev pub buffer_after : List ℕ → ℕ → Held → List ℕ
buffer_after b at (Has s) = put_buffer b at s
buffer_after b at TooLong = b
