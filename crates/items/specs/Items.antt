-- TAPE 1: a text cut at its line feeds, a line cut at its commas: the pieces between two bytes `stop`.
use Rattle.std.specs.Prelude.{ℕ, ◌+◌, cond, List, [], ◌∷◌, ◌++◌, eqb, length, drop}

-- the bytes before the first stop, all where there is none
unfoldable pub first : ℕ → List ℕ → List ℕ
first stop [] = []
first stop (b ∷ s) = cond (eqb b stop) [] (b ∷ first stop s)

-- the pieces behind the first stop
unfoldable pub rest : ℕ → List ℕ → List (List ℕ)
rest stop [] = []
rest stop (b ∷ s) = cond (eqb b stop) (first stop s ∷ rest stop s) (rest stop s)

-- the pieces: one more than there are stops
abbrev pub pieces : ℕ → List ℕ → List (List ℕ)
pieces stop s = first stop s ∷ rest stop s

-- a piece and more of them, with stops between
abbrev pub joined_to : ℕ → List ℕ → List (List ℕ) → List ℕ
joined_to stop i [] = i
joined_to stop i (j ∷ is) = i ++ stop ∷ joined_to stop j is

abbrev pub joined : ℕ → List (List ℕ) → List ℕ
joined stop [] = []
joined stop (i ∷ is) = joined_to stop i is

-- the items of a line
abbrev pub items : List ℕ → List (List ℕ)
items s = pieces 44 s

-- where the piece that starts at a place ends
unfoldable pub end_of : ℕ → List ℕ → ℕ → ℕ
end_of stop s from = from + length (first stop (drop from s))
