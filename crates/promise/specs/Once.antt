-- What it is for a contract to leave nothing open: any two outcomes that it permits are equal, over the contract `Post` that the compiler
-- generated of a function, and a view of the result and the lent buffers.
use Rattle.std.specs.Prelude.{ℕ, ◌≡◌, List}
use borrow.Fn.Kinds.{Out, Dens, res_t, ended_of, ParamKind, ResultKind}
use contract.Lifetimes.{Lfts}
use denote.Triple.Clauses.{AtExit}

-- n lifetimes, the kinds ps of the parameters and r of the result; x and y are results, s and t what the lent buffers hold at exit
abbrev pub Once : (n : ℕ) (ps : List (ParamKind n)) (r : ResultKind n) {Seen : Type 0} → Out n ps r → ((κs : Lfts n) → (res_t r κs).Denot → AtExit (ended_of n ps r) κs → Seen) → Type 0
Once n ps r Post view =
    (κs : Lfts n) (a : Dens κs ps) (x y : (res_t r κs).Denot) (s t : AtExit (ended_of n ps r) κs) →
    Post κs a x s → Post κs a y t → view κs x s ≡ view κs y t
