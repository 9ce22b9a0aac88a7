-- `six_answers::price_all` meets its contract: what is known before each contract stands as the definition has it. Assumes nothing.
use Rattle.six_answers.specs.laws.Ready.{figures_by}
use Rattle.six_answers.specs.laws.State.{Stands}
use Rattle.six_answers.proofs.price_all.Given as goal

abbrev pub invariant-loop-c : goal.invariant-loop-c
invariant-loop-c l = Stands (figures_by l.sheet l.book) l.known l.six l.c
