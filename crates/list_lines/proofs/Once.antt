-- Any two texts that a function's contract permits hold the same bytes: those before with lines behind them. Assumes nothing.
use Rattle.promise.specs.Once.{Once}
use Rattle.promise.specs.laws.Once.{once}
use Rattle.text.specs.Held.{held_by}
use Rattle.list_lines.proofs.put_refusal.Reads as put-refusal
use Rattle.list_lines.proofs.put_refusal.Kinds as put-refusalK
use Rattle.list_lines.proofs.put_lines.Reads as put-lines
use Rattle.list_lines.proofs.put_lines.Kinds as put-linesK

pub put-refusal-once : Once 0 put-refusalK.ps put-refusalK.r put-refusal.Post (λ κs x s. held_by x)
put-refusal-once κs a x y s t p q = once p q

pub put-lines-once : Once 0 put-linesK.ps put-linesK.r put-lines.Post (λ κs x s. held_by x)
put-lines-once κs a x y s t p q = once p q
