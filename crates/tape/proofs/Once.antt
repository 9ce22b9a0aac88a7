-- Any two outcomes that a function's contract permits are equal. Assumes nothing.
use Rattle.promise.specs.Once.{Once}
use Rattle.field.specs.laws.Said.{written_once}
use Rattle.tape.proofs.judge_tape.Reads as judge-tape
use Rattle.tape.proofs.judge_tape.Kinds as judge-tapeK

pub judge-tape-once : Once 1 judge-tapeK.ps judge-tapeK.r judge-tape.Post (λ κs x s. x)
judge-tape-once κs a x y s t p q = written_once p q
