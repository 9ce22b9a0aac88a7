-- Any two outcomes that the contract permits are equal: the answer, and every byte of the buffer. Assumes nothing.
use Rattle.promise.specs.Once.{Once}
use Rattle.promise.specs.laws.Once.{once}
use Rattle.field.specs.laws.Said.{written_once}
use Rattle.tape_writer.proofs.sheet_to_tape.Reads as sheet-to-tape
use Rattle.tape_writer.proofs.sheet_to_tape.Kinds as sheet-to-tapeK

pub sheet-to-tape-once : Once 2 sheet-to-tapeK.ps sheet-to-tapeK.r sheet-to-tape.Post (λ κs x s. x)
sheet-to-tape-once κs a x y s t p q = written_once p.0 q.0

pub sheet-to-tape-leaves-once : Once 2 sheet-to-tapeK.ps sheet-to-tapeK.r sheet-to-tape.Post (λ κs x s. s.1.0.now)
sheet-to-tape-leaves-once κs a x y s t p q = once p.1 q.1
