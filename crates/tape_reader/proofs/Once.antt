-- Any two outcomes that the contract permits are equal: the answer, and every byte of the buffer. Assumes nothing.
use Rattle.promise.specs.Once.{Once}
use Rattle.promise.specs.laws.Once.{once}
use Rattle.field.specs.laws.Said.{written_once}
use Rattle.tape_reader.proofs.tape_to_sheet.Reads as tape-to-sheet
use Rattle.tape_reader.proofs.tape_to_sheet.Kinds as tape-to-sheetK

pub tape-to-sheet-once : Once 2 tape-to-sheetK.ps tape-to-sheetK.r tape-to-sheet.Post (λ κs x s. x)
tape-to-sheet-once κs a x y s t p q = written_once p.0 q.0

pub tape-to-sheet-leaves-once : Once 2 tape-to-sheetK.ps tape-to-sheetK.r tape-to-sheet.Post (λ κs x s. s.1.0.now)
tape-to-sheet-leaves-once κs a x y s t p q = once p.1 q.1
