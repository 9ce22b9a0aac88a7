-- Any two results that a function's contract permits are equal. Assumes nothing.
use Rattle.promise.specs.Once.{Once}
use Rattle.sheet.specs.laws.Judgement.{judged-once}
use Rattle.sheet.proofs.judge_sheet.Reads as judge-sheet
use Rattle.sheet.proofs.judge_sheet.Kinds as judge-sheetK

pub judge-sheet-once : Once 1 judge-sheetK.ps judge-sheetK.r judge-sheet.Post (λ κs x s. x)
judge-sheet-once κs a x y s t p q = judged-once p q
