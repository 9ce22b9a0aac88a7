-- Any two outcomes that a function's contract permits are equal: the answer, and all lent memory. Assumes nothing.
use Rattle.promise.specs.Once.{Once}
use Rattle.promise.specs.laws.Once.{once}
use Rattle.bliskoru.proofs.bliskoru_list.Reads as list
use Rattle.bliskoru.proofs.bliskoru_list.Kinds as listK
use Rattle.bliskoru.proofs.bliskoru_judge.Reads as judge
use Rattle.bliskoru.proofs.bliskoru_judge.Kinds as judgeK
use Rattle.bliskoru.proofs.bliskoru_answers.Reads as answers
use Rattle.bliskoru.proofs.bliskoru_answers.Kinds as answersK
use Rattle.bliskoru.proofs.bliskoru_tape_to_sheet.Reads as tape-to-sheet
use Rattle.bliskoru.proofs.bliskoru_tape_to_sheet.Kinds as tape-to-sheetK
use Rattle.bliskoru.proofs.bliskoru_sheet_to_tape.Reads as sheet-to-tape
use Rattle.bliskoru.proofs.bliskoru_sheet_to_tape.Kinds as sheet-to-tapeK
use Rattle.bliskoru.proofs.bliskoru_to_new_header.Reads as to-new-header
use Rattle.bliskoru.proofs.bliskoru_to_new_header.Kinds as to-new-headerK
use Rattle.bliskoru.proofs.bliskoru_to_old_header.Reads as to-old-header
use Rattle.bliskoru.proofs.bliskoru_to_old_header.Kinds as to-old-headerK
use Rattle.bliskoru.proofs.bliskoru_read.Reads as read
use Rattle.bliskoru.proofs.bliskoru_read.Kinds as readK
use Rattle.bliskoru.proofs.bliskoru_write_header.Reads as write-header
use Rattle.bliskoru.proofs.bliskoru_write_header.Kinds as write-headerK
use Rattle.bliskoru.proofs.bliskoru_write_long_header.Reads as write-long-header
use Rattle.bliskoru.proofs.bliskoru_write_long_header.Kinds as write-long-headerK
use Rattle.bliskoru.proofs.bliskoru_write_previous_close.Reads as write-previous-close
use Rattle.bliskoru.proofs.bliskoru_write_previous_close.Kinds as write-previous-closeK
use Rattle.bliskoru.proofs.bliskoru_write_trade.Reads as write-trade
use Rattle.bliskoru.proofs.bliskoru_write_trade.Kinds as write-tradeK
use Rattle.bliskoru.proofs.bliskoru_write_quote.Reads as write-quote
use Rattle.bliskoru.proofs.bliskoru_write_quote.Kinds as write-quoteK
use Rattle.bliskoru.proofs.bliskoru_write_end.Reads as write-end
use Rattle.bliskoru.proofs.bliskoru_write_end.Kinds as write-endK

pub list-once : Once 2 listK.ps listK.r list.Post (λ κs x s. x)
list-once κs a x y s t p q = once p.0 q.0

pub list-leaves-once : Once 2 listK.ps listK.r list.Post (λ κs x s. s.1.0.now)
list-leaves-once κs a x y s t p q = once p.1 q.1

pub judge-once : Once 2 judgeK.ps judgeK.r judge.Post (λ κs x s. x)
judge-once κs a x y s t p q = once p.0 q.0

pub judge-place-once : Once 2 judgeK.ps judgeK.r judge.Post (λ κs x s. s.1.0.now)
judge-place-once κs a x y s t p q = once p.1 q.1

pub answers-once : Once 3 answersK.ps answersK.r answers.Post (λ κs x s. x)
answers-once κs a x y s t p q = once p.0 q.0

pub answers-rows-once : Once 3 answersK.ps answersK.r answers.Post (λ κs x s. s.1.0.now)
answers-rows-once κs a x y s t p q = once p.1.0 q.1.0

pub answers-place-once : Once 3 answersK.ps answersK.r answers.Post (λ κs x s. s.1.1.0.now)
answers-place-once κs a x y s t p q = once p.1.1 q.1.1

pub tape-to-sheet-once : Once 4 tape-to-sheetK.ps tape-to-sheetK.r tape-to-sheet.Post (λ κs x s. x)
tape-to-sheet-once κs a x y s t p q = once p.0 q.0

pub tape-to-sheet-leaves-once : Once 4 tape-to-sheetK.ps tape-to-sheetK.r tape-to-sheet.Post (λ κs x s. s.1.0.now)
tape-to-sheet-leaves-once κs a x y s t p q = once p.1.0 q.1.0

pub tape-to-sheet-length-once : Once 4 tape-to-sheetK.ps tape-to-sheetK.r tape-to-sheet.Post (λ κs x s. s.1.1.0.now)
tape-to-sheet-length-once κs a x y s t p q = once p.1.1.0 q.1.1.0

pub tape-to-sheet-place-once : Once 4 tape-to-sheetK.ps tape-to-sheetK.r tape-to-sheet.Post (λ κs x s. s.1.1.1.0.now)
tape-to-sheet-place-once κs a x y s t p q = once p.1.1.1 q.1.1.1

pub sheet-to-tape-once : Once 4 sheet-to-tapeK.ps sheet-to-tapeK.r sheet-to-tape.Post (λ κs x s. x)
sheet-to-tape-once κs a x y s t p q = once p.0 q.0

pub sheet-to-tape-leaves-once : Once 4 sheet-to-tapeK.ps sheet-to-tapeK.r sheet-to-tape.Post (λ κs x s. s.1.0.now)
sheet-to-tape-leaves-once κs a x y s t p q = once p.1.0 q.1.0

pub sheet-to-tape-length-once : Once 4 sheet-to-tapeK.ps sheet-to-tapeK.r sheet-to-tape.Post (λ κs x s. s.1.1.0.now)
sheet-to-tape-length-once κs a x y s t p q = once p.1.1.0 q.1.1.0

pub sheet-to-tape-place-once : Once 4 sheet-to-tapeK.ps sheet-to-tapeK.r sheet-to-tape.Post (λ κs x s. s.1.1.1.0.now)
sheet-to-tape-place-once κs a x y s t p q = once p.1.1.1 q.1.1.1

pub to-new-header-once : Once 4 to-new-headerK.ps to-new-headerK.r to-new-header.Post (λ κs x s. x)
to-new-header-once κs a x y s t p q = once p.0 q.0

pub to-new-header-leaves-once : Once 4 to-new-headerK.ps to-new-headerK.r to-new-header.Post (λ κs x s. s.1.0.now)
to-new-header-leaves-once κs a x y s t p q = once p.1.0 q.1.0

pub to-new-header-length-once : Once 4 to-new-headerK.ps to-new-headerK.r to-new-header.Post (λ κs x s. s.1.1.0.now)
to-new-header-length-once κs a x y s t p q = once p.1.1.0 q.1.1.0

pub to-new-header-place-once : Once 4 to-new-headerK.ps to-new-headerK.r to-new-header.Post (λ κs x s. s.1.1.1.0.now)
to-new-header-place-once κs a x y s t p q = once p.1.1.1 q.1.1.1

pub to-old-header-once : Once 4 to-old-headerK.ps to-old-headerK.r to-old-header.Post (λ κs x s. x)
to-old-header-once κs a x y s t p q = once p.0 q.0

pub to-old-header-leaves-once : Once 4 to-old-headerK.ps to-old-headerK.r to-old-header.Post (λ κs x s. s.1.0.now)
to-old-header-leaves-once κs a x y s t p q = once p.1.0 q.1.0

pub to-old-header-length-once : Once 4 to-old-headerK.ps to-old-headerK.r to-old-header.Post (λ κs x s. s.1.1.0.now)
to-old-header-length-once κs a x y s t p q = once p.1.1.0 q.1.1.0

pub to-old-header-place-once : Once 4 to-old-headerK.ps to-old-headerK.r to-old-header.Post (λ κs x s. s.1.1.1.0.now)
to-old-header-place-once κs a x y s t p q = once p.1.1.1 q.1.1.1

pub read-once : Once 3 readK.ps readK.r read.Post (λ κs x s. x)
read-once κs a x y s t p q = once p.0 q.0

pub read-values-once : Once 3 readK.ps readK.r read.Post (λ κs x s. s.1.1.0.now)
read-values-once κs a x y s t p q = once p.1.0 q.1.0

pub read-place-once : Once 3 readK.ps readK.r read.Post (λ κs x s. s.1.1.1.0.now)
read-place-once κs a x y s t p q = once p.1.1 q.1.1

pub write-header-once : Once 2 write-headerK.ps write-headerK.r write-header.Post (λ κs x s. x)
write-header-once κs a x y s t p q = once p.0 q.0

pub write-header-leaves-once : Once 2 write-headerK.ps write-headerK.r write-header.Post (λ κs x s. s.0.now)
write-header-leaves-once κs a x y s t p q = once p.1.0 q.1.0

pub write-header-place-once : Once 2 write-headerK.ps write-headerK.r write-header.Post (λ κs x s. s.1.1.1.1.0.now)
write-header-place-once κs a x y s t p q = once p.1.1 q.1.1

pub write-long-header-once : Once 2 write-long-headerK.ps write-long-headerK.r write-long-header.Post (λ κs x s. x)
write-long-header-once κs a x y s t p q = once p.0 q.0

pub write-long-header-leaves-once : Once 2 write-long-headerK.ps write-long-headerK.r write-long-header.Post (λ κs x s. s.0.now)
write-long-header-leaves-once κs a x y s t p q = once p.1.0 q.1.0

pub write-long-header-place-once : Once 2 write-long-headerK.ps write-long-headerK.r write-long-header.Post (λ κs x s. s.1.1.1.1.1.0.now)
write-long-header-place-once κs a x y s t p q = once p.1.1 q.1.1

pub write-previous-close-once : Once 2 write-previous-closeK.ps write-previous-closeK.r write-previous-close.Post (λ κs x s. x)
write-previous-close-once κs a x y s t p q = once p.0 q.0

pub write-previous-close-leaves-once : Once 2 write-previous-closeK.ps write-previous-closeK.r write-previous-close.Post (λ κs x s. s.0.now)
write-previous-close-leaves-once κs a x y s t p q = once p.1.0 q.1.0

pub write-previous-close-place-once : Once 2 write-previous-closeK.ps write-previous-closeK.r write-previous-close.Post (λ κs x s. s.1.1.1.1.0.now)
write-previous-close-place-once κs a x y s t p q = once p.1.1 q.1.1

pub write-trade-once : Once 2 write-tradeK.ps write-tradeK.r write-trade.Post (λ κs x s. x)
write-trade-once κs a x y s t p q = once p.0 q.0

pub write-trade-leaves-once : Once 2 write-tradeK.ps write-tradeK.r write-trade.Post (λ κs x s. s.0.now)
write-trade-leaves-once κs a x y s t p q = once p.1.0 q.1.0

pub write-trade-place-once : Once 2 write-tradeK.ps write-tradeK.r write-trade.Post (λ κs x s. s.1.1.1.1.1.1.0.now)
write-trade-place-once κs a x y s t p q = once p.1.1 q.1.1

pub write-quote-once : Once 2 write-quoteK.ps write-quoteK.r write-quote.Post (λ κs x s. x)
write-quote-once κs a x y s t p q = once p.0 q.0

pub write-quote-leaves-once : Once 2 write-quoteK.ps write-quoteK.r write-quote.Post (λ κs x s. s.0.now)
write-quote-leaves-once κs a x y s t p q = once p.1.0 q.1.0

pub write-quote-place-once : Once 2 write-quoteK.ps write-quoteK.r write-quote.Post (λ κs x s. s.1.1.1.1.1.1.1.0.now)
write-quote-place-once κs a x y s t p q = once p.1.1 q.1.1

pub write-end-once : Once 2 write-endK.ps write-endK.r write-end.Post (λ κs x s. x)
write-end-once κs a x y s t p q = once p.0 q.0

pub write-end-leaves-once : Once 2 write-endK.ps write-endK.r write-end.Post (λ κs x s. s.0.now)
write-end-leaves-once κs a x y s t p q = once p.1.0 q.1.0

pub write-end-place-once : Once 2 write-endK.ps write-endK.r write-end.Post (λ κs x s. s.1.1.1.0.now)
write-end-place-once κs a x y s t p q = once p.1.1 q.1.1
