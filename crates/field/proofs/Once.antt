-- Any two results that a function's contract permits are equal. Assumes nothing.
use Rattle.promise.specs.Once.{Once}
use Rattle.promise.specs.laws.Once.{once}
use Rattle.field.specs.laws.Said.{found-once}
use Rattle.field.proofs.judge.require.Reads as require
use Rattle.field.proofs.judge.require.Kinds as requireK
use Rattle.field.proofs.U8FromFault.from.Reads as number_from
use Rattle.field.proofs.U8FromFault.from.Kinds as number_fromK
use Rattle.field.proofs.judge.is_within.Reads as is_Within
use Rattle.field.proofs.judge.is_within.Kinds as is-withinK
use Rattle.field.proofs.judge.judge.Reads as judge
use Rattle.field.proofs.judge.judge.Kinds as judgeK
use Rattle.field.proofs.judge.judge_header.Reads as judge-header
use Rattle.field.proofs.judge.judge_header.Kinds as judge-headerK
use Rattle.field.proofs.judge.judge_previous.Reads as judge-previous
use Rattle.field.proofs.judge.judge_previous.Kinds as judge-previousK
use Rattle.field.proofs.judge.judge_trade.Reads as judge-trade
use Rattle.field.proofs.judge.judge_trade.Kinds as judge-tradeK
use Rattle.field.proofs.judge.judge_quote.Reads as judge-quote
use Rattle.field.proofs.judge.judge_quote.Kinds as judge-quoteK
use Rattle.field.proofs.judge.both_sides_right.Reads as both-sides-right
use Rattle.field.proofs.judge.both_sides_right.Kinds as both-sides-rightK
use Rattle.field.proofs.layout.tag_right.Reads as tag-right
use Rattle.field.proofs.layout.tag_right.Kinds as tag-rightK
use Rattle.field.proofs.layout.length_of.Reads as length-of
use Rattle.field.proofs.layout.length_of.Kinds as length-ofK
use Rattle.field.proofs.layout.size_of.Reads as type_size
use Rattle.field.proofs.layout.size_of.Kinds as size-ofK
use Rattle.field.proofs.layout.tag_of.Reads as tag_of
use Rattle.field.proofs.layout.tag_of.Kinds as tag-ofK
use Rattle.field.proofs.layout.remaining.Reads as remaining
use Rattle.field.proofs.layout.remaining.Kinds as remainingK
use Rattle.field.proofs.layout.stands.Reads as stands
use Rattle.field.proofs.layout.stands.Kinds as standsK
use Rattle.field.proofs.judge.third_of.Reads as third_of
use Rattle.field.proofs.judge.third_of.Kinds as third-ofK
use Rattle.field.proofs.judge.by_itself.Reads as by_itself
use Rattle.field.proofs.judge.by_itself.Kinds as by-itselfK
use Rattle.field.proofs.judge.is_allowed.Reads as is-allowed
use Rattle.field.proofs.judge.is_allowed.Kinds as is-allowedK
use Rattle.field.proofs.layout.form_tag.Reads as form-tag
use Rattle.field.proofs.layout.form_tag.Kinds as form-tagK

pub require-once : Once 0 requireK.ps requireK.r require.Post (λ κs x s. x)
require-once κs a x y s t p q = found-once (p 0) (q 0)

pub number-from-once : Once 0 number_fromK.ps number_fromK.r number_from.Post (λ κs x s. x)
number-from-once κs a x y s t p q = once p q

pub is-within-once : Once 0 is-withinK.ps is-withinK.r is_Within.Post (λ κs x s. x)
is-within-once κs a x y s t p q = once p q

pub judge-once : Once 0 judgeK.ps judgeK.r judge.Post (λ κs x s. x)
judge-once κs a x y s t p q = found-once p q

pub judge-header-once : Once 0 judge-headerK.ps judge-headerK.r judge-header.Post (λ κs x s. x)
judge-header-once κs a x y s t p q = found-once p q

pub judge-previous-once : Once 0 judge-previousK.ps judge-previousK.r judge-previous.Post (λ κs x s. x)
judge-previous-once κs a x y s t p q = found-once p q

pub judge-trade-once : Once 0 judge-tradeK.ps judge-tradeK.r judge-trade.Post (λ κs x s. x)
judge-trade-once κs a x y s t p q = found-once p q

pub judge-quote-once : Once 0 judge-quoteK.ps judge-quoteK.r judge-quote.Post (λ κs x s. x)
judge-quote-once κs a x y s t p q = found-once p q

pub both-sides-right-once : Once 0 both-sides-rightK.ps both-sides-rightK.r both-sides-right.Post (λ κs x s. x)
both-sides-right-once κs a x y s t p q = once p q

pub tag-right-once : Once 0 tag-rightK.ps tag-rightK.r tag-right.Post (λ κs x s. x)
tag-right-once κs a x y s t p q = once p q

pub length-of-once : Once 0 length-ofK.ps length-ofK.r length-of.Post (λ κs x s. x)
length-of-once κs a x y s t p q = once p q

pub size-of-once : Once 0 size-ofK.ps size-ofK.r type_size.Post (λ κs x s. x)
size-of-once κs a x y s t p q = once p q

pub tag-of-once : Once 0 tag-ofK.ps tag-ofK.r tag_of.Post (λ κs x s. x)
tag-of-once κs a x y s t p q = once p q

pub remaining-once : Once 0 remainingK.ps remainingK.r remaining.Post (λ κs x s. x)
remaining-once κs a x y s t p q = once p q

pub stands-once : Once 1 standsK.ps standsK.r stands.Post (λ κs x s. x)
stands-once κs a x y s t p q = once p q

pub third-of-once : Once 0 third-ofK.ps third-ofK.r third_of.Post (λ κs x s. x)
third-of-once κs a x y s t p q = once p q

pub by-itself-once : Once 0 by-itselfK.ps by-itselfK.r by_itself.Post (λ κs x s. x)
by-itself-once κs a x y s t p q = once p q

pub is-allowed-once : Once 0 is-allowedK.ps is-allowedK.r is-allowed.Post (λ κs x s. x)
is-allowed-once κs a x y s t p q = once p q

pub form-tag-once : Once 0 form-tagK.ps form-tagK.r form-tag.Post (λ κs x s. x)
form-tag-once κs a x y s t p q = once p q
