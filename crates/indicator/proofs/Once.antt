-- Any two results that a function's contract permits are equal. Assumes nothing.
use Rattle.promise.specs.Once.{Once}
use Rattle.promise.specs.laws.Once.{once}
use Rattle.indicator.proofs.Indicator.empty.Reads as empty
use Rattle.indicator.proofs.Indicator.empty.Kinds as emptyK
use Rattle.indicator.proofs.Indicator.close.Reads as close
use Rattle.indicator.proofs.Indicator.close.Kinds as closeK
use Rattle.indicator.proofs.Indicator.trade.Reads as trade
use Rattle.indicator.proofs.Indicator.trade.Kinds as tradeK
use Rattle.indicator.proofs.Indicator.quote.Reads as quote
use Rattle.indicator.proofs.Indicator.quote.Kinds as quoteK
use Rattle.indicator.proofs.Indicator.value.Reads as value
use Rattle.indicator.proofs.Indicator.value.Kinds as valueK
use Rattle.indicator.proofs.take_field.Reads as take-field
use Rattle.indicator.proofs.take_field.Kinds as take-fieldK

pub empty-once : Once 0 emptyK.ps emptyK.r empty.Post (λ κs x s. x)
empty-once κs a x y s t p q = once p q

pub close-once : Once 0 closeK.ps closeK.r close.Post (λ κs x s. x)
close-once κs a x y s t p q = once p q

pub trade-once : Once 0 tradeK.ps tradeK.r trade.Post (λ κs x s. x)
trade-once κs a x y s t p q = once p q

pub quote-once : Once 0 quoteK.ps quoteK.r quote.Post (λ κs x s. x)
quote-once κs a x y s t p q = once p q

pub value-once : Once 0 valueK.ps valueK.r value.Post (λ κs x s. x)
value-once κs a x y s t p q = once p q

pub take-field-once : Once 0 take-fieldK.ps take-fieldK.r take-field.Post (λ κs x s. x)
take-field-once κs a x y s t p q = once p q
