-- Any two results that a function's contract permits are equal. Assumes nothing.
use Rattle.promise.specs.Once.{Once}
use Rattle.promise.specs.laws.Once.{once}
use Rattle.raw_reader.proofs.end_of.Reads as end_of_lem
use Rattle.raw_reader.proofs.end_of.Kinds as end-ofK
use Rattle.raw_reader.proofs.price_at.Reads as price-at
use Rattle.raw_reader.proofs.price_at.Kinds as price-atK
use Rattle.raw_reader.proofs.previous_of.Reads as previous-of
use Rattle.raw_reader.proofs.previous_of.Kinds as previous-ofK
use Rattle.raw_reader.proofs.trade_of.Reads as trade-of
use Rattle.raw_reader.proofs.trade_of.Kinds as trade-ofK
use Rattle.raw_reader.proofs.quote_of.Reads as quote-of
use Rattle.raw_reader.proofs.quote_of.Kinds as quote-ofK
use Rattle.raw_reader.proofs.field_of.Reads as field_of
use Rattle.raw_reader.proofs.field_of.Kinds as field-ofK

pub field-of-once : Once 1 field-ofK.ps field-ofK.r field_of.Post (λ κs x s. x)
field-of-once κs a x y s t p q = once p q

pub previous-of-once : Once 1 previous-ofK.ps previous-ofK.r previous-of.Post (λ κs x s. x)
previous-of-once κs a x y s t p q = once p q

pub trade-of-once : Once 1 trade-ofK.ps trade-ofK.r trade-of.Post (λ κs x s. x)
trade-of-once κs a x y s t p q = once p q

pub quote-of-once : Once 1 quote-ofK.ps quote-ofK.r quote-of.Post (λ κs x s. x)
quote-of-once κs a x y s t p q = once p q

pub end-of-once : Once 1 end-ofK.ps end-ofK.r end_of_lem.Post (λ κs x s. x)
end-of-once κs a x y s t p q = once p q

pub price-at-once : Once 1 price-atK.ps price-atK.r price-at.Post (λ κs x s. x)
price-at-once κs a x y s t p q = once p q
