-- Any two outcomes that a function's contract permits are equal. Assumes nothing.
use Rattle.promise.specs.Once.{Once}
use Rattle.promise.specs.laws.Once.{once}
use Rattle.line_reader.proofs.sides_of.Reads as sides-of
use Rattle.line_reader.proofs.sides_of.Kinds as sides-ofK
use Rattle.line_reader.proofs.side_price.Reads as side-price
use Rattle.line_reader.proofs.side_price.Kinds as side-priceK
use Rattle.line_reader.proofs.read_line.Reads as read-line
use Rattle.line_reader.proofs.read_line.Kinds as read-lineK

pub read-line-once : Once 1 read-lineK.ps read-lineK.r read-line.Post (λ κs x s. x)
read-line-once κs a x y s t p q = once p q

pub sides-of-once : Once 0 sides-ofK.ps sides-ofK.r sides-of.Post (λ κs x s. x)
sides-of-once κs a x y s t p q = once p q

pub side-price-once : Once 0 side-priceK.ps side-priceK.r side-price.Post (λ κs x s. x)
side-price-once κs a x y s t p q = once p q
