-- Any two outcomes that a function's contract permits are equal. Assumes nothing.
use Rattle.promise.specs.Once.{Once}
use Rattle.promise.specs.laws.Once.{once}
use Rattle.numerals.proofs.is_digit.Reads as is_digit
use Rattle.numerals.proofs.is_digit.Kinds as is-digitK
use Rattle.numerals.proofs.digit_of.Reads as digit-of
use Rattle.numerals.proofs.digit_of.Kinds as digit-ofK
use Rattle.numerals.proofs.read_number.Reads as read_number
use Rattle.numerals.proofs.read_number.Kinds as read-numberK

pub is-digit-once : Once 0 is-digitK.ps is-digitK.r is_digit.Post (λ κs x s. x)
is-digit-once κs a x y s t p q = once p q

pub digit-of-once : Once 0 digit-ofK.ps digit-ofK.r digit-of.Post (λ κs x s. x)
digit-of-once κs a x y s t p q = once p q

pub read-number-once : Once 1 read-numberK.ps read-numberK.r read_number.Post (λ κs x s. x)
read-number-once κs a x y s t p q = once p q
