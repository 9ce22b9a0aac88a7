-- Any two results that a function's contract permits are equal. Assumes nothing.
use Rattle.promise.specs.Once.{Once}
use Rattle.promise.specs.laws.Once.{once}
use Rattle.market.proofs.metal_of.Reads as metal-of
use Rattle.market.proofs.metal_of.Kinds as metal-ofK
use Rattle.market.proofs.leg_of.Reads as leg-of
use Rattle.market.proofs.leg_of.Kinds as leg-ofK
use Rattle.market.proofs.contract_by.Reads as contract-by
use Rattle.market.proofs.contract_by.Kinds as contract-byK
use Rattle.market.proofs.pair_of.Reads as pair-of
use Rattle.market.proofs.pair_of.Kinds as pair-ofK
use Rattle.market.proofs.leg_by.Reads as leg-by
use Rattle.market.proofs.leg_by.Kinds as leg-byK
use Rattle.market.proofs.start_in.Reads as start-in
use Rattle.market.proofs.start_in.Kinds as start-inK
use Rattle.market.proofs.start_of.Reads as start_of_lem
use Rattle.market.proofs.start_of.Kinds as start-ofK
use Rattle.market.proofs.in_window.Reads as in_window
use Rattle.market.proofs.in_window.Kinds as in-windowK
use Rattle.market.proofs.is_marked.Reads as is-marked
use Rattle.market.proofs.is_marked.Kinds as is-markedK
use Rattle.market.proofs.contract_of.Reads as contract-of
use Rattle.market.proofs.contract_of.Kinds as contract-ofK
use Rattle.market.proofs.step_by.Reads as step_by
use Rattle.market.proofs.step_by.Kinds as step-byK
use Rattle.market.proofs.is_named.Reads as is-named
use Rattle.market.proofs.is_named.Kinds as is-namedK
use Rattle.market.proofs.is_barred.Reads as is-barred
use Rattle.market.proofs.is_barred.Kinds as is-barredK

pub metal-of-once : Once 0 metal-ofK.ps metal-ofK.r metal-of.Post (λ κs x s. x)
metal-of-once κs a x y s t p q = once p q

pub leg-of-once : Once 0 leg-ofK.ps leg-ofK.r leg-of.Post (λ κs x s. x)
leg-of-once κs a x y s t p q = once p q

pub contract-by-once : Once 0 contract-byK.ps contract-byK.r contract-by.Post (λ κs x s. x)
contract-by-once κs a x y s t p q = once p q

pub pair-of-once : Once 0 pair-ofK.ps pair-ofK.r pair-of.Post (λ κs x s. x)
pair-of-once κs a x y s t p q = once p q

pub leg-by-once : Once 0 leg-byK.ps leg-byK.r leg-by.Post (λ κs x s. x)
leg-by-once κs a x y s t p q = once p q

pub start-in-once : Once 0 start-inK.ps start-inK.r start-in.Post (λ κs x s. x)
start-in-once κs a x y s t p q = once p q

pub start-of-once : Once 0 start-ofK.ps start-ofK.r start_of_lem.Post (λ κs x s. x)
start-of-once κs a x y s t p q = once p q

pub in-window-once : Once 0 in-windowK.ps in-windowK.r in_window.Post (λ κs x s. x)
in-window-once κs a x y s t p q = once p q

pub is-marked-once : Once 0 is-markedK.ps is-markedK.r is-marked.Post (λ κs x s. x)
is-marked-once κs a x y s t p q = once p q

pub contract-of-once : Once 0 contract-ofK.ps contract-ofK.r contract-of.Post (λ κs x s. x)
contract-of-once κs a x y s t p q = once p q

pub step-by-once : Once 0 step-byK.ps step-byK.r step_by.Post (λ κs x s. x)
step-by-once κs a x y s t p q = once p q

pub is-named-once : Once 0 is-namedK.ps is-namedK.r is-named.Post (λ κs x s. x)
is-named-once κs a x y s t p q = once p q

pub is-barred-once : Once 0 is-barredK.ps is-barredK.r is-barred.Post (λ κs x s. x)
is-barred-once κs a x y s t p q = once p q
