-- Any two outcomes that a function's contract permits are equal: the name by value, its bytes, the text's bytes with the name behind them, the
-- number. Assumes nothing.
use Rattle.promise.specs.Once.{Once}
use Rattle.promise.specs.laws.Once.{once}
use Rattle.text.specs.Held.{held_by}
use Rattle.names.proofs.Name.as_bytes.Reads as as-bytes
use Rattle.names.proofs.Name.as_bytes.Kinds as as-bytesK
use Rattle.names.proofs.metal_name.Reads as metal-name
use Rattle.names.proofs.metal_name.Kinds as metal-nameK
use Rattle.names.proofs.contract_name.Reads as contract-name
use Rattle.names.proofs.contract_name.Kinds as contract-nameK
use Rattle.names.proofs.instrument_name.Reads as instrument-name
use Rattle.names.proofs.instrument_name.Kinds as instrument-nameK
use Rattle.names.proofs.method_name.Reads as method-name
use Rattle.names.proofs.method_name.Kinds as method-nameK
use Rattle.names.proofs.put_metal.Reads as put-metal
use Rattle.names.proofs.put_metal.Kinds as put-metalK
use Rattle.names.proofs.put_contract.Reads as put-contract
use Rattle.names.proofs.put_contract.Kinds as put-contractK
use Rattle.names.proofs.put_method.Reads as put-method
use Rattle.names.proofs.put_method.Kinds as put-methodK
use Rattle.names.proofs.is_name.Reads as is_name
use Rattle.names.proofs.is_name.Kinds as is-nameK
use Rattle.names.proofs.metal_in.Reads as metal-in
use Rattle.names.proofs.metal_in.Kinds as metal-inK
use Rattle.names.proofs.instrument_in.Reads as instrument-in
use Rattle.names.proofs.instrument_in.Kinds as instrument-inK

pub as-bytes-once : Once 1 as-bytesK.ps as-bytesK.r as-bytes.Post (λ κs x s. x.now)
as-bytes-once κs a x y s t p q = once p q

pub metal-name-once : Once 0 metal-nameK.ps metal-nameK.r metal-name.Post (λ κs x s. x)
metal-name-once κs a x y s t p q = once p q

pub contract-name-once : Once 0 contract-nameK.ps contract-nameK.r contract-name.Post (λ κs x s. x)
contract-name-once κs a x y s t p q = once p q

pub instrument-name-once : Once 0 instrument-nameK.ps instrument-nameK.r instrument-name.Post (λ κs x s. x)
instrument-name-once κs a x y s t p q = once p q

pub method-name-once : Once 0 method-nameK.ps method-nameK.r method-name.Post (λ κs x s. x)
method-name-once κs a x y s t p q = once p q

pub put-metal-once : Once 0 put-metalK.ps put-metalK.r put-metal.Post (λ κs x s. held_by x)
put-metal-once κs a x y s t p q = once p q

pub put-contract-once : Once 0 put-contractK.ps put-contractK.r put-contract.Post (λ κs x s. held_by x)
put-contract-once κs a x y s t p q = once p q

pub put-method-once : Once 0 put-methodK.ps put-methodK.r put-method.Post (λ κs x s. held_by x)
put-method-once κs a x y s t p q = once p q

pub is-name-once : Once 2 is-nameK.ps is-nameK.r is_name.Post (λ κs x s. x)
is-name-once κs a x y s t p q = once p q

pub metal-in-once : Once 1 metal-inK.ps metal-inK.r metal-in.Post (λ κs x s. x)
metal-in-once κs a x y s t p q = once p q

pub instrument-in-once : Once 1 instrument-inK.ps instrument-inK.r instrument-in.Post (λ κs x s. x)
instrument-in-once κs a x y s t p q = once p q
