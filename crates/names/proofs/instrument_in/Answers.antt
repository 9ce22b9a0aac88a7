-- `names::instrument_in` meets its contract. Assumes nothing.
use Rattle.std.proofs.Common.{◌∙◌, ap, rules}
use Rattle.names.specs.Names.{same}
use Rattle.names.specs.laws.Finding.{instrument-is}
use Rattle.names.proofs.instrument_in.Goals as goal

pub returns-then-is_name : goal.returns-then-is_name
returns-then-is_name c =
    instrument-is _ _ _ _ c.instrument_name.ensures (c.is_name.ensures ∙ ap (λ n. same n c.args.s.now) c.as_bytes.ensures) c.if-is_name.true c.likely_spread-spread.ensures

pub returns-then-is_name-2 : goal.returns-then-is_name-2
returns-then-is_name-2 c = search (instrument-is, rules)
