-- `names::seek_instrument` meets its contract: the first of the numbers whose name it is. Assumes nothing.
use Rattle.std.specs.Prelude.{◌≡◌, refl, option_map}
use Rattle.std.proofs.Common.{◌∙◌, rules, tests}
use Rattle.std.proofs.lemmas.Iterator.{YieldsList-from_range}
use Rattle.std.proofs.lemmas.Iterator.Search.{find_from_yields_List}
use Rattle.names.specs.Names.{instrument_name, same, instrument_in}
use Rattle.names.proofs.seek_instrument.Goals as goal

pub returns : goal.returns
unfolding instrument_in instrument_name
returns c =
    let found = find_from_yields_List (λ m. same (instrument_name m) c.args.s.now) _ _ c.find.result c.find.ensures.ran (YieldsList-from_range 0 12 12 refl refl) (λ x b q k. search (rules, tests)) in
    let same_number : c.map.result ≡ option_map (λ x. x) c.find.result = search rules in
    same_number ∙ found
