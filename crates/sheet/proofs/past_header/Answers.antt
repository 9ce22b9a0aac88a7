-- `sheet::past_header` meets its contract. Assumes nothing.
use Rattle.sheet.specs.laws.Past.{size-some, header-inside, header-whole, opened}
use Rattle.sheet.proofs.past_header.Goals as goal

pub header_form-requires : goal.header_form-requires
header_form-requires c = let some = size-some _ c.in_ok-at.ensures in header-inside _ some.0 some.1

pub header_kept-progress-requires : goal.header_kept-progress-requires
header_kept-progress-requires c = let some = size-some _ c.in_ok-at.ensures in header-whole _ some.0 some.1

pub returns-clause-opened : goal.returns-clause-opened
returns-clause-opened c =
    let some = size-some _ c.in_ok-at.ensures in
    opened _ some.0 some.1 c.requires c.header_form.ensures c.header_kept-progress.ensures
