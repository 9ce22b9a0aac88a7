-- `field_reader::field_as` meets its contract: the field of the body behind a head that earns nothing, and it earns nothing itself. Assumes nothing.
use Rattle.std.proofs.Common.{◌≡◌, rules}
use Rattle.field.specs.Judging.{fine, alone, judge}
use Rattle.field.specs.Reading.{head_number}
use Rattle.field_reader.specs.laws.Heads.{given_read}
use Rattle.field_reader.proofs.field_as.Goals as goal

pub returns : goal.returns
returns g c =
    let head : head_number c.args.sheet.now c.args.at g.row.TAG ≡ fine = search rules in
    let right : judge alone c.field_of-field.result ≡ fine = search rules in
    rw c.size_of.ensures (given_read _ _ _ c.requires head _ (rw c.size_of.ensures at c.field_of-field.ensures) right)
