-- `tape_reader::put_sheet` meets its contract: the fields, and the end behind them. Assumes nothing.
use borrow.Author.Rules.{rules}
use Rattle.tape_reader.specs.laws.Laying.{end-room, sheet-laid}
use Rattle.tape_reader.proofs.put_sheet.Goals as goal

pub put_at-requires : goal.put_at-requires
put_at-requires c = search (end-room, rules)

pub returns : goal.returns
returns c =
    sheet-laid c.args.text.now c.args.sheet.now _ _ _ c.put_fields-laid.ensures c.requires c.put_at.ensures
