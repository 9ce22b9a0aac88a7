-- `header_mover::put_moved` meets its contract: the header, then the bytes behind the sheet's own. Assumes nothing.
use lib.ListN.{length-take, length-drop}
use native.Mathlib.Omega.{arith}
use borrow.Author.Rules.{rules}
use Rattle.header_mover.proofs.Moving.{fitting-room, header-fits, header-starts, moved-put}
use Rattle.header_mover.proofs.put_moved.Goals as goal

pub put_field-requires : goal.put_field-requires
put_field-requires c =
    let a = c.args in
    header-fits a.sheet.now a.out.now a.day a.wanted c.requires c.headed.ensures

pub slice_bounds-put_behind-count : goal.slice_bounds-put_behind-count
slice_bounds-put_behind-count c =
    header-starts c.args.sheet.now c.args.day c.requires.accepted c.header_size-from.ensures

pub slice_bounds-put_behind-start : goal.slice_bounds-put_behind-start
slice_bounds-put_behind-start c =
    search (header-starts c.args.sheet.now c.args.day c.requires.accepted c.header_size-from.ensures, rules)

pub put_behind-requires : goal.put_behind-requires
put_behind-requires c =
    let a = c.args in
    let room = fitting-room a.sheet.now a.out.now a.day a.wanted c.requires in
    simp (length-take, length-drop) (omega (arith, room, c.header_size.ensures, c.header_size-from.ensures, c.put_field.auto.part))

pub returns : goal.returns
returns c =
    let a = c.args in
    moved-put a.sheet.now a.out.now a.day a.wanted c.requires c.header_size-from.ensures c.headed.ensures c.put_field.ensures c.header_size.ensures c.put_behind.ensures
