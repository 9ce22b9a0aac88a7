-- `header_mover::move_accepted` meets its contract: a fault that was found, or the moved sheet. Assumes nothing.
use mathlib.Core.Path.{◌≡◌}
use borrow.Author.Rules.{rules}
use Rattle.field.specs.Said.{found}
use Rattle.header_mover.proofs.Moving.{header-starts, move-refused, move-fitting, move-whole}
use Rattle.header_mover.proofs.move_accepted.Goals as goal

pub overflow_sub-len : goal.overflow_sub-len
overflow_sub-len c = header-starts c.args.sheet.now c.args.day c.requires c.header_size-2.ensures

pub returns-in_err-map_err : goal.returns-in_err-map_err
returns-in_err-map_err c =
    move-refused c.args.sheet.now c.args.out.now c.args.day c.args.wanted c.requires c.header_size.ensures c.header_size-2.ensures c.is_movable.ensures c.judge_move.result c.judge_move.ensures c.from_residual.result (search rules)

pub put_moved-requires : goal.put_moved-requires
put_moved-requires c =
    let none : found c.judge_move.result ≡ 0 = search rules in
    move-fitting c.args.sheet.now c.args.out.now c.args.day c.args.wanted c.requires c.header_size.ensures c.header_size-2.ensures c.is_movable.ensures c.judge_move.result c.judge_move.ensures none

pub returns : goal.returns
returns c =
    let none : found c.judge_move.result ≡ 0 = search rules in
    move-whole c.args.sheet.now c.args.out.now c.args.day c.args.wanted c.requires c.header_size.ensures c.header_size-2.ensures c.is_movable.ensures c.judge_move.result c.judge_move.ensures none c.put_moved.ensures
