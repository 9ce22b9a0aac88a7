-- `next_line::price_at` meets its contract. Assumes nothing.
use Rattle.std.proofs.Common.{refl, rules}
use Rattle.next_line.specs.laws.Records.{sign-room, price-found, signed-size}
use Rattle.next_line.proofs.price_at.Goals as goal

pub amount_at-requires : goal.amount_at-requires
amount_at-requires c = search (sign-room, rules)

pub returns : goal.returns
returns c =
    let found = c.in_ok-value.ensures in (
      price-found _ _ _ _ _ _ _ _ c.requires refl c.behind_sign.ensures found.0 c.negative_zero.ensures c.if-negative_zero.false c.signed.ensures,
      signed-size _ _ _ c.signed.ensures found.1,
    )
