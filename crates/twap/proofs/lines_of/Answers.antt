-- `twap::lines_of` meets its contract: at each place the lines are those of the fields before it. Assumes nothing.
use mathlib.Core.Path.{refl, sym, ◌∙◌}
use borrow.Author.Rules.{rules}
use Rattle.twap.specs.laws.Pass.{pass-start, start_small, pass-done, pass-fair, pass-headed, pass_fits, pass-on, pass-own, pass-unstamped, pass-unread}
use Rattle.twap.proofs.lines_of.Goals as goal
use Rattle.twap.proofs.lines_of.Goals.{in-Some+in-Some-stamp_of, in_default, in_default-via-in-None-1, in_default-via-in-Some+in-None-1}

pub loop-at-init : goal.loop-at-init
loop-at-init c = search (pass-start, rules)

pub field_here-requires : goal.field_here-requires
field_here-requires c = search (pass-headed, rules)

pub bounds-lines-i : goal.bounds-lines-i
bounds-lines-i c = pass-on _ _ _ _ c.loop-at.invariant c.loop-at-test.true refl c.field_here.ensures c.in-Some.is c.requires.0 (sym c.stamp_of.ensures ∙ c.in-Some-stamp_of.is)

pub with-requires : goal.with-requires
with-requires c =
    let o = c.loop-at.invariant in
    let stamp = sym c.stamp_of.ensures ∙ c.in-Some-stamp_of.is in
    let on = pass-on _ _ _ _ o c.loop-at-test.true refl c.field_here.ensures c.in-Some.is c.requires.0 stamp in
    (pass-fair _ _ _ _ o _ c.requires.0 on c.metal_of-row.ensures c.start_in.ensures, start_small _ _ c.metal_of-row.ensures c.start_in.ensures, stamp)

pub bounds-lines-i-in-loop-at : goal.bounds-lines-i-in-loop-at
bounds-lines-i-in-loop-at c = pass-on _ _ _ _ c.loop-at.invariant c.loop-at-test.true refl c.field_here.ensures c.in-Some.is c.requires.0 (sym c.stamp_of.ensures ∙ c.in-Some-stamp_of.is)

pub overflow_add-at : goal.overflow_add-at
overflow_add-at c = search (pass_fits, rules)

pub loop-at-preserved : goal.loop-at-preserved
loop-at-preserved c =
    let o = c.loop-at.invariant in
    elim c.match-field_here.branch [
      | in-Some+in-Some-stamp_of w ↦
          let stamp = sym w.stamp_of.ensures ∙ w.in-Some-stamp_of.is in
          let on = pass-on _ _ _ _ o c.loop-at-test.true refl c.field_here.ensures w.in-Some.is c.requires.0 stamp in
          rw w.lines-is (pass-own _ _ _ _ o c.loop-at-test.true refl c.field_here.ensures w.in-Some.is stamp c.bytes_of-at.ensures on c.metal_of-row.ensures w.start_in.ensures w.with.ensures)
      | in_default w ↦ rw w.lines-is (elim w.in_default.branch [
        | in_default-via-in-None-1 v ↦ search (pass-unread, rules)
        | in_default-via-in-Some+in-None-1 v ↦ search (pass-unstamped, rules)
      ])
    ]

pub returns : goal.returns
returns c = search (pass-done, rules)
