use native.Mathlib.Omega.{arith}
use mathlib.Core.Path.{refl}
use Rattle.book.proofs.Heads.{head_below}
use Rattle.reach.proofs.Bodies.{drawn_none, drawn_more, drawn_end}
use Rattle.reach.proofs.direct.Goals as goal

pub loop-r-init : goal.loop-r-init
loop-r-init c = drawn_none _ _ _ _ _ c.empty-table.ensures

pub add_names-requires : goal.add_names-requires
add_names-requires c =
    let head = c.name_for-k.ensures in
    omega (arith, head_below c.args.book.now.heads c.loop-r.r)

pub loop-r-preserved : goal.loop-r-preserved
loop-r-preserved c =
    drawn_more _ _ _ _ _ _ c.loop-r.invariant _ _ _ (rw (← c.rule_count-r-end.ensures) c.loop-r-test.true) c.name_for-k.ensures refl c.add_names.ensures

pub returns : goal.returns
returns c = drawn_end _ _ _ _ _ _ c.loop-r.invariant (rw (← c.rule_count-r-end.ensures) c.loop-r-test.false)
