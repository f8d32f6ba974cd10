use mathlib.Core.Path.{refl, ◌∙◌}
use native.Mathlib.Omega.{arith}
use Rattle.groups.proofs.Runs.{gathering_start, gathering_inside, gathering_room, gathering_more, gathering_most, gathering_end}
use Rattle.groups.proofs.gather.Goals as goal

pub loop-name-init : goal.loop-name-init
loop-name-init c = (refl, gathering_start _ _ _ _)

pub copy_run-at-requires : goal.copy_run-at-requires
copy_run-at-requires c =
    let pre = c.requires in
    let inv = c.loop-name.invariant in
    let room =
    gathering_room _ _ _ pre.0 inv.1 c.loop-name-test.true c.first_literal-a.ensures.0 c.rules_start-from.ensures c.rules_start-end.ensures in
    (gathering_inside _ _ _ pre.0 inv.1 c.loop-name-test.true c.first_literal-a.ensures.0 c.rules_start-from.ensures c.rules_start-end.ensures, omega (arith, room, inv.0, pre.1))

pub loop-name-preserved : goal.loop-name-preserved
loop-name-preserved c =
    let pre = c.requires in
    let inv = c.loop-name.invariant in
    (c.copy_run-at.ensures.size ∙ inv.0, gathering_more _ _ _ pre.0 inv.1 c.loop-name-test.true c.first_literal-a.ensures.0 c.rules_start-from.ensures c.rules_start-end.ensures c.copy_run-at.ensures)

pub returns : goal.returns
returns c =
    let inv = c.loop-name.invariant in
    let pre = c.requires in
    let most = gathering_most _ _ _ pre.0 inv.1 in
    record { size = inv.0; fits = omega (arith, most, pre.1); whole = gathering_end _ _ _ pre.0 inv.1 c.loop-name-test.false }
