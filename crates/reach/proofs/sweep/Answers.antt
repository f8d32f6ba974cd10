use native.Mathlib.Omega.{arith}
use mathlib.Core.Path.{◌≡◌}
use Rattle.reach.proofs.Closure.{sweep_start, sweep_more}
use Rattle.reach.proofs.sweep.Goals as goal

pub loop-i-init : goal.loop-i-init
loop-i-init c = sweep_start _ _ _ _

pub loop-i-preserved : goal.loop-i-preserved
loop-i-preserved c = sweep_more c.loop-i.invariant c.name_at_turn-k.ensures c.complete-found.ensures

pub returns : goal.returns
returns c =
    let all : c.loop-i.i ≡ c.args.names = omega arith in
    rw all at c.loop-i.invariant
