use native.Mathlib.Omega.{arith}
use mathlib.Core.Path.{◌≡◌}
use Rattle.reach.proofs.Reaching.{having_none, having_more}
use Rattle.reach.proofs.rows_having.Goals as goal

pub loop-k-init : goal.loop-k-init
loop-k-init c = having_none _ _ _ c.empty-found.ensures

pub loop-k-preserved : goal.loop-k-preserved
loop-k-preserved c = having_more _ _ _ _ _ _ _ _ c.loop-k.invariant c.with_name-itself.ensures c.empty.ensures c.row_at-row.ensures c.with_reaching-found.ensures

pub returns : goal.returns
returns c =
    let all : c.loop-k.k ≡ c.args.names = omega arith in
    rw all at c.loop-k.invariant
