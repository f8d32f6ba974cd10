-- `reach_table`: no row is whole at first, each way keeps those that are, and the last makes all of them whole.
use mathlib.Core.Path.{refl}
use Rattle.reach.proofs.Closure.{swept_then, swept_all}
use Rattle.reach.proofs.reach_table.Goals as goal

pub returns : goal.returns
returns c =
    let last = c.sweep.ensures in
    swept_all _ _ _ _ _ _ (rw c.empty.ensures c.direct-table.ensures) (swept_then c.sweep-up.ensures.swept (swept_then c.sweep-down.ensures.swept last.swept)) (last.each refl refl)
