-- `reached`: the names found are reached, and that the bodies of those that are done are found. Each turn one more name is done.
use Rattle.litset.specs.Words.{set_of}
use Rattle.litset.proofs.Room.{free}
use Rattle.reach.proofs.Closure.{Grown}
use Rattle.reach.proofs.reached.Given as goal

abbrev pub invariant-loop-found : goal.invariant-loop-found
invariant-loop-found l = Grown l.table (set_of l.whole.words) l.k (set_of l.found.words) (set_of l.done.words)

abbrev pub decreases-loop-found : goal.decreases-loop-found
decreases-loop-found l = free (set_of l.done.words)
