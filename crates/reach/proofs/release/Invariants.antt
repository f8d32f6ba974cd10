-- `release`: no name in the row of a name done is left. Each turn one more name is done.
use Rattle.litset.specs.Words.{set_of}
use Rattle.litset.proofs.Room.{free}
use Rattle.reach.proofs.Waiting.{Releasing}
use Rattle.reach.proofs.release.Given as goal

abbrev pub invariant-loop-out : goal.invariant-loop-out
invariant-loop-out l = Releasing l.watch (set_of l.initial.out.words) (set_of l.done.words) (set_of l.out.words)

abbrev pub decreases-loop-out : goal.decreases-loop-out
decreases-loop-out l = free (set_of l.done.words)
