-- `next_group`: each name passed over is noted in the row of a name it waits for. Each turn one more name is passed over.
use Rattle.litset.specs.Words.{set_of}
use Rattle.litset.proofs.Room.{free}
use Rattle.reach.specs.Table.{Noted}
use Rattle.reach.proofs.next_group.Given as goal

abbrev pub invariant-loop-k : goal.invariant-loop-k
invariant-loop-k l = Noted l.table (set_of l.left.words) l.initial.watch (set_of l.initial.out.words) l.watch (set_of l.out.words)

abbrev pub decreases-loop-k : goal.decreases-loop-k
decreases-loop-k l = free (set_of l.out.words)
