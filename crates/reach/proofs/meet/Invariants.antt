-- `meet`: the names met are name k and names of the set that reach it. Each turn one more is met.
use Rattle.litset.specs.Words.{set_of}
use Rattle.litset.proofs.Room.{free}
use Rattle.reach.proofs.Waiting.{Gathered}
use Rattle.reach.proofs.meet.Given as goal

abbrev pub invariant-loop-met : goal.invariant-loop-met
invariant-loop-met l = Gathered l.table l.k (set_of l.among.words) (set_of l.met.words)

abbrev pub decreases-loop-met : goal.decreases-loop-met
decreases-loop-met l = free (set_of l.met.words)
