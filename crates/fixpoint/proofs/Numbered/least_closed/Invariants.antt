-- `least_closed`: the set lies between the start and every closed set that has it; a pass that adds something leaves fewer literals outside.
use Rattle.litset.specs.Words.{set_of}
use Rattle.fixpoint.specs.Pass.{rules_by}
use Rattle.fixpoint.proofs.Growth.{Growing}
use Rattle.litset.proofs.Room.{free}
use Rattle.fixpoint.proofs.Numbered.least_closed.Given as goal

abbrev pub invariant-loop-shut : goal.invariant-loop-shut
invariant-loop-shut l = Growing (rules_by l.self) (set_of l.shut.words) (set_of l.s.words) (set_of l.initial.x.words) (set_of l.x.words)

abbrev pub decreases-loop-shut : goal.decreases-loop-shut
decreases-loop-shut l = free (set_of l.x.words)
