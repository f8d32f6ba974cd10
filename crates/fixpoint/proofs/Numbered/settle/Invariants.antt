-- `settle`: the set is reached after the rounds counted, and no round before added nothing. The set lies in the next one; a round that adds something leaves
-- fewer literals outside, so the count has room.
use Rattle.litset.specs.Words.{set_of}
use Rattle.book.specs.Book.{program}
use Rattle.fixpoint.specs.Pass.{rules_by}
use Rattle.fixpoint.proofs.Growth.{Round}
use Rattle.litset.proofs.Room.{free}
use Rattle.fixpoint.proofs.Numbered.settle.Given as goal

abbrev pub invariant-loop-facts : goal.invariant-loop-facts
invariant-loop-facts l =
    Round (program (rules_by l.self) (set_of l.facts.words)) (program (rules_by l.self) (set_of l.possible.words)) (set_of l.initial.x.words) l.rounds (set_of l.x.words)

abbrev pub decreases-loop-facts : goal.decreases-loop-facts
decreases-loop-facts l = free (set_of l.x.words)
