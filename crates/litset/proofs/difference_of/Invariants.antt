use Rattle.litset.proofs.Bit.{clear}
use Rattle.litset.proofs.Words.{Joined}
use Rattle.litset.proofs.difference_of.Given as goal

abbrev pub invariant-loop-i : goal.invariant-loop-i
invariant-loop-i g l = Joined clear l.initial.word-items l.b l.word-items l.i
