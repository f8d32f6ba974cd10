-- `lowest_both`: no name in the words passed has both literals.
use Rattle.litset.proofs.Names.{NoneBefore}
use Rattle.litset.proofs.LitSet.lowest_both.Given as goal

abbrev pub invariant-loop-i : goal.invariant-loop-i
invariant-loop-i l = NoneBefore l.word-items l.i
