-- `below`: the first words of the numbers below n are those of the names.
use Rattle.nameset.proofs.Names.{Copied}
use Rattle.nameset.proofs.NameSet.below.Given as goal

abbrev pub invariant-loop-i : goal.invariant-loop-i
invariant-loop-i l = Copied l.numbers.words l.word-items l.i
