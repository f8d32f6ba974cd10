-- `with_name`: the words passed have the name, and the others are as they were.
use Rattle.nameset.proofs.Names.{Given}
use Rattle.nameset.proofs.NameSet.with_name.Given as goal

abbrev pub invariant-loop-i : goal.invariant-loop-i
invariant-loop-i l = Given l.initial.word-items l.k l.word-items l.i
