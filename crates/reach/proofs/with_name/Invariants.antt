-- `with_name`: the words passed have the literals of the name, and the others are as they were.
use Rattle.reach.proofs.Rows.{Paired}
use Rattle.reach.proofs.with_name.Given as goal

abbrev pub invariant-loop-i : goal.invariant-loop-i
invariant-loop-i l = Paired l.initial.word-items l.k l.word-items l.i
