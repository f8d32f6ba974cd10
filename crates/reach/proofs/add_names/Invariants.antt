-- `add_names`: row k has the names of the entries passed as well, and that no other row is changed.
use Rattle.reach.proofs.Bodies.{Adding}
use Rattle.reach.proofs.add_names.Given as goal

abbrev pub invariant-loop-j : goal.invariant-loop-j
invariant-loop-j l = Adding l.initial.table l.k l.book.starts l.book.entries l.r l.j l.table
