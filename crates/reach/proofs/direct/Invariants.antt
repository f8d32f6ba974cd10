-- `direct`: each row and the names of the rules left are the whole row.
use Rattle.reach.proofs.Bodies.{Drawn}
use Rattle.book.specs.Limits.{max_rules}
use Rattle.book.specs.Book.{clamp}
use Rattle.reach.proofs.direct.Given as goal

abbrev pub invariant-loop-r : goal.invariant-loop-r
invariant-loop-r l = Drawn l.book.heads l.book.starts l.book.entries (clamp max_rules l.book.rules) l.table l.r
