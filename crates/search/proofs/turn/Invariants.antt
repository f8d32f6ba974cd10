-- The marks before place i are turned, and those behind it are as they were.
use Rattle.std.proofs.Common.{get_or}
use Rattle.search.specs.declared.Mark.TheVariants.{Unknown}
use Rattle.search.specs.Marks.{turned_mark}
use Rattle.search.proofs.Marks.{FilledTo}
use Rattle.search.proofs.turn.Given as goal

abbrev pub invariant-loop-i : goal.invariant-loop-i
invariant-loop-i l = FilledTo Unknown (λ A. turned_mark l.from l.to (get_or l.initial.marks A Unknown)) l.initial.marks l.i l.marks
