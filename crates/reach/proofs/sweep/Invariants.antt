-- `sweep`: the rows passed are whole where they are wanted.
use Rattle.litset.specs.Words.{set_of}
use Rattle.reach.specs.Table.{SweptBy}
use Rattle.reach.proofs.sweep.Given as goal

abbrev pub invariant-loop-i : goal.invariant-loop-i
invariant-loop-i l = SweptBy l.initial.table (set_of l.initial.found.words) l.i l.down l.all l.table (set_of l.found.words)
