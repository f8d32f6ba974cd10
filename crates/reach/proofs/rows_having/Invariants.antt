-- `rows_having`: the set has the names passed whose rows share a name with the other set.
use Rattle.litset.specs.Words.{set_of}
use Rattle.reach.specs.Table.{RowsHaving}
use Rattle.reach.proofs.rows_having.Given as goal

abbrev pub invariant-loop-k : goal.invariant-loop-k
invariant-loop-k l = RowsHaving l.table l.k (set_of l.s.words) (set_of l.found.words)
