-- `names_below`: the set has the names passed.
use mathlib.Core.Path.{◌≡◌}
use Rattle.wfsx.specs.Reach.{literals_of}
use Rattle.litset.specs.Words.{set_of}
use Rattle.reach.specs.Table.{below}
use Rattle.reach.proofs.names_below.Given as goal

abbrev pub invariant-loop-k : goal.invariant-loop-k
invariant-loop-k l = (set_of l.s.words ≡ literals_of (below l.k))
