-- `settle_groups`: the places left are those of the groups left in working order, and that the values are those of the groups before.
use mathlib.Core.Path.{◌≡◌}
use Prim.Native.Nat.{◌-◌}
use lib.ListN.{length}
use Rattle.litset.specs.Words.{set_of}
use Rattle.book.specs.Limits.{max_rules}
use Rattle.groups.specs.Parts.{Laid}
use Rattle.groups.proofs.Loop.{Before}
use Rattle.groups.proofs.settle_groups.Given as goal

abbrev pub invariant-loop-p : goal.invariant-loop-p
invariant-loop-p l = (length l.numbers ≡ max_rules) × ((t : Laid l.book.heads l.book.starts l.book.entries l.index.starts l.index.rules l.name l.group (set_of l.facts.words)) → Before t l.p l.v)

abbrev pub decreases-loop-p : goal.decreases-loop-p
decreases-loop-p l = length l.name - l.p
