-- `group_end`: the places passed have the number of the first.
use mathlib.Core.Path.{◌≡◌}
use Prim.Native.Nat.{◌+◌}
use lib.ListN.{get_or, drop}
use Rattle.groups.specs.Parts.{alike}
use Rattle.groups.proofs.group_end.Given as goal

abbrev pub invariant-loop-end : goal.invariant-loop-end
invariant-loop-end l = (l.end + alike (get_or l.group l.p 0) (drop l.end l.group) ≡ l.p + alike (get_or l.group l.p 0) (drop l.p l.group))
