-- `names_used`: no name from n on has a rule or a fact.
use Rattle.litset.specs.Words.{set_of}
use Rattle.groups.specs.Parts.{UsedBelow}
use Rattle.std.proofs.Common.{◌≤◌}
use Prim.Native.Nat.{min}
use Rattle.book.specs.Limits.{max_names}
use Rattle.groups.proofs.names_used.Given as goal

abbrev pub invariant-loop-k : goal.invariant-loop-k
invariant-loop-k l = (min l.names max_names ≤ l.k) × UsedBelow l.first (set_of l.facts.words) l.k
