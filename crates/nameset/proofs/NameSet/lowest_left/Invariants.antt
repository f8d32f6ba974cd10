-- `lowest_left`: no name in the words passed is left.
use Rattle.wfsx.specs.Sets.{◌∖◌}
use Rattle.litset.specs.Words.{set_of}
use Rattle.nameset.proofs.Names.{NoneBefore}
use Rattle.nameset.proofs.NameSet.lowest_left.Given as goal

abbrev pub invariant-loop-i : goal.invariant-loop-i
invariant-loop-i l = NoneBefore (set_of l.fn.self.words ∖ set_of l.other.words) l.i
