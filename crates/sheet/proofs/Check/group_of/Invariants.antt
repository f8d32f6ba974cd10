-- The entries from the first to j are of its group, and the set has their literals.
use Rattle.std.proofs.Common.{length}
use Rattle.litset.specs.Words.{set_of}
use Rattle.sheet.specs.Flat.{entry_in}
use Rattle.sheet.specs.Turns.{RunTo}
use Rattle.sheet.proofs.Check.group_of.Given as goal

abbrev pub invariant-loop-j : goal.invariant-loop-j
invariant-loop-j l = RunTo (entry_in l.self.entries.now) l.i (length l.self.entries.now) l.j (set_of l.members.words)
