-- No entry before j is the claim's.
use Rattle.std.proofs.Common.{length}
use Rattle.sheet.specs.Flat.{entry_in}
use Rattle.sheet.proofs.Entries.{Unseen}
use Rattle.sheet.proofs.Check.has.Given as goal

abbrev pub invariant-loop-j : goal.invariant-loop-j
invariant-loop-j l = Unseen l.kind l.literal (entry_in l.self.entries.now) (length l.self.entries.now) l.j
