-- The entries before k pass.
use Rattle.litset.specs.Words.{set_of}
use Rattle.sheet.specs.Flat.{entry_in}
use Rattle.sheet.specs.Turns.{passes}
use Rattle.sheet.proofs.Entries.{Passing}
use Rattle.sheet.proofs.Check.all_pass.Given as goal

abbrev pub invariant-loop-k : goal.invariant-loop-k
invariant-loop-k l = Passing (passes l.self.known (set_of l.opened.words)) (entry_in l.self.entries.now) l.i l.j l.k
