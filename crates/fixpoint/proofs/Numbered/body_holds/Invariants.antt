-- `body_holds`: the body holds where its entries left hold.
use Rattle.wfsx.specs.Model.{holds}
use Rattle.litset.specs.Words.{set_of}
use Rattle.book.proofs.Bodies.{BodyLeft}
use Rattle.fixpoint.proofs.Numbered.body_holds.Given as goal

abbrev pub invariant-loop-j : goal.invariant-loop-j
invariant-loop-j l = BodyLeft (holds (set_of l.d.words) (set_of l.s.words)) l.self.starts.now l.self.entries.now l.r l.j
