-- The body is as wanted where its entries left are.
use Rattle.std.specs.Bool.{beq}
use Rattle.litset.specs.Words.{set_of}
use Rattle.book.proofs.Bodies.{BodyLeft}
use Rattle.sheet.specs.Sheet.{shown}
use Rattle.sheet.proofs.body_as.Given as goal

abbrev pub invariant-loop-j : goal.invariant-loop-j
invariant-loop-j l = BodyLeft (λ e. beq (shown (set_of l.d.words) (set_of l.s.words) e) l.want) l.starts l.entries l.r l.j
