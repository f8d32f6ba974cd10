-- The set has, besides the facts and the literals whose complements are true, the heads of the rules before r that are left open.
use Rattle.std.proofs.Common.{false}
use Rattle.std.specs.Bool.{beq}
use Rattle.litset.specs.Words.{set_of}
use Rattle.sheet.specs.Sheet.{shown}
use Rattle.sheet.proofs.Tables.{Passed}
use Rattle.sheet.proofs.Check.left_open.Given as goal

abbrev pub invariant-loop-r : goal.invariant-loop-r
invariant-loop-r l = Passed l.self.book.now (λ e. beq (shown (set_of l.d.words) (set_of l.t.words) e) false) (set_of l.initial.done.words) (set_of l.done.words) l.r
