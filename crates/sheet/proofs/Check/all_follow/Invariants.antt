-- What is said of the whole sheet is what is said of the entries left.
use Rattle.std.proofs.Common.{length, ◌-◌}
use Rattle.litset.specs.Words.{set_of}
use Rattle.book.specs.Book.{rules_of}
use Rattle.sheet.specs.Flat.{entry_in}
use Rattle.sheet.proofs.Turns.{ComeTo}
use Rattle.sheet.proofs.Check.all_follow.Given as goal

abbrev pub invariant-loop-p : goal.invariant-loop-p
invariant-loop-p l = ComeTo (rules_of l.self.book.now) (set_of l.self.facts.words) l.self.known (entry_in l.self.entries.now) (length l.self.entries.now) l.p

abbrev pub decreases-loop-p : goal.decreases-loop-p
decreases-loop-p l = (length l.self.entries.now) - l.p.next
