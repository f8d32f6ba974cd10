-- Passes so far, and how many entries they can still write.
use Rattle.std.proofs.Common.{◌≡◌, ◌*◌, ◌-◌}
use Rattle.litset.specs.Words.{set_of}
use Rattle.book.specs.Book.{rules_of}
use Rattle.sheet.specs.Flat.{entries_in}
use Rattle.maker.proofs.Rounds.{Grew}
use Rattle.maker.proofs.Draft.put_truths.Given as goal

abbrev pub invariant-loop-self : goal.invariant-loop-self
invariant-loop-self l =
    Grew (rules_of l.book) l.known (set_of l.self.falses.words) (entries_in l.initial.self.sheet.entries l.initial.self.count) (set_of l.initial.self.truths.words) l.self.sheet.entries l.self.count (set_of l.self.truths.words)
    × (l.self.falses ≡ l.initial.self.falses)

abbrev pub decreases-loop-self : goal.decreases-loop-self
decreases-loop-self l = 2 * l.known - l.self.count
