-- A sheet that stands, round by round.
use Rattle.std.proofs.Common.{◌≡◌, ◌*◌, ◌-◌, length}
use Rattle.litset.specs.Words.{set_of}
use Rattle.book.specs.Book.{rules_of}
use Rattle.sheet.specs.Sheet.{max_sheet}
use Rattle.sheet.specs.Flat.{entries_in}
use Rattle.maker.proofs.Rounds.{Making}
use Rattle.maker.proofs.make.Given as goal

abbrev pub invariant-loop-facts : goal.invariant-loop-facts
invariant-loop-facts l =
    (length l.d.sheet.entries ≡ max_sheet) × Making (rules_of l.book) (set_of l.facts.words) l.known (entries_in l.d.sheet.entries l.d.count) (set_of l.d.truths.words) (set_of l.d.falses.words)

abbrev pub decreases-loop-facts : goal.decreases-loop-facts
decreases-loop-facts l = 2 * l.known - l.d.count
