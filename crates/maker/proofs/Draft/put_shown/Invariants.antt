-- What a pass over all rules writes is what was written, and what a pass over those left writes.
use Rattle.std.proofs.Common.{◌≡◌}
use Rattle.litset.specs.Words.{set_of}
use Rattle.maker.proofs.Loops.{Passing}
use Rattle.maker.proofs.Draft.put_shown.Given as goal

abbrev pub invariant-loop-r : goal.invariant-loop-r
invariant-loop-r l =
    Passing l.book l.known (set_of l.self.falses.words) (set_of l.initial.self.truths.words) l.initial.self.count l.initial.self.sheet.entries l.self.sheet.entries l.self.count (set_of l.self.truths.words) l.r
    × (l.self.falses ≡ l.initial.self.falses)
