-- The entries of the members below l stand behind those that were there.
use Rattle.std.proofs.Common.{◌≡◌}
use Rattle.litset.specs.Words.{set_of}
use Rattle.maker.proofs.Loops.{Putting}
use Rattle.maker.proofs.Draft.put_members.Given as goal

abbrev pub invariant-loop-l : goal.invariant-loop-l
invariant-loop-l l =
    Putting l.kind l.group (set_of l.s.words) l.known l.initial.self.count l.initial.self.sheet.entries l.self.sheet.entries l.self.count l.l
    × (l.self.truths ≡ l.initial.self.truths) × (l.self.falses ≡ l.initial.self.falses)
