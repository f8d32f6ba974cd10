-- No "false" entry before j has the number.
use Rattle.std.proofs.Common.{◌≡◌, false}
use Rattle.sheet.specs.Flat.{entry_in}
use Rattle.sheet.specs.Turns.{numbered}
use Rattle.sheet.proofs.Check.is_ended.Given as goal

abbrev pub invariant-loop-j : goal.invariant-loop-j
invariant-loop-j l = numbered (entry_in l.self.entries.now) l.j l.g ≡ false
