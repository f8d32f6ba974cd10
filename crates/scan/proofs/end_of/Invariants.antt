-- `end_of`: no stop stands among the bytes passed, so the end of the piece is as far from here as the definition says.
use Rattle.std.proofs.Common.{◌≡◌, ◌+◌, drop}
use Rattle.scan.specs.Text.{len_to}
use Rattle.scan.proofs.end_of.Given as goal

abbrev pub invariant-loop-i : goal.invariant-loop-i
invariant-loop-i l = l.i + len_to l.stop (drop l.i l.s) ≡ l.from + len_to l.stop (drop l.from l.s)
