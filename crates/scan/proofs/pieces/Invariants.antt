-- `pieces`: the stops passed and the pieces of what is left make the pieces of the whole.
use Rattle.std.proofs.Common.{◌≡◌, ◌≤◌, ◌+◌, length, drop}
use Rattle.scan.specs.Text.{split}
use Rattle.scan.proofs.pieces.Given as goal

abbrev pub invariant-loop-b : goal.invariant-loop-b
invariant-loop-b l = (l.n ≤ l.b-index) × (l.n + length (split l.stop (drop l.b-index l.s)) ≡ length (split l.stop l.s))
