-- `read_lines`: what the lines passed say is held and stored, and those that are left decide.
use Prim.Native.Nat.{◌+◌, ◌-◌, ◌≤◌}
use lib.ListN.{length}
use Rattle.reader.proofs.Progress.{ReadTo}
use Rattle.reader.proofs.read_lines.Given as goal

abbrev pub invariant-loop-at : goal.invariant-loop-at
invariant-loop-at g l =
    (l.at ≤ length l.b + 1) × (l.number ≤ l.at + 1) × ReadTo l.b l.t l.at l.number l.names (g.T.Tables.lists l.initial.tables) (g.T.Tables.lists l.tables)

abbrev pub decreases-loop-at : goal.decreases-loop-at
decreases-loop-at g l = length l.b + 1 - l.at
