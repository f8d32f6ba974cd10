-- `copy_run`: what is put in with what is left is the whole, and that the places left have room.
use mathlib.Core.Path.{◌≡◌}
use mathlib.Core.List.{◌++◌}
use Prim.Native.Nat.{◌+◌, ◌-◌}
use lib.ListN.{length, take, drop}
use Rattle.groups.proofs.Runs.{Copying}
use Rattle.std.proofs.Common.{◌≤◌}
use Rattle.groups.proofs.copy_run.Given as goal

abbrev pub invariant-loop-j : goal.invariant-loop-j
invariant-loop-j l =
    (length l.numbers ≡ length l.initial.numbers) × (l.j - l.from ≤ l.end - l.from)
    × Copying l.rules l.end (take l.at l.initial.numbers ++ take (l.end - l.from) (drop l.from l.rules)) l.numbers (l.at + (l.j - l.from)) l.j
