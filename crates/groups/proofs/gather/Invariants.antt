-- `gather`: the runs of the names passed stand one behind another, and that with those left they are the whole.
use mathlib.Core.Path.{◌≡◌}
use lib.ListN.{length}
use Rattle.groups.proofs.Runs.{Gathering}
use Rattle.groups.proofs.gather.Given as goal

abbrev pub invariant-loop-name : goal.invariant-loop-name
invariant-loop-name l = (length l.numbers ≡ length l.initial.numbers) × Gathering l.first l.rules l.names l.numbers l.at l.name-index
