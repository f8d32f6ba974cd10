-- `is_used`: the run of the name is empty where it ends where it begins.
use mathlib.Core.Path.{ap₂}
use mathlib.Core.Bool.{Bool, not, ◌||◌}
use Prim.Native.Nat.{ℕ}
use lib.Dec.{eqb}
use Rattle.groups.proofs.is_used.Goals as goal

pub returns : goal.returns
returns c = ap₂ (λ (s t : Bool). s || t) (ap₂ (λ (x y : ℕ). not (eqb x y)) c.rules_start-from.ensures c.rules_start-end.ensures) (ap₂ (λ (s t : Bool). s || t) c.contains.ensures c.contains-2.ensures)
