-- `name_at_turn`: each way is the case of the definition that its test picks.
use native.Mathlib.Omega.{arith}
use mathlib.Core.Path.{refl}
use Rattle.truth.proofs.Truth.{clash}
use Rattle.reach.proofs.name_at_turn.Goals as goal

pub returns-then-down : goal.returns-then-down
returns-then-down c = record { below = omega arith; upwards = λ e. absurd (clash c.if-down.true e) }

pub returns-else-down : goal.returns-else-down
returns-else-down c = record { below = omega (arith, c.requires); upwards = λ e. refl }
