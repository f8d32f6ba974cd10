-- `name_in`: each arm is the case of the definition that it names.
use mathlib.Core.Path.{refl}
use Rattle.reach.proofs.name_in.Goals as goal

pub returns-in-Positive : goal.returns-in-Positive
returns-in-Positive c = rw c.in-Positive.is refl

pub returns-in-Default : goal.returns-in-Default
returns-in-Default c = rw c.in-Default.is refl
