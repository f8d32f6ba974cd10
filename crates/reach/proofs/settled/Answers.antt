-- `settled`: the test is the definition's.
use mathlib.Core.Path.{sym, ap₂, ◌∙◌}
use mathlib.Core.Bool.{◌&&◌}
use Rattle.reach.proofs.settled.Goals as goal

pub returns-then-contains : goal.returns-then-contains
returns-then-contains c = rw (sym (ap₂ ◌&&◌ c.contains.ensures c.contains-2.ensures) ∙ c.if-contains.true) c.union.ensures

pub returns : goal.returns
returns c = rw (sym (ap₂ ◌&&◌ c.contains.ensures c.contains-2.ensures) ∙ c.if-contains.false) c.with_name.ensures
