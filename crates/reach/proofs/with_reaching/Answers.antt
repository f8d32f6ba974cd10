-- `with_reaching`: the literals of the row without those that are not in the set are those of both, so a name with both literals there has them in both.
use borrow.Author.Rules.{rules}
use mathlib.Core.Path.{refl}
use Rattle.std.specs.Prelude.{None}
use Rattle.litset.proofs.Words.{member_room}
use Rattle.reach.proofs.Names.{lowest_of}
use Rattle.reach.proofs.Reaching.{shares_none, shares_some}
use Rattle.reach.proofs.with_reaching.Goals as goal

pub returns-in-None : goal.returns-in-None
returns-in-None c = shares_none _ _ _ _ _ _ c.difference.ensures c.difference-2.ensures (lowest_of _ (member_room _ (search rules)) _ c.lowest_both.ensures None c.in-None.is) _ refl

pub returns-in-Some : goal.returns-in-Some
returns-in-Some c = shares_some _ _ _ _ _ _ c.difference.ensures c.difference-2.ensures _ (lowest_of _ (member_room _ (search rules)) _ c.lowest_both.ensures _ c.in-Some.is) _ c.union.ensures
