-- `reaching_both`: a set that has both literals of no name is reached by none.
use borrow.Author.Rules.{rules}
use Rattle.litset.proofs.Words.{member_room}
use Rattle.reach.proofs.Names.{lowest_of}
use Rattle.reach.proofs.Reaching.{reaching_none}
use Rattle.reach.proofs.reaching_both.Goals as goal

pub returns-in-None : goal.returns-in-None
returns-in-None c =
    let told = c in
    reaching_none _ _ _ _ (lowest_of _ (member_room _ (search rules)) _ told.lowest_both.ensures _ told.in-None.is) c.empty.ensures

pub returns-in-Some : goal.returns-in-Some
returns-in-Some c = c.reaching_by_table.ensures
