-- `facts_after`: a literal that is put in has room in the set.
use Rattle.lesson.proofs.Replies.{put_in_set}
use Rattle.lesson.proofs.facts_after.Goals as goal

pub returns-in-PutIn : goal.returns-in-PutIn
returns-in-PutIn c = put_in_set _ _ _ _ c.in-PutIn.is c.requires c.insert.ensures
