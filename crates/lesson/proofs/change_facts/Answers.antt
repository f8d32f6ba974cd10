-- `change_facts`: an accepted change makes the lesson's facts and then its marks.
use Rattle.lesson.proofs.Replies.{change_done}
use Rattle.lesson.proofs.change_facts.Goals as goal

pub returns : goal.returns
returns c =
    change_done _ _ _ c.in_ok-check_change.ensures _ _ c.facts_after-after.ensures _ c.in_force.ensures c.marks_with-after.ensures
