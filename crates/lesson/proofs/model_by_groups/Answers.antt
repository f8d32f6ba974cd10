-- `model_by_groups`: the sets are M and N of the lesson's program.
use Rattle.lesson.proofs.Replies.{groups_given}
use Rattle.lesson.proofs.model_by_groups.Goals as goal

pub returns : goal.returns
returns c =
    groups_given _ _ c.in_ok-check_loaded.ensures _ c.in_force.ensures _ c.model_by_groups-values.ensures _ c.is_contradictory-contradictory.ensures
