use Rattle.sheet.proofs.Turns.{come_start}
use Rattle.std.proofs.Common.{refl}
use Rattle.sheet.proofs.Check.all_follow.Goals as goal

pub loop-p-init : goal.loop-p-init
loop-p-init c = come_start _ refl c.empty.ensures c.empty-2.ensures
