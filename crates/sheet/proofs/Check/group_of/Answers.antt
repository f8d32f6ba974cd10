use Rattle.std.proofs.Common.{◌∙◌, ap}
use Rattle.litset.specs.Words.{with}
use Rattle.sheet.proofs.Entries.{run_first, run_more}
use Rattle.sheet.proofs.Check.group_of.Goals as goal

pub loop-j-init : goal.loop-j-init
loop-j-init c = run_first c.requires c.entry_of-first.ensures c.from.ensures (c.insert-members.ensures ∙ ap (with c.from.result) c.empty.ensures)

pub loop-j-preserved : goal.loop-j-preserved
loop-j-preserved c =
    run_more c.loop-j.invariant c.entry_of-e.ensures c.entry_of-first.ensures c.is_false_of.ensures c.loop-j-test.true c.if-not-is_false_of.false c.from-in-loop-j.ensures c.insert-members-in-loop-j.ensures
