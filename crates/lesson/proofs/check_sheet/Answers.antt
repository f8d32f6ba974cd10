-- `check_sheet`: an accepted sheet is accepted over the lesson's rules and facts.
use Rattle.std.proofs.Common.{◌∙◌, Ok}
use Rattle.sheet.specs.Flat.{entries_in}
use Rattle.lesson.proofs.Sheets.{judged_ok, check_given}
use Rattle.lesson.proofs.check_sheet.Goals as goal

pub returns : goal.returns
returns c =
    check_given _ _ _ _ c.in_ok-check_literal.ensures (entries_in c.args.sheet.now.entries c.args.n) _ c.in_force.ensures (Ok tt)
    (judged_ok tt c.judge.result c.in_ok-judge.was ∙ c.judge.ensures)
