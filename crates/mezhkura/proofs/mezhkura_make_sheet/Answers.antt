-- `mezhkura_make_sheet`: what was made has room in the run and is within the sheet's table.
use Rattle.lesson.proofs.Sheets.{make_within}
use Rattle.mezhkura.proofs.mezhkura_make_sheet.Goals as goal

pub write_entries-requires : goal.write_entries-requires
write_entries-requires c = make_within _ _ _ _ _ c.in-Ok.made c.in-Ok.ensures
