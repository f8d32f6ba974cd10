-- `mezhkura_check_sheet`: what the lesson answers for the sheet of the run and a count that is the run's length is what is to be answered for the run
-- (`run_flat`).
use Rattle.std.proofs.Common.{rules}
use Rattle.mezhkura.proofs.Runs.{run_flat}
use Rattle.mezhkura.proofs.mezhkura_check_sheet.Goals as goal

pub returns : goal.returns
returns c =
    (c.check_sheet.result, run_flat _ _ _ _ c.args.entries.now _ _ _ c.read_entries.ensures c.check_sheet.ensures (search rules), c.check_reply.ensures)
