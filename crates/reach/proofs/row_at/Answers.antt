use Rattle.std.proofs.Common.{arith}
use Rattle.reach.proofs.Rows.{row_is}
use Rattle.reach.proofs.row_at.Goals as goal

pub returns : goal.returns
returns c = row_is c.args.table.now c.args.k _ (omega (arith, c.told-table, c.requires))
