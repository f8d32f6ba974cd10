-- `reaching_by_table`: the rows of the table are whole, and the counts are the book's.
use Rattle.reach.proofs.Reaching.{reaching_is}
use Rattle.reach.proofs.reaching_by_table.Goals as goal

pub returns : goal.returns
returns c = rw c.name_count-names.ensures at (reaching_is _ _ _ _ _ c.reach_table-table.ensures c.rows_having.ensures)
