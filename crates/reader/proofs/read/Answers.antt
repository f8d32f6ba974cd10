-- `read`: the tables of a file that was read to its end are its book.
use Rattle.reader.proofs.Held.{loaded_book}
use Rattle.reader.proofs.read.Goals as goal

pub returns : goal.returns
returns c = loaded_book c.read_file.new.tables (rw c.empty-book.ensures at c.in_ok-t.ensures)
