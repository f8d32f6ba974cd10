-- `put_name_lines`: at each turn the first of the lines that are left is stored, and at the end none is left.
use Rattle.book.specs.Book.{name_at, names_in}
use Rattle.lister.specs.Listing.{name_lines, words_by}
use Rattle.lister.proofs.Stored.{Left}
use Rattle.lister.proofs.Lines.{lines_left}
use Rattle.lister.proofs.put_name_lines.Given as goal

abbrev pub invariant-loop-k : goal.invariant-loop-k
invariant-loop-k l = Left (name_lines (words_by l.marks) 0 (names_in l.book.text l.book.lengths l.count)) l.at l.initial.t (lines_left (words_by l.marks) (name_at l.book.text l.book.lengths) l.count l.k) l.p l.t
