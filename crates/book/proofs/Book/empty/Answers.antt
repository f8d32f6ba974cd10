use Rattle.std.proofs.Common.{rules}
use Rattle.book.specs.Book.{book_of, joined, starts_from}
use Rattle.book.proofs.Book.empty.Goals as goal

pub returns : goal.returns
unfolding book_of joined starts_from
returns c = search rules
