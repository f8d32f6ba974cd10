-- What the reader answers and leaves in memory.
use Rattle.std.specs.Prelude.{◌≡◌, List, ℕ, Result, Ok, Err}
use Rattle.wfsx.specs.Program.{Rule}
use Rattle.book.specs.Book.{book_of}
use Rattle.book.specs.declared.Book.{Book}
use Rattle.reader.specs.File.{Outcome, accepted, refused}
use Rattle.reader.specs.declared.Fault.{Fault}
use Rattle.reader.specs.declared.Fault.TheVariants.{TooLong, StrangeByte, LastLineOpen, FieldsWrong, FormWrong, NameTaken, NameMissing, TableFull, EndNotLast}
use Rattle.reader.specs.declared.Refusal.{Refusal}

-- the number of a fault in the table of refusals
abbrev pub number_of : Fault → ℕ
number_of TooLong = 1
number_of StrangeByte = 2
number_of LastLineOpen = 3
number_of FieldsWrong = 4
number_of FormWrong = 5
number_of NameTaken = 6
number_of NameMissing = 7
number_of TableFull = 8
number_of EndNotLast = 9

-- a refused file: its number is that of the fault, with the same line
abbrev pub RefusedAs : Outcome → Refusal → Type 0
RefusedAs o r = o ≡ refused (number_of r.fault) r.line

-- an accepted file, with its book: the tables hold its names and rules, with zeros behind them
pub record WasAccepted (o : Outcome) (book : Book) : Type 0 where
  pub names : List (List ℕ)
  pub rules : List Rule
  pub outcome : o ≡ accepted names rules
  pub book_is : book ≡ book_of names rules

-- a load answers the book of an accepted file, or the refusal
abbrev pub LoadedAs : Outcome → Result Book Refusal → Type 0
LoadedAs o (Ok book) = WasAccepted o book
LoadedAs o (Err r) = RefusedAs o r
