-- What a desk means, whatever its bits, and what a load answers and leaves.
use Rattle.std.specs.Prelude.{◌≡◌, ℕ, List, Result, Ok, Err}
use Rattle.scan.specs.declared.Alphabet.TheVariants.{EitherCase}
use Rattle.book.specs.Book.{no_book}
use Rattle.book.specs.declared.Book.{Book}
use Rattle.reader.specs.File.{Outcome, read_file}
use Rattle.reader.specs.Loading.{number_of, RefusedAs, WasAccepted}
use Rattle.reader.specs.declared.Refusal.{Refusal}
use Rattle.lesson.specs.State.{State}
use Rattle.lesson.specs.Calls.{meaning_of, Begins}
use Rattle.desk.specs.declared.Desk.{Desk}

abbrev pub state_of : Desk → State
state_of k = meaning_of k.shelf k.lesson

-- the shelf has this book, where `loaded` is not 0, and the lesson begins on it
pub record Begun (loaded : ℕ) (book : Book) (k : Desk) : Type 0 where
  pub shelf_is : k.shelf ≡ record { loaded = loaded; book = book }
  pub lesson_begins : Begins book k.lesson

-- a fresh desk has no book and no facts
abbrev pub Fresh : Desk → Type 0
Fresh k = Begun 0 no_book k

-- The desk k becomes m. A refused file leaves the desk as it was, and an accepted one empties the facts.
abbrev pub LoadsAs : Desk → Outcome → Result (Unit {0}) Refusal → Desk → Type 0
LoadsAs k o (Ok done) m = (b : Book) × WasAccepted o b × Begun 1 b m
LoadsAs k o (Err f) m = RefusedAs o f × (m ≡ k)

-- a load refused by a number and a line
abbrev pub LoadRefused : ℕ → ℕ → Result (Unit {0}) Refusal → Type 0
LoadRefused number line r = (f : Refusal) × (r ≡ Err f) × (number_of f.fault ≡ number) × (f.line ≡ line)

abbrev pub Loads : Desk → List ℕ → Result (Unit {0}) Refusal → Desk → Type 0
Loads k file r m = LoadsAs k (read_file EitherCase file) r m
