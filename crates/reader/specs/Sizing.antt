-- What sizing answers (document 02, A.1): how many names, rules and body literals a file fills, or its refusal.
use Rattle.std.specs.Prelude.{◌≡◌, List, ℕ, length, Result, Ok, Err}
use Rattle.wfsx.specs.Program.{Rule}
use Rattle.book.specs.Book.{names_of, rules_of}
use Rattle.book.specs.declared.Book.{Book}
use Rattle.reader.specs.File.{Outcome, accepted, body_literals}
use Rattle.reader.specs.Loading.{RefusedAs}
use Rattle.reader.specs.declared.Refusal.{Refusal}
use Rattle.reader.specs.declared.Sizes.{Sizes}

-- the three figures of some names and rules
abbrev pub sizes_of : List (List ℕ) → List Rule → Sizes
sizes_of names rules = record { names = length names; rules = length rules; body_literals = body_literals rules }

-- the three figures of a book
abbrev pub figures_of : Book → Sizes
figures_of b = sizes_of (names_of b) (rules_of b)

-- an accepted file, with its figures
pub record WasSized (o : Outcome) (sizes : Sizes) : Type 0 where
  pub names : List (List ℕ)
  pub rules : List Rule
  pub outcome : o ≡ accepted names rules
  pub sizes_are : sizes ≡ sizes_of names rules

-- sizing answers the figures of an accepted file, or the refusal that loading gives
abbrev pub SizedAs : Outcome → Result Sizes Refusal → Type 0
SizedAs o (Ok sizes) = WasSized o sizes
SizedAs o (Err r) = RefusedAs o r

-- what loading answers, with the figures of its book
abbrev pub loaded_size : Result Book Refusal → Result Sizes Refusal
loaded_size (Ok b) = Ok (figures_of b)
loaded_size (Err r) = Err r
