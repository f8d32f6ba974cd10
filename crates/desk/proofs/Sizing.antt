-- Sizing beside loading, over the contract of the load: what the one answers is what the other answers, and the figures are those of the book that the load
-- leaves on the shelf.
use mathlib.Core.Path.{◌≡◌, sym, ap, ◌∙◌}
use mathlib.Core.List.{List}
use Prim.Native.Nat.{ℕ}
use Rattle.scan.specs.declared.Alphabet.TheVariants.{EitherCase}
use Rattle.reader.specs.File.{read_file}
use Rattle.reader.specs.Sizing.{SizedAs, figures_of}
use Rattle.reader.specs.declared.Refusal.{Refusal}
use Rattle.reader.specs.declared.Sizes.{Sizes}
use Rattle.reader.proofs.Sizing.{size_as_loaded}
use Rattle.std.specs.Prelude.{Result, Ok, Err}
use Rattle.lesson.specs.declared.Shelf.{Shelf}
use Rattle.desk.specs.Calls.{Loads}
use Rattle.desk.specs.declared.Desk.{Desk}

-- what a load answers, with the figures of the book that it leaves
abbrev pub sizes_left : Result (Unit {0}) Refusal → Desk → Result Sizes Refusal
sizes_left (Ok done) m = Ok (figures_of m.shelf.book)
sizes_left (Err f) m = Err f

pub size_as_load : (k : Desk) (file : List ℕ) (r : Result (Unit {0}) Refusal) (m : Desk) → Loads k file r m
    → (q : Result Sizes Refusal) → SizedAs (read_file EitherCase file) q → q ≡ sizes_left r m
size_as_load k file (Ok done) m (b, w, begun) q s =
    size_as_loaded file (Ok b) q w s ∙ ap (λ (s : Shelf). Ok (figures_of s.book)) (sym begun.shelf_is)
size_as_load k file (Err f) m h q s = size_as_loaded file (Err f) q h.0 s
