-- The same table as plain numbers, four for an entry: entry i has its kind, literal, rule number and group number at the places from 4 i on.
use Rattle.std.specs.Prelude.{List, [], ◌∷◌, ℕ, ◌+◌, ◌*◌, get_or}
use Rattle.std.proofs.lemmas.List.Edits.{sets}
use Rattle.book.specs.Book.{rows}
use Rattle.sheet.specs.declared.SheetEntry.{SheetEntry}

-- entry i of a table of numbers
unfoldable pub entry_in_numbers : List ℕ → ℕ → SheetEntry
entry_in_numbers fields i =
    record { kind = get_or fields (4 * i) 0; literal = get_or fields (4 * i + 1) 0; rule = get_or fields (4 * i + 2) 0; group = get_or fields (4 * i + 3) 0 }

-- the first n entries of a table of numbers
abbrev pub entries_in_numbers : List ℕ → ℕ → List SheetEntry
entries_in_numbers fields n = rows (entry_in_numbers fields) 0 n

-- a table of numbers with entry i stored
unfoldable pub with_entry : List ℕ → ℕ → SheetEntry → List ℕ
with_entry fields i e = sets fields (4 * i) (e.kind ∷ e.literal ∷ e.rule ∷ e.group ∷ [])
