-- A sheet in a table of entries, of which the first are the sheet's.
use Rattle.std.specs.Prelude.{List, ℕ, get_or, replicate}
use Rattle.book.specs.Book.{rows}
use Rattle.sheet.specs.Sheet.{max_sheet}
use Rattle.sheet.specs.declared.SheetEntry.{SheetEntry}
use Rattle.sheet.specs.declared.Sheet.{Sheet}

-- an entry whose numbers are 0
abbrev pub zeros : SheetEntry
zeros = record { kind = 0; literal = 0; rule = 0; group = 0 }

-- entry i of a table; past its end the numbers are 0
abbrev pub entry_in : List SheetEntry → ℕ → SheetEntry
entry_in table i = get_or table i zeros

-- the first n entries of a table
abbrev pub entries_in : List SheetEntry → ℕ → List SheetEntry
entries_in table n = rows (entry_in table) 0 n

-- a sheet that has no entry yet
abbrev pub blank : Sheet
blank = record { entries = replicate max_sheet zeros }
