-- What the calls over a lent run of entries cite: what is said of the run is what is said of its entries in a sheet's table.
use mathlib.Core.Path.{◌≡◌, ◌∙◌, ap}
use mathlib.Core.List.{List}
use Prim.Native.Nat.{ℕ, ◌≤◌}
use native.Mathlib.Omega.{arith}
use lib.ListN.{length}
use Rattle.book.proofs.Rows.{rows_length}
use Rattle.sheet.specs.Sheet.{max_sheet}
use Rattle.sheet.specs.Flat.{entry_in, entries_in}
use Rattle.sheet.specs.declared.SheetEntry.{SheetEntry}
use Rattle.std.specs.Prelude.{Bool, Result}
use Rattle.lesson.specs.Calls.{meaning_of, Checks}
use Rattle.lesson.specs.declared.Shelf.{Shelf}
use Rattle.lesson.specs.declared.Lesson.{Lesson}
use Rattle.lesson.specs.declared.Refusal.{Refusal}
use Rattle.lesson.proofs.Sheets.{check_length}

-- beyond the most entries the answer depends on their count alone, n
pub run_flat : (s : Shelf) (l : Lesson) (literal : ℕ) (truth : Bool) (es table : List SheetEntry) (n : ℕ) (r : Result (Unit {0}) Refusal)
    → (length es ≤ max_sheet → entries_in table (length es) ≡ es) → Checks s l literal truth (entries_in table n) r → n ≡ length es → Checks s l literal truth es r
run_flat s l literal truth es table n r same h all =
    let size = rows_length (entry_in table) 0 n in
    record { says = h.says ∙ check_length (meaning_of s l) literal truth (entries_in table n) es (size ∙ all) (λ few. ap (entries_in table) all ∙ same (omega arith)) }
