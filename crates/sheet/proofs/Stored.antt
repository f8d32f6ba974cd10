-- Entries stored one behind the other are the first entries of a table, and so are those of its beginning.
use mathlib.Core.Path.{◌≡◌, refl, sym, ap, ◌∙◌}
use mathlib.Core.List.{List, [], ◌∷◌, ◌++◌}
use Prim.Native.Nat.{ℕ, zero, suc, ◌+◌, ◌≤◌, ◌<◌}
use native.Mathlib.Nat.{zero-add}
use native.Mathlib.Numerals.{add-one}
use native.Mathlib.Omega.{arith}
use lib.ListN.{length, set, take}
use lib.Seq.{get_or-set_same, get_or-set_other, take-suc}
use Rattle.book.proofs.Rows.{rows_none, rows_same, rows_last}
use Rattle.sheet.specs.Flat.{zeros, entry_in, entries_in}
use Rattle.sheet.specs.declared.SheetEntry.{SheetEntry}

-- an entry stored behind the first i
pub entries_more : (table : List SheetEntry) (i : ℕ) (e : SheetEntry) → i < length table → entries_in (set table i e) (i + 1) ≡ entries_in table i ++ (e ∷ [])
entries_more table i e h =
    let here : 0 + i ≡ i = omega arith in
    rows_last (entry_in (set table i e)) 0 i
    ∙ rw (here, get_or-set_same table i e zeros h, rows_same (entry_in (set table i e)) (entry_in table) 0 i (λ k l. get_or-set_other table i k e zeros (λ q. omega arith))) refl

pub entries_first : (table : List SheetEntry) (n : ℕ) → n ≤ length table → entries_in table n ≡ take n table
entries_first table zero h = rows_none (entry_in table) 0
entries_first table (suc n) h =
    let inside : n < length table = omega arith in
    ap (entries_in table) (sym (add-one n)) ∙ rows_last (entry_in table) 0 n
    ∙ ap (λ (k : ℕ). entries_in table n ++ (entry_in table k ∷ [])) (zero-add n)
    ∙ ap (λ (l : List SheetEntry). l ++ (entry_in table n ∷ [])) (entries_first table n (omega arith)) ∙ sym (take-suc table n zeros inside)
