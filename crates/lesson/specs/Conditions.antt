-- The conditions of document 01, "When a call is turned down by the state", for each call in their order; that of 24 is document 02's (A.7).
use Rattle.std.specs.Prelude.{◌≡◌, Bool, false, ◌⊎◌, List, [], ◌∷◌, ◌++◌, ℕ, ◌*◌, ◌≤◌, ◌<◌, length}
use Rattle.wfsx.specs.Sets.{◌∈◌, ◌∉◌}
use Rattle.wfsx.specs.Reach.{name_of}
use Rattle.wfsx.specs.ContradictoryNames.{ContradictoryName}
use Rattle.reader.specs.Conditions.{Row}
use Rattle.sheet.specs.Sheet.{max_sheet, at, fault, kind_of, among, IsSo}
use Rattle.sheet.specs.declared.SheetEntry.{SheetEntry}
use Rattle.lesson.specs.State.{unloaded, its_names, its_rules, State, in_force, program_in, listing_in, its_literal, state_after, known_in}
use Rattle.lesson.specs.declared.Change.{Change}
use Rattle.lesson.specs.declared.Change.TheVariants.{PutIn, TakeOut}

-- 20: no book is loaded
abbrev pub NoBook : State → Type 0
NoBook d = d.book ≡ unloaded

-- 21: the literal number isn't below twice the count of names
abbrev pub NotBelow : State → ℕ → Type 0
NotBelow d A = 2 * length (its_names d.book) ≤ A

-- 22: put in: the literal is put in now. 23: take out: the literal isn't put in now
abbrev pub change_row : State → Change → Row
change_row d (PutIn A) = (22, A ∈ d.own.put_in)
change_row d (TakeOut A) = (23, A ∉ d.own.put_in)

abbrev pub change_rows : State → Change → List Row
change_rows d c = (20, NoBook d) ∷ (21, NotBelow d (its_literal c)) ∷ change_row d c ∷ []

-- 24: the literal's name, or a name it reaches, has both literals in M
abbrev pub verdict_rows : State → ℕ → List Row
verdict_rows d A = (20, NoBook d) ∷ (21, NotBelow d A) ∷ (24, ContradictoryName (program_in d) (name_of A)) ∷ []

abbrev pub search_rows : State → ℕ → List Row
search_rows d A = (20, NoBook d) ∷ (21, NotBelow d A) ∷ []

-- the model call, the working order and the model by groups have 20 alone
abbrev pub book_rows : State → List Row
book_rows d = (20, NoBook d) ∷ []

-- 25: the lent buffer is shorter than the listing
abbrev pub listing_rows : State → List ℕ → List Row
listing_rows d buffer = (20, NoBook d) ∷ (25, length buffer < length (listing_in d)) ∷ []

-- a preview has those of the change, then those of the listing of what the change leaves (document 02, A.8)
abbrev pub preview_rows : State → Change → List ℕ → List Row
preview_rows d c buffer = change_rows d c ++ listing_rows (state_after d c) buffer

-- ---- proof sheets (document 02, A.3)

-- 26: no entries, or more than a sheet may have
abbrev pub Miscounted : List SheetEntry → Type 0
Miscounted es = (length es ≡ 0) ⊎ (max_sheet < length es)

-- 27: an entry doesn't follow; the first is that at i
abbrev pub FaultAt : State → List SheetEntry → ℕ → Type 0
FaultAt d es i = fault (its_rules d.book) (in_force d.own) (known_in d.book) es ≡ at i

-- 28: the claim isn't among the entries
abbrev pub sheet_rows : State → ℕ → Bool → List SheetEntry → List Row
sheet_rows d A truth es = (26, Miscounted es) ∷ (27, (i : ℕ) × FaultAt d es i) ∷ (28, among (kind_of truth) A es ≡ false) ∷ []

abbrev pub check_rows : State → ℕ → Bool → List SheetEntry → List Row
check_rows d A truth es = (20, NoBook d) ∷ (21, NotBelow d A) ∷ sheet_rows d A truth es

-- the maker: 28: the claim isn't so; 25: the lent run is shorter than two entries for each literal
abbrev pub claim_rows : State → ℕ → Bool → List SheetEntry → List Row
claim_rows d A truth run = (28, IsSo (program_in d) truth A → ⊥) ∷ (25, length run < 2 * known_in d.book) ∷ []

abbrev pub make_rows : State → ℕ → Bool → List SheetEntry → List Row
make_rows d A truth run = (20, NoBook d) ∷ (21, NotBelow d A) ∷ claim_rows d A truth run
