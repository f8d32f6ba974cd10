-- Something can be made for every claim: rounds end, since each but the last adds an entry, and what they lead to stands in some table.
use mathlib.Core.Path.{◌≡◌, refl, sym, ◌∙◌, ap}
use mathlib.Core.Logic.{◌⊎◌, inl, inr}
use mathlib.Core.Bool.{Bool, true, false, cond}
use mathlib.Core.List.{List, [], ◌∷◌, ◌++◌, map, append_assoc, append-nil}
use Prim.Native.Nat.{ℕ, zero, suc, ◌+◌, ◌*◌, ◌≤◌, ◌<◌}
use native.Mathlib.Omega.{arith}
use lib.ListN.{length, set, length-append, length-set, length-replicate}
use Rattle.truth.proofs.Truth.{decided}
use Rattle.wfsx.specs.Sets.{Set, ◌∈◌, ◌∉◌, ◌∪◌, ◌∖◌, ◌is_in◌, members}
use Rattle.wfsx.specs.Program.{Rule, positive}
use Rattle.wfsx.specs.Model.{Γs}
use Rattle.std.specs.Prelude.{Option}
use Rattle.litset.specs.Words.{capacity, from_on}
use Rattle.book.specs.Limits.{max_names}
use Rattle.book.specs.Book.{program}
use Rattle.book.proofs.Rows.{rows_none}
use Rattle.sheet.specs.Sheet.{max_sheet}
use Rattle.sheet.specs.Flat.{zeros, entry_in, entries_in, blank}
use Rattle.sheet.specs.declared.SheetEntry.{SheetEntry}
use Rattle.sheet.specs.declared.Sheet.{Sheet}
use Rattle.sheet.proofs.Stored.{entries_more}
use Rattle.maker.specs.Result.{MadeFor}
use Rattle.maker.specs.Making.{member_entry, passed, none_yet, one_more}
use Rattle.maker.specs.declared.Made.{Made}
use Rattle.maker.proofs.Rounds.{Making, making_start, with_group, group_covers, with_passes, making_few, made_found, made_none}

-- ---- a table for some entries

unfoldable put_all : List SheetEntry → ℕ → List SheetEntry → List SheetEntry
put_all table i [] = table
put_all table i (e ∷ es) = put_all (set table i e) (i + 1) es

all_put : (es : List SheetEntry) (table : List SheetEntry) (i : ℕ) → i + length es ≤ length table → entries_in (put_all table i es) (i + length es) ≡ entries_in table i ++ es
unfolding put_all
all_put [] table i h = let z : i + 0 ≡ i = omega arith in rw z (sym (append-nil (entries_in table i)))
all_put (e ∷ es) table i h =
    let z : i + suc (length es) ≡ i + 1 + length es = omega arith in
    let l = length-set table i e in
    rw z (all_put es (set table i e) (i + 1) (omega arith)) ∙ ap (λ (a : List SheetEntry). a ++ es) (entries_more table i e (omega arith)) ∙ append_assoc (entries_in table i) (e ∷ []) es

tabled : (es : List SheetEntry) → length es ≤ max_sheet → (s : Sheet) × (entries_in s.entries (length es) ≡ es)
tabled es h =
    let l : length blank.entries ≡ max_sheet = length-replicate {A = SheetEntry} max_sheet zeros in
    let z : 0 + length es ≡ length es = omega arith in
    (record { entries = put_all blank.entries 0 es }, rw z at (all_put es blank.entries 0 (omega arith)) ∙ ap (λ (a : List SheetEntry). a ++ es) (rows_none (entry_in blank.entries) 0))

-- ---- rounds

module _ (rules : List Rule) (facts : Set) (known names : ℕ) (known_is : known ≡ 2 * names) (few : names ≤ max_names) (facts_room : (A : ℕ) → A ∈ facts → A < capacity)
    (small : (r : Rule) → r is_in rules → (B : ℕ) → positive B is_in r.body → B < capacity) where
  -- a sheet to which nothing can be added
  record Whole : Type 0 where
    pub es : List SheetEntry
    pub T : Set
    pub F : Set
    pub making : Making rules facts known es T F
    pub covers : (B : ℕ) → B < capacity → B ∉ Γs (program rules (facts ∪ from_on known)) T → B ∈ F
    pub last : passed known F 0 rules T ≡ []

  rounds_from : (fuel : ℕ) (es : List SheetEntry) (T F : Set) → Making rules facts known es T F → 2 * known < fuel + length es → Whole
  rounds_from zero es T F s h = absurd (omega (arith, making_few rules facts known names known_is few facts_room small s))
  rounds_from (suc fuel) es T F s h = go (passed known E 0 rules T) refl (rounds_from fuel)
    where
      D : Set
      D = Γs (program rules (facts ∪ from_on known)) T

      G : Set
      G = (from_on 0 ∖ D) ∖ F

      E : Set
      E = F ∪ G

      written : List SheetEntry
      written = map (member_entry 0 (length es)) (members known G)

      grouped : Making rules facts known (es ++ written) T E
      grouped = with_group rules facts known names known_is few facts_room small s refl refl refl refl

      go : (W : List SheetEntry) → passed known E 0 rules T ≡ W → ((ds : List SheetEntry) (U X : Set) → Making rules facts known ds U X → 2 * known < fuel + length ds → Whole) → Whole
      go [] e rest = record { es = _; T = T; F = E; making = grouped; covers = group_covers rules facts known names known_is few facts_room small s refl refl refl refl; last = e }
      go (w ∷ W) e rest =
          rest _ _ E (with_passes rules facts known names known_is few facts_room small grouped (one_more none_yet))
          (omega (arith, ap length e, length-append es written, length-append (es ++ written) (passed known E 0 rules T)))

  pub made_exists : (truth : Bool) (A : ℕ) → (m : Option Made) × MadeFor rules facts known truth A m
  made_exists truth A = go (decided (cond truth (w.T A) (w.F A)))
    where
      w : Whole
      w = rounds_from (suc (2 * known)) _ _ _ (making_start rules facts known names known_is few facts_room small refl refl) (omega arith)

      table : (s : Sheet) × (entries_in s.entries (length w.es) ≡ w.es)
      table = tabled w.es (omega (arith, known_is, making_few rules facts known names known_is few facts_room small w.making))

      there : Making rules facts known (entries_in table.0.entries (length w.es)) w.T w.F
      there = rw table.1 w.making

      go : (cond truth (w.T A) (w.F A) ≡ true) ⊎ (cond truth (w.T A) (w.F A) ≡ false) → (m : Option Made) × MadeFor rules facts known truth A m
      go (inl e) = (_, made_found rules facts known names known_is few facts_room small table.0.entries (length w.es) there refl refl truth A e)
      go (inr e) = (_, made_none rules facts known names known_is few facts_room small table.0.entries (length w.es) there refl refl truth A w.covers w.last e)
