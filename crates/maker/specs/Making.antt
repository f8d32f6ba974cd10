-- What the functions of the maker tell each other.
use Rattle.std.specs.Prelude.{Bool, not, cond, ◌&&◌, List, [], ◌∷◌, ◌++◌, ◌≡◌, ℕ, suc, ◌+◌, eqb, ltb, length, map}
use Rattle.wfsx.specs.Sets.{Set, add, members}
use Rattle.wfsx.specs.Program.{Rule}
use Rattle.wfsx.specs.Model.{every}
use Rattle.litset.specs.Words.{set_of}
use Rattle.sheet.specs.Sheet.{shown, fact_number}
use Rattle.sheet.specs.Flat.{entries_in}
use Rattle.sheet.specs.declared.SheetEntry.{SheetEntry}
use Rattle.maker.specs.declared.Draft.{Draft}

-- ---- the entries that are written

-- for the fact A where the kind is 1, and for A in the group g where it is 0
abbrev pub member_entry : (kind g A : ℕ) → SheetEntry
member_entry kind g A = record { kind = kind; literal = A; rule = cond (eqb kind 1) (fact_number A) 0; group = g }

-- for the head A of rule k
abbrev pub rule_entry : (A k : ℕ) → SheetEntry
rule_entry A k = record { kind = 1; literal = A; rule = k; group = 0 }

-- a rule adds its head to T: the head is known and not in T, and T and F show the body
abbrev pub adds : ℕ → (T F : Set) → Rule → Bool
adds known T F r = (ltb r.head known && not (T r.head)) && every (shown T F) r.body

-- one pass over the rules, numbered from k on: the entries of those that add their heads, one behind the other
unfoldable pub passed : ℕ → (F : Set) → ℕ → List Rule → (T : Set) → List SheetEntry
passed known F k [] T = []
passed known F k (r ∷ rs) T = cond (adds known T F r) (rule_entry r.head k ∷ passed known F (suc k) rs (add r.head T)) (passed known F (suc k) rs T)

-- T with the literals of some entries
unfoldable pub with_literals : List SheetEntry → Set → Set
with_literals [] T = T
with_literals (e ∷ es) T = with_literals es (add e.literal T)

-- what is left where entries for the members of S below `known` are put behind a draft's
pub record MembersPut (kind g known : ℕ) (S : Set) (d d' : Draft) : Type 0 where
  pub count : d'.count ≡ d.count + length (members known S)
  pub entries : entries_in d'.sheet.entries d'.count ≡ entries_in d.sheet.entries d.count ++ map (member_entry kind g) (members known S)
  pub truths : d'.truths ≡ d.truths
  pub falses : d'.falses ≡ d.falses
  pub room : length d'.sheet.entries ≡ length d.sheet.entries

-- the entries of one pass over all rules
abbrev pub pass : List Rule → ℕ → Draft → List SheetEntry
pass rules known d = passed known (set_of d.falses.words) 0 rules (set_of d.truths.words)

-- what one pass over all rules leaves
pub record PassOf (rules : List Rule) (known : ℕ) (d d' : Draft) : Type 0 where
  pub count : d'.count ≡ d.count + length (pass rules known d)
  pub entries : entries_in d'.sheet.entries d'.count ≡ entries_in d.sheet.entries d.count ++ pass rules known d
  pub truths : set_of d'.truths.words ≡ with_literals (pass rules known d) (set_of d.truths.words)
  pub falses : d'.falses ≡ d.falses
  pub room : length d'.sheet.entries ≡ length d.sheet.entries

-- passes over the rules, one after the other: from the entries `before` and the set T they lead to `after` and U
pub data Passes (rules : List Rule) (known : ℕ) (F : Set) (before : List SheetEntry) (T : Set) : List SheetEntry → Set → Type 0 where
  none_yet : Passes rules known F before T before T
  one_more : {after : List SheetEntry} {U : Set} → Passes rules known F before T after U
      → Passes rules known F before T (after ++ passed known F 0 rules U) (with_literals (passed known F 0 rules U) U)

-- what passes over the rules leave where the last adds nothing
pub record AllPassed (rules : List Rule) (known : ℕ) (d d' : Draft) : Type 0 where
  pub passes : Passes rules known (set_of d.falses.words) (entries_in d.sheet.entries d.count) (set_of d.truths.words) (entries_in d'.sheet.entries d'.count) (set_of d'.truths.words)
  pub last : pass rules known d' ≡ []
  pub falses : d'.falses ≡ d.falses
  pub room : length d'.sheet.entries ≡ length d.sheet.entries
