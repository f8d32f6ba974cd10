-- What the functions of the check tell each other. A sheet is given by its entry at each place, e, and their count n.
use Rattle.std.specs.Prelude.{◌≡◌, Bool, true, false, not, ◌&&◌, ◌||◌, List, ℕ, zero, suc, ◌-◌, ◌≤◌, ◌<◌, eqb, ltb, Result, Ok, Err, IfErr}
use Rattle.wfsx.specs.Sets.{Set}
use Rattle.wfsx.specs.Program.{Rule, Program, seminormal}
use Rattle.wfsx.specs.Model.{holds, every, supported}
use Rattle.litset.specs.Words.{capacity, set_of}
use Rattle.book.specs.Book.{rows}
use Rattle.sheet.specs.Sheet.{shown, listed, Fault, none, at, first_failing, blocks, fault_in, fault}
use Rattle.sheet.specs.declared.SheetEntry.{SheetEntry}
use Rattle.sheet.specs.declared.Group.{Group}
use Rattle.sheet.specs.declared.Progress.{Progress}

-- ---- rules

-- a rule of A whose body is shown
abbrev pub shows_for : (T F : Set) → ℕ → Rule → Bool
shows_for T F A r = eqb r.head A && every (shown T F) r.body

-- the literals outside D
abbrev pub beyond : Set → Set
beyond D A = not (D A)

-- the literals that have a rule left open in P: T are the literals already true, D those already false or in the group
abbrev pub open_in : Program → (T D : Set) → Set
open_in P T D = supported (seminormal P) (holds (beyond D) T)

-- ---- entries

-- the numbers of the "false" entries before i
unfoldable pub numbered : (ℕ → SheetEntry) → ℕ → Set
numbered e zero g = false
numbered e (suc i) g = (eqb (e i).kind 0 && eqb g (e i).group) || numbered e i g

-- the literals of the entries from i to j
abbrev pub literals : (ℕ → SheetEntry) → (i j : ℕ) → List ℕ
literals e i j = rows (λ k. (e k).literal) i (j - i)

-- the literal of an entry passes: it is known, and has no rule left open
abbrev pub passes : (known : ℕ) → (left_open : Set) → ℕ → Bool
passes known left_open A = ltb A known && not (left_open A)

-- a place that is found is a fault there; where none is, what comes after decides
abbrev pub fault_or : Result Unit ℕ → Fault → Fault
fault_or (Ok u) after = after
fault_or (Err k) after = at k

-- r has the place of the first entry from i to j whose literal fails a test, and is Ok where none does
pub record FirstFailing (f : ℕ → Bool) (e : ℕ → SheetEntry) (i j : ℕ) (r : Result Unit ℕ) : Type 0 where
  pub within : IfErr r (λ k. k < j)
  pub found : (after : Fault) → first_failing f i (literals e i j) after ≡ fault_or r after

-- entry k is a "false" entry under the number of entry i
abbrev pub same_group : (ℕ → SheetEntry) → ℕ → ℕ → Bool
same_group e i k = eqb (e k).kind 0 && eqb (e i).group (e k).group

-- the members of S that a set of literals has room for
abbrev pub in_room : Set → Set
in_room S A = ltb A capacity && S A

-- the entries behind i and before j are of the group of i, and S has the literals from i to j
pub record RunTo (e : ℕ → SheetEntry) (i n j : ℕ) (S : Set) : Type 0 where
  pub above : i < j
  pub within : j ≤ n
  pub runs : (k : ℕ) → i < k → k < j → same_group e i k ≡ true
  pub members : S ≡ in_room (listed (literals e i j))

-- the group that begins at i
pub record GroupOf (e : ℕ → SheetEntry) (i n : ℕ) (r : Group) : Type 0 where
  pub number : r.number ≡ (e i).group
  pub run : RunTo e i n r.end (set_of r.members.words)
  pub stops : r.end < n → same_group e i r.end ≡ false

-- ---- turns

-- what is said of the entries from i to n, over the literals T and F of the entries before
unfoldable pub left_at : List Rule → (facts : Set) → (known : ℕ) → (ℕ → SheetEntry) → (n : ℕ) → (T F : Set) → ℕ → Fault
left_at rules facts known e n T F i = fault_in rules facts known T F (numbered e i) i (blocks (rows e i (n - i)))

-- what is left where the check has come so far
abbrev pub left_for : ((T F : Set) → ℕ → Fault) → Progress → Fault
left_for left p = left (set_of p.truths.words) (set_of p.falses.words) p.next

-- a turn goes on behind the entry or the group that it read, or stops at the first entry that does not follow
abbrev pub TurnOf : (left : (T F : Set) → ℕ → Fault) (n : ℕ) (p : Progress) → Result Progress ℕ → Type 0
TurnOf left n p (Ok q) = (p.next < q.next) × (q.next ≤ n) × (left_for left p ≡ left_for left q)
TurnOf left n p (Err k) = (k < n) × (left_for left p ≡ at k)

-- r has the place of the first entry that does not follow, and is Ok where all follow
pub record FaultAt (rules : List Rule) (facts : Set) (known : ℕ) (e : ℕ → SheetEntry) (n : ℕ) (r : Result Unit ℕ) : Type 0 where
  pub within : IfErr r (λ k. k < n)
  pub found : fault rules facts known (rows e 0 n) ≡ fault_or r none
