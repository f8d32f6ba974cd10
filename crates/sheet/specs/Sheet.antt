-- Proof sheets (document 02, A.3): when an entry follows, and what the check answers.
use Rattle.std.specs.Prelude.{Bool, true, false, not, cond, ◌&&◌, ◌||◌, List, [], ◌∷◌, ℕ, zero, suc, ◌+◌, ◌*◌, eqb, ltb, leb, length}
use Rattle.wfsx.specs.Sets.{Set, ◌∈◌, ◌∉◌, ∅, ◌∪◌, add}
use Rattle.wfsx.specs.Program.{compl, Entry, positive, default, Rule, Program}
use Rattle.wfsx.specs.Model.{every, M, N}
use Rattle.book.specs.Limits.{max_names, max_rules}
use Rattle.book.specs.Book.{program}
use Rattle.sheet.specs.declared.SheetEntry.{SheetEntry}

-- the most entries of a sheet: two for each literal of a full book, 512
abbrev pub max_sheet : ℕ
max_sheet = 4 * max_names

-- ---- the entries of a sheet in blocks

-- "False" entries that stand together under one number are a group: the number, and their literals in order. Any other entry stands alone.
pub data Block : Type 0 where
  single : SheetEntry → Block
  group : (number : ℕ) → List ℕ → Block

-- a "false" entry for the literal A under the number g, in front of some blocks: it joins a first block that is a group of its number
unfoldable pub joined : ℕ → ℕ → List Block → List Block
joined g A [] = group g (A ∷ []) ∷ []
joined g A (single e ∷ bs) = group g (A ∷ []) ∷ single e ∷ bs
joined g A (group h As ∷ bs) = cond (eqb g h) (group g (A ∷ As) ∷ bs) (group g (A ∷ []) ∷ group h As ∷ bs)

unfoldable pub blocks : List SheetEntry → List Block
blocks [] = []
blocks (e ∷ es) = cond (eqb e.kind 0) (joined e.group e.literal (blocks es)) (single e ∷ blocks es)

-- the members of a list, as a set
unfoldable pub listed : List ℕ → Set
listed [] = ∅
listed (A ∷ As) = add A (listed As)

-- ---- "true" entries

-- Over the literals T of earlier "true" entries and F of earlier "false" ones: a positive body literal is in T, and C of `not C` in F.
abbrev pub shown : Set → Set → Entry → Bool
shown T F (positive B) = T B
shown T F (default C) = F C

-- rule number k of some rules passes a test
unfoldable pub rule_numbered : (Rule → Bool) → List Rule → ℕ → Bool
rule_numbered f [] k = false
rule_numbered f (r ∷ rs) zero = f r
rule_numbered f (r ∷ rs) (suc k) = rule_numbered f rs k

-- the number that names the fact A: 512 plus the literal
abbrev pub fact_number : ℕ → ℕ
fact_number A = max_rules + A

-- the number k names a rule of A whose body is shown, or the fact A
unfoldable pub names_rule : List Rule → Set → (T F : Set) → (A k : ℕ) → Bool
names_rule rules facts T F A k = rule_numbered (λ r. eqb r.head A && every (shown T F) r.body) rules k || (eqb k (fact_number A) && facts A)

-- ---- groups of "false" entries

-- Over the literals already true, those already false, and the group's own: `not C` with C already true, or a positive literal already false or in the
-- group.
abbrev pub answers : (T F G : Set) → Entry → Bool
answers T F G (positive B) = F B || G B
answers T F G (default C) = T C

unfoldable pub some : (Entry → Bool) → List Entry → Bool
some f [] = false
some f (e ∷ es) = f e || some f es

-- a rule is not left open: its head's complement is already true, or an entry of its body answers it
abbrev pub answered : (T F G : Set) → Rule → Bool
answered T F G r = T (compl r.head) || some (answers T F G) r.body

-- each rule of A in P passes a test
unfoldable pub every_rule : (Rule → Bool) → Program → ℕ → Bool
every_rule f [] A = true
every_rule f (r ∷ P) A = (not (eqb r.head A) || f r) && every_rule f P A

-- ---- the first entry that does not follow

pub data Fault : Type 0 where
  none : Fault
  at : ℕ → Fault

-- the place, counted from i, of the first number of a list that fails a test; where none does, what comes after the list
unfoldable pub first_failing : (ℕ → Bool) → ℕ → List ℕ → Fault → Fault
first_failing f i [] after = after
first_failing f i (A ∷ As) after = cond (f A) (first_failing f (suc i) As after) (at i)

-- `known` is twice the count of names: the literals below it are known
module _ (rules : List Rule) (facts : Set) (known : ℕ) where
  -- a "true" entry names a rule of its literal; an entry of another kind does not follow
  unfoldable pub true_follows : (T F : Set) → SheetEntry → Bool
  true_follows T F e = eqb e.kind 1 && (ltb e.literal known && names_rule rules facts T F e.literal e.rule)

  -- a "false" entry for A in a group G: A is known, and no rule of it, facts too, is left open
  unfoldable pub false_follows : (T F G : Set) → ℕ → Bool
  false_follows T F G A = ltb A known && every_rule (answered T F G) (program rules facts) A

  -- T and F are the literals of the "true" and "false" entries before the blocks, E the numbers of the groups before them, i the place of the first
  -- entry of the blocks. A group under an ended group's number fails at its first entry.
  unfoldable pub fault_in : (T F E : Set) → ℕ → List Block → Fault
  fault_in T F E i [] = none
  fault_in T F E i (single e ∷ bs) = cond (true_follows T F e) (fault_in (add e.literal T) F E (suc i) bs) (at i)
  fault_in T F E i (group g As ∷ bs) =
      cond (E g) (at i) (first_failing (false_follows T F (listed As)) i As (fault_in T (F ∪ listed As) (add g E) (i + length As) bs))

  -- the first entry of a sheet that does not follow
  abbrev pub fault : List SheetEntry → Fault
  fault es = fault_in ∅ ∅ ∅ 0 (blocks es)

-- ---- the check

-- a claim's kind: 1 true, 0 false
abbrev pub kind_of : Bool → ℕ
kind_of truth = cond truth 1 0

-- an entry of the kind k for the literal A is among the entries
unfoldable pub among : (k A : ℕ) → List SheetEntry → Bool
among k A [] = false
among k A (e ∷ es) = eqb e.kind k && eqb A e.literal || among k A es

-- the sheet is accepted, or refused by a number; the index is that of 27, and 0 beside another number
pub data Judgement : Type 0 where
  accepted : Judgement
  refused : (number index : ℕ) → Judgement

-- 27 with the index, then 28: the claim is not among the entries
unfoldable pub judged_by : Fault → Bool → Judgement
judged_by (at i) claimed = refused 27 i
judged_by none claimed = cond claimed accepted (refused 28 0)

-- What is said of a claim about a known literal. 26: no entries, or more than the most
unfoldable pub judgement : List Rule → Set → ℕ → (truth : Bool) → ℕ → List SheetEntry → Judgement
judgement rules facts known truth A es =
    cond (ltb 0 (length es) && leb (length es) max_sheet) (judged_by (fault rules facts known es) (among (kind_of truth) A es)) (refused 26 0)

-- ---- what a claim says

-- A claim "true" says that its literal lies in M, a claim "false" that it lies outside N.
abbrev pub IsSo : Program → (truth : Bool) → ℕ → Type 0
IsSo P true A = A ∈ M P
IsSo P false A = A ∉ N P
