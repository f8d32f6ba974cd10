-- What a walk of the trees is handed, what it leaves and what it says (document 01, "From a question to its trees"; document 02, A.6). Each
-- answer lies between two answers of the trees' own definition, and at the question both are the same.
use Rattle.std.specs.Prelude.{◌≡◌, Bool, true, false, ◌||◌, List, ℕ, ◌+◌, ◌*◌, ◌≤◌, ◌<◌, ltb, length, get_or, map, replicate}
use Rattle.wfsx.specs.Sets.{Set, ◌∈◌, ◌∉◌, ◌⊆◌, ∅}
use Rattle.wfsx.specs.Program.{Entry, Program}
use Rattle.wfsx.specs.Model.{headed, head_count}
use Rattle.wfsx.specs.Trees.{Tree, T, TU, child, tree}
use Rattle.litset.specs.Words.{capacity, set_of}
use Rattle.book.specs.Book.{program}
use Rattle.index.specs.Index.{rules_start, rules_end, rules_by, supported_by}
use Rattle.search.specs.Bound.{most_visits}
use Rattle.search.specs.Marks.{t_code, u_code, proved_in, failed_in, above_in, false_in, held_in, shut_in, path_in, others, blanks, without}
use Rattle.search.specs.declared.Finding.{Finding}
use Rattle.search.specs.declared.State as declared
use Rattle.search.specs.declared.over.Walk.{Walk}

-- ---- what it is handed

-- the program of the rules that the index gives, and of the facts put in
unfoldable pub program_by : (first rules starts entries facts : List ℕ) → Program
program_by first rules starts entries facts = program (rules_by first rules starts entries capacity) (set_of facts)

-- the literals that have a rule, and the heads of that program
abbrev pub rule_by : (first rules : List ℕ) → Set
rule_by first rules A = ltb (rules_start first A) (rules_end first rules A)

abbrev pub head_by : (first rules facts : List ℕ) → Set
head_by first rules facts A = set_of facts A || rule_by first rules A

-- the same of a `Walk`
abbrev pub program_in : Walk → Program
program_in w = program_by w.index.now.starts w.index.now.rules w.book.now.starts w.book.now.entries w.facts.words

-- whether some rule of a literal has a body all of whose entries pass a test
abbrev pub rules_in : Walk → (Entry → Bool) → Set
rules_in w = supported_by w.index.now.starts w.index.now.rules w.book.now.starts w.book.now.entries

abbrev pub rule_in : Walk → Set
rule_in w = rule_by w.index.now.starts w.index.now.rules

abbrev pub head_in : Walk → Set
head_in w = head_by w.index.now.starts w.index.now.rules w.facts.words

-- the two tables of marks by their numbers, and how many nodes have asked their rules
pub record State : Type 0 where
  pub t : List ℕ
  pub u : List ℕ
  pub visits : ℕ

abbrev pub state : List ℕ → List ℕ → ℕ → State
state t u visits = record { t = t; u = u; visits = visits }

-- what a `State` of the code says
abbrev pub coded : declared.State → State
coded s = state (map t_code s.t) (map u_code s.u) s.visits

-- nothing is marked, and no node has asked its rules
abbrev pub blank : State
blank = state (replicate capacity 0) (replicate capacity 0) 0

-- ---- what the marks say is so

-- T-trees hold for fewer literals and TU-trees for more as T-ancestors are added. So what is kept as holding in a T-tree holds below none,
-- and what is kept as failing fails below the present ones, X; what is kept as failing in a TU-tree fails below none, and what is kept as
-- holding holds below X.
pub record Right (P : Program) (proved failed X false held : Set) : Type 0 where
  pub proved_right : proved ⊆ tree P T ∅ ∅
  pub failed_right : (A : ℕ) → A ∈ failed → A ∉ tree P T ∅ X
  pub false_right : (A : ℕ) → A ∈ false → A ∉ tree P TU ∅ ∅
  pub held_right : held ⊆ tree P TU ∅ X

pub record Tables (P : Program) (t u : List ℕ) : Type 0 where
  pub t_room : length t ≡ capacity
  pub u_room : length u ≡ capacity
  pub t_marks : (A : ℕ) → get_or t A 0 ≤ 3
  pub u_marks : (A : ℕ) → get_or u A 0 ≤ 4
  pub right : Right P (proved_in t) (failed_in t) (above_in t) (false_in u) (held_in u)

-- Outside a TU-tree no literal is shut or on a path. In one a shut literal fails at the present path.
unfoldable pub Resting : Program → Tree → List ℕ → Type 0
Resting P T u = (A : ℕ) → get_or u A 0 < 3
Resting P TU u = (A : ℕ) → A ∈ shut_in u → A ∉ tree P TU (path_in u) ∅

-- ---- what the visits are paid with

-- Marks of heads alone count. A T-node that asks its rules marks a literal of which nothing was known, and pays with that for itself and
-- for a path that was walked in vain. One that holds does so for good: it pays for all that is forgotten then. A TU-node that holds pays
-- for the shut literals that are forgotten, and one that asks its rules pays for itself with a mark where there was none.
unfoldable pub stock : Program → List ℕ → List ℕ → ℕ
stock P t u =
    others 1 (headed P) t * (2 * (head_count capacity P * (head_count capacity P + 1))) + (blanks (headed P) t * (head_count capacity P + 1) + without 1 2 (headed P) u * head_count capacity P)

abbrev pub left_in : Program → State → ℕ
left_in P s = stock P s.t s.u + blanks (headed P) s.u

-- from one state to another, with so much left over
pub record Paid (P : Program) (s s' : State) (over : ℕ) : Type 0 where
  pub counted : s.visits ≤ s'.visits
  pub paid : s'.visits + left_in P s' + over ≤ s.visits + left_in P s

-- What waits gives its path's marks back. They count as spent.
unfoldable pub kept : Program → Finding → List ℕ → ℕ
kept P Finding.Holds u = blanks (headed P) u
kept P Finding.Fails u = blanks (headed P) u
kept P (Finding.Waits l) u = 0

pub record Spent (P : Program) (f : Finding) (s s' : State) : Type 0 where
  pub counted : s.visits ≤ s'.visits
  pub spent : s'.visits + (stock P s'.t s'.u + kept P f s'.u) ≤ s.visits + left_in P s

-- ---- what a visit asks, leaves and says

-- A T-tree that a TU-tree waited for may begin with as much more as it will pay.
pub record Ready (P : Program) (k : Tree) (s : State) (over : ℕ) : Type 0 where
  pub tables : Tables P s.t s.u
  pub resting : Resting P k s.u
  pub room : s.visits + left_in P s ≤ most_visits (head_count capacity P) + over

-- The marks of ancestors are those it was handed (A.6), and what the marks say is so. A TU-tree leaves the T-trees' table alone.
pub record Walked (P : Program) (k : Tree) (s s' : State) : Type 0 where
  pub above_kept : above_in s'.t ≡ above_in s.t
  pub path_kept : path_in s'.u ≡ path_in s.u
  pub t_kept : k ≡ TU → s'.t ≡ s.t
  pub tables : Tables P s'.t s'.u

-- It is said to hold where `sure` does, to fail where `may` does not. A T-tree is wanted for a head of which nothing is known, and by a TU-tree only.
unfoldable pub Says : Program → Tree → State → (sure may : Bool) → Finding → Type 0
Says P k s sure may Finding.Holds = (sure ≡ true) × Resting P k s.u
Says P k s sure may Finding.Fails = (may ≡ false) × Resting P k s.u
Says P k s sure may (Finding.Waits l) = (k ≡ TU) × ((l < capacity) × ((get_or s.t l 0 ≡ 0) × (l ∈ headed P)))

pub record Visited (P : Program) (k : Tree) (s s' : State) (sure may : Bool) (f : Finding) : Type 0 where
  pub walked : Walked P k s s'
  pub says : Says P k s' sure may f
  pub spent : Spent P f s s'

-- a tree walked to its end
pub record Settled (P : Program) (s s' : State) (sure may holds : Bool) : Type 0 where
  pub walked : Walked P T s s'
  pub resting : Resting P T s'.u
  pub paid : Paid P s s' 0
  pub said_yes : holds ≡ true → sure ≡ true
  pub said_no : holds ≡ false → may ≡ false

-- A T-node. Where nothing was known of its literal, and that is a head, it pays for a path walked in vain, and less is left.
pub record TVisit (P : Program) (s s' : State) (a : ℕ) (holds : Bool) : Type 0 where
  pub settled : Settled P s s' (tree P T ∅ ∅ a) (tree P T ∅ (above_in s.t) a) holds
  pub pays : get_or s.t a 0 ≡ 0 → a ∈ headed P → Paid P s s' (head_count capacity P)
  pub less : get_or s.t a 0 ≡ 0 → a ∈ headed P → left_in P s' + head_count capacity P < left_in P s

-- the TU-trees for a literal, with no path above it
abbrev pub TuSearch : Program → (s s' : State) → ℕ → Bool → Type 0
TuSearch P s s' a holds = Settled P s s' (tree P TU ∅ (above_in s.t) a) (tree P TU ∅ ∅ a) holds

-- A TU-node. One that holds shuts no literal.
pub record TuVisit (P : Program) (s s' : State) (a : ℕ) (f : Finding) : Type 0 where
  pub visited : Visited P TU s s' (tree P TU ∅ (above_in s.t) a) (tree P TU (path_in s.u) ∅ a) f
  pub shuts_none : f ≡ Finding.Holds → shut_in s'.u ⊆ shut_in s.u

-- the answers that a child's is between: where it is said to hold, and where it is not said to fail
unfoldable pub sure_at : Program → Tree → State → Entry → Bool
sure_at P T s = child (tree P) T ∅ ∅
sure_at P TU s = child (tree P) TU ∅ (above_in s.t)

unfoldable pub may_at : Program → Tree → State → Entry → Bool
may_at P T s = child (tree P) T ∅ (above_in s.t)
may_at P TU s = child (tree P) TU (path_in s.u) ∅

-- what is asked of the children's answers: one child, all of a body, or all of some rule's body
abbrev pub Asked : Program → Tree → (s s' : State) → ((Entry → Bool) → Bool) → Finding → Type 0
Asked P k s s' ask f = Visited P k s s' (ask (sure_at P k s)) (ask (may_at P k s)) f
