-- A book or none and the literals put in, as document 01 speaks of them, and what a call answers over them ("When a call is turned down by the state",
-- "From rules to a model", "From a question to its trees").
use Rattle.std.specs.Prelude.{Option, None, Some, Bool, true, false, cond, ◌&&◌, List, [], ◌++◌, ℕ, ◌*◌, leb, ltb, length, drop, Result, Ok, Err}
use Rattle.wfsx.specs.Sets.{Set, ∅, add}
use Rattle.wfsx.specs.Program.{Entry, Rule, Program}
use Rattle.wfsx.specs.Model.{Contradictory, Verdict}
use Rattle.wfsx.specs.Trees.{Tree, answer}
use Rattle.wfsx.specs.Reach.{name_of}
use Rattle.wfsx.specs.Groups.{working_order}
use Rattle.wfsx.specs.ContradictoryNames.{contradictory_names}
use Rattle.litset.specs.Words.{without, clash_in}
use Rattle.book.specs.Book.{program}
use Rattle.fixpoint.specs.Result.{verdict_in}
use Rattle.sheet.specs.Sheet.{Judgement, accepted, judgement}
use Rattle.sheet.specs.Sheet as sheet
use Rattle.sheet.specs.declared.SheetEntry.{SheetEntry}
use Rattle.lister.specs.Listing.{listing_of, listing_by_sets}
use Rattle.lesson.specs.declared.Change.{Change}
use Rattle.lesson.specs.declared.Change.TheVariants.{PutIn, TakeOut}
use Rattle.lesson.specs.declared.Refusal.{Refusal}
use Rattle.lesson.specs.declared.Refusal.TheVariants as refusal

-- no book, or the names and rules of one
pub data BookState : Type 0 where
  unloaded : BookState
  loaded_with : List (List ℕ) → List Rule → BookState

-- what a lesson has of its own: the literals put in
pub record Own : Type 0 where
  pub put_in : Set

abbrev pub emptied : Own
emptied = record { put_in = ∅ }

-- what shelf and lesson mean, and what a list of calls leaves
pub record State : Type 0 where
  pub book : BookState
  pub own : Own

abbrev pub its_names : BookState → List (List ℕ)
its_names unloaded = []
its_names (loaded_with names rules) = names

abbrev pub its_rules : BookState → List Rule
its_rules unloaded = []
its_rules (loaded_with names rules) = rules

-- The facts in force are the literals put in. Those put in decide 22 and 23, those in force make the program and are counted by FACTS.
unfoldable pub in_force : Own → Set
in_force o = o.put_in

-- the book's rules, and for each fact in force a rule with that head and no body
unfoldable pub program_in : State → Program
program_in d = program (its_rules d.book) (in_force d.own)

-- the lesson is contradictory: no partial stable model exists over the literals in the base
abbrev pub ContradictoryOver : Set → State → Type 0
ContradictoryOver base d = Contradictory (program_in d) base

-- the listing of documents 01 and 02
unfoldable pub listing_in : State → List ℕ
listing_in d = listing_of (its_names d.book) (its_rules d.book) (in_force d.own)

-- ---- answers

-- A call gives what was asked for, or is turned down by a number.
pub data Said (X : Type 0) : Type 0 where
  gives : X → Said X
  refused : ℕ → Said X

-- the number of a refusal (Conditions.antt has its words)
abbrev pub number_of : Refusal → ℕ
number_of refusal.NoBook = 20
number_of refusal.NotInBook = 21
number_of refusal.AlreadyPutIn = 22
number_of refusal.NotPutIn = 23
number_of refusal.ContradictoryName = 24
number_of refusal.TooShort = 25
number_of refusal.EntryCount = 26
number_of (refusal.EntryAt index) = 27
number_of refusal.ClaimNotShown = 28

-- what a result tells in these numbers, where `read` says what is asked of its value
abbrev pub told_by : {T X : Type 0} → (T → X) → Result T Refusal → Said X
told_by read (Ok value) = gives (read value)
told_by read (Err e) = refused (number_of e)

-- the value itself is what was asked for
abbrev pub told : {X : Type 0} → Result X Refusal → Said X
told r = told_by (λ x. x) r

-- 20: no book is loaded
abbrev pub none_loaded : BookState → Bool
none_loaded unloaded = true
none_loaded (loaded_with names rules) = false

unfoldable pub if_loaded : {X : Type 0} → BookState → Said X → Said X
if_loaded b said = cond (none_loaded b) (refused 20) said

-- a literal number below twice the count of names
unfoldable pub in_book : BookState → Set
in_book b A = ltb A (2 * length (its_names b))

-- the order is 20, 21, then the one that fits the call
unfoldable pub in_order : {X : Type 0} → BookState → ℕ → Said X → Said X
in_order b A said = if_loaded b (cond (in_book b A) said (refused 21))

-- ---- putting in and taking out

-- they give nothing but that it was done
pub data Ack : Type 0 where
  acknowledged : Ack

abbrev pub told_done : Result (Unit {0}) Refusal → Said Ack
told_done r = told_by (λ done. acknowledged) r

abbrev pub its_literal : Change → ℕ
its_literal (PutIn A) = A
its_literal (TakeOut A) = A

-- by whether the literal is put in now: then 22 turns putting in down, and otherwise 23 taking out
abbrev pub change_fits : Change → Bool → Said Ack
change_fits (PutIn A) now = cond now (refused 22) (gives acknowledged)
change_fits (TakeOut A) now = cond now (gives acknowledged) (refused 23)

unfoldable pub change_says : State → Change → Said Ack
change_says d c = in_order d.book (its_literal c) (change_fits c (d.own.put_in (its_literal c)))

-- putting in a literal adds it to the set, taking it out removes it
abbrev pub changed_set : Change → Set → Set
changed_set (PutIn A) S = add A S
changed_set (TakeOut A) S = without A S

abbrev pub changed : Change → Own → Own
changed c o = record { put_in = changed_set c o.put_in }

-- a call that meets a condition for turning such calls down changes nothing
abbrev pub unless_refused : Said Ack → Own → Own → Own
unless_refused (gives x) o before = o
unless_refused (refused number) o before = before

-- what a change leaves, by its arguments alone
abbrev pub state_after : State → Change → State
state_after d c = record { book = d.book; own = unless_refused (change_says d c) (changed c d.own) d.own }

-- ---- search

-- 24 never applies to it
unfoldable pub search_says : State → ℕ → Tree → Entry → Said Bool
search_says d A k question = in_order d.book A (gives (answer (program_in d) k question))

-- ---- verdict, model and listing: by sets T, U and C, which stand for M, N and the literals whose verdicts 24 refuses

-- both literals of each contradictory name among the first n names
unfoldable pub contradictory_below : ℕ → Program → Set
contradictory_below n P A = ltb (name_of A) n && contradictory_names P (name_of A)

-- 24: the literal's name is contradictory, which is read from C
unfoldable pub verdict_says : BookState → Set → Set → Set → ℕ → Said Verdict
verdict_says b T U C A = in_order b A (cond (C A) (refused 24) (gives (verdict_in T U A)))

-- whether the lesson is contradictory
abbrev pub is_clash : Option ℕ → Bool
is_clash None = false
is_clash (Some n) = true

unfoldable pub model_says : BookState → Set → Said Bool
model_says b T = if_loaded b (gives (is_clash (clash_in T)))

-- ---- working order

-- the groups of the book in working order (document 02, A.5): the names below their count, by the book's rules alone
unfoldable pub order_in : BookState → List (List ℕ)
order_in b = working_order (its_rules b) (length (its_names b))

-- ---- listing

-- the bytes of the listing; k stands for the rounds
unfoldable pub listing_from : State → Set → Set → Set → ℕ → List ℕ
listing_from d T U C k = listing_by_sets (its_names d.book) (its_rules d.book) (in_force d.own) T U C k

-- The listing call answers the listing's length. 25: the lent buffer is shorter than the listing
unfoldable pub listing_says : BookState → List ℕ → List ℕ → Said ℕ
listing_says b bytes buffer = if_loaded b (cond (leb (length bytes) (length buffer)) (gives (length bytes)) (refused 25))

-- the lent buffer afterwards: the bytes after the listing stay, and a refused call changes none
abbrev pub buffer_after : List ℕ → List ℕ → Said ℕ → List ℕ
buffer_after bytes buffer (gives n) = bytes ++ drop n buffer
buffer_after bytes buffer (refused number) = buffer

-- ---- proof sheets (document 02, A.3)

-- twice the count of names: the literals below it are known
abbrev pub known_in : BookState → ℕ
known_in b = 2 * length (its_names b)

-- what is said of the entries of a sheet, for a claim that 20 and 21 do not turn down
unfoldable pub judged_in : State → ℕ → (truth : Bool) → List SheetEntry → Judgement
judged_in d A truth es = judgement (its_rules d.book) (in_force d.own) (known_in d.book) truth A es

-- a judgement as an answer
abbrev pub judgement_says : Judgement → Said Ack
judgement_says accepted = gives acknowledged
judgement_says (sheet.refused number index) = refused number

-- 20 and 21, for the claim, come first
abbrev pub unless_turned : Said Ack → Judgement → Judgement
unless_turned (gives x) j = j
unless_turned (refused number) j = sheet.refused number 0

unfoldable pub check_says : State → ℕ → (truth : Bool) → List SheetEntry → Judgement
check_says d A truth es = unless_turned (in_order d.book A (gives acknowledged)) (judged_in d A truth es)

-- The maker answers how many entries it wrote. 28: no sheet was found for the claim; 25: the lent run is shorter than two entries for each literal
unfoldable pub make_says : (known room : ℕ) → (found : Bool) → (count : ℕ) → Said ℕ
make_says known room found count = cond found (cond (leb (2 * known) room) (gives count) (refused 25)) (refused 28)
