-- What each call answers and leaves, for every shelf, lesson and argument.
use Rattle.std.specs.Prelude.{◌≡◌, ◌⊎◌, Option, None, Some, Bool, cond, ℕ, ◌++◌, List, drop, eqb, length, Result, Ok, Err, IfOk, IfErr, IfSome}
use Rattle.std.specs.Option.{is_some}
use Rattle.wfsx.specs.Sets.{Set, ∅}
use Rattle.wfsx.specs.Program.{Entry, Program}
use Rattle.wfsx.specs.Model as wfsx
use Rattle.wfsx.specs.Trees as trees
use Rattle.litset.specs.Words.{set_of}
use Rattle.book.specs.Book.{names_of, rules_of, program_of}
use Rattle.book.specs.declared.Book.{Book}
use Rattle.fixpoint.specs.Result.{ModelOf, verdict_is}
use Rattle.fixpoint.specs.declared.Verdict.{Verdict}
use Rattle.reach.specs.Order.{order_table}
use Rattle.reach.specs.declared.Order.{Order}
use Rattle.lister.specs.declared.Marks.{Marks}
use Rattle.sheet.specs.Sheet.{Judgement, accepted}
use Rattle.sheet.specs.Sheet as sheet
use Rattle.sheet.specs.Flat.{entries_in}
use Rattle.sheet.specs.declared.SheetEntry.{SheetEntry}
use Rattle.sheet.specs.Answers as check
use Rattle.sheet.specs.declared.Rejection.{Rejection}
use Rattle.maker.specs.Result.{MadeFor}
use Rattle.maker.specs.declared.Made.{Made}
use Rattle.lesson.specs.State.{BookState, unloaded, loaded_with, Own, State, its_names, its_rules, in_force, program_in, Said, gives, refused, number_of, told_by, told, Ack, acknowledged, told_done, change_says, changed, search_says, contradictory_below, verdict_says, model_says, if_loaded, in_order, order_in, listing_from, listing_says, buffer_after, known_in, check_says, make_says}
use Rattle.lesson.specs.declared.Shelf.{Shelf}
use Rattle.lesson.specs.declared.Lesson.{Lesson}
use Rattle.lesson.specs.declared.Change.{Change}
use Rattle.lesson.specs.declared.Refusal.{Refusal}
use Rattle.lesson.specs.declared.Refusal.TheVariants as refusal
use Rattle.lesson.specs.declared.WholeModel.{WholeModel}
use Rattle.lesson.specs.declared.ModelByGroups.{ModelByGroups}
use Rattle.lesson.specs.declared.Unmade.{Unmade}

unfoldable pub shelf_of : Shelf → BookState
shelf_of s = cond (eqb s.loaded 0) unloaded (loaded_with (names_of s.book) (rules_of s.book))

unfoldable pub own_of : Lesson → Own
own_of l = record { put_in = set_of l.facts.words }

abbrev pub meaning_of : Shelf → Lesson → State
meaning_of s l = record { book = shelf_of s; own = own_of l }

-- the sets that stand for M, N and the literals whose verdicts 24 refuses
abbrev pub truths_of : Lesson → Set
truths_of l = set_of l.marks.model.truths.words

abbrev pub nonfalse_of : Lesson → Set
nonfalse_of l = set_of l.marks.model.nonfalse.words

abbrev pub contradictory_of : Lesson → Set
contradictory_of l = set_of l.marks.contradictory.words

-- the marks of P over the first n names: its model, and both literals of each contradictory name
pub record MarksOf (n : ℕ) (P : Program) (m : Marks) : Type 0 where
  pub model_is : ModelOf P m.model
  pub contradictory_are : set_of m.contradictory.words ≡ contradictory_below n P

-- Those that stand are the marks of the lesson's program. (Of a lesson that a list of calls leaves this is a theorem.)
abbrev pub Standing : Shelf → Lesson → Type 0
Standing s l = MarksOf (length (its_names (shelf_of s))) (program_in (meaning_of s l)) l.marks

-- ---- the lesson that begins on a book

-- nothing is put in, and the marks are those of the book
pub record Begins (book : Book) (l : Lesson) : Type 0 where
  pub none_put_in : set_of l.facts.words ≡ ∅
  pub marks_are : MarksOf (length (names_of book)) (program_of book (set_of l.facts.words)) l.marks

-- ---- putting in and taking out

-- The marks of a lesson made from l, where the facts in force are F and P is the program over n names: they stay where l has the same facts in force,
-- and are worked out where they are others.
abbrev pub MarksAfter : Lesson → Set → ℕ → Program → Marks → Type 0
MarksAfter l F n P m = ((F ≡ in_force (own_of l)) × (m ≡ l.marks)) ⊎ ((F ≡ in_force (own_of l) → ⊥) × MarksOf n P m)

-- the lesson m has this of its own, and its marks are up to date
pub record ChangesTo (s : Shelf) (l : Lesson) (own : Own) (m : Lesson) : Type 0 where
  pub own_is : own_of m ≡ own
  pub marks_are : MarksAfter l (in_force own) (length (its_names (shelf_of s))) (program_in (record { book = shelf_of s; own = own })) m.marks

-- an accepted call changes what the lesson has of its own, and a refused one leaves the lesson as it was
abbrev pub LessonAfter : Shelf → Lesson → Own → Result (Unit {0}) Refusal → Lesson → Type 0
LessonAfter s l own (Ok done) m = ChangesTo s l own m
LessonAfter s l own (Err e) m = m ≡ l

-- the lesson l becomes m
pub record Changes (s : Shelf) (l : Lesson) (c : Change) (r : Result (Unit {0}) Refusal) (m : Lesson) : Type 0 where
  pub says : told_done r ≡ change_says (meaning_of s l) c
  pub leaves : LessonAfter s l (changed c (own_of l)) r m

-- ---- verdict, search, model

pub record GivesVerdict (s : Shelf) (l : Lesson) (A : ℕ) (r : Result Verdict Refusal) : Type 0 where
  pub says : told_by verdict_is r ≡ verdict_says (shelf_of s) (truths_of l) (nonfalse_of l) (contradictory_of l) A

pub record Searches (s : Shelf) (l : Lesson) (A : ℕ) (k : trees.Tree) (question : Entry) (r : Result Bool Refusal) : Type 0 where
  pub says : told r ≡ search_says (meaning_of s l) A k question

-- whether the lesson is contradictory
abbrev pub model_told : Result WholeModel Refusal → Said Bool
model_told r = told_by (λ (m : WholeModel). m.contradictory) r

-- the model that stands
pub record ThatStands (l : Lesson) (m : WholeModel) : Type 0 where
  pub truths : set_of m.model.truths.words ≡ truths_of l
  pub nonfalse : set_of m.model.nonfalse.words ≡ nonfalse_of l
  pub rounds : m.model.rounds ≡ l.marks.model.rounds

pub record GivesModel (s : Shelf) (l : Lesson) (r : Result WholeModel Refusal) : Type 0 where
  pub says : model_told r ≡ model_says (shelf_of s) (truths_of l)
  pub gives_it : IfOk r (ThatStands l)

-- ---- working order, model by groups

abbrev pub order_told : Result Order Refusal → Said Ack
order_told r = told_by (λ (table : Order). acknowledged) r

-- the table of the names in working order
pub record GivesOrder (s : Shelf) (r : Result Order Refusal) : Type 0 where
  pub says : order_told r ≡ if_loaded (shelf_of s) (gives acknowledged)
  pub gives_it : IfOk r (λ table. table ≡ order_table (order_in (shelf_of s)))

-- whether the lesson is contradictory
abbrev pub groups_told : Result ModelByGroups Refusal → Said Bool
groups_told r = told_by (λ (m : ModelByGroups). m.contradictory) r

-- M and N of this program
pub record ValuesOf (P : Program) (m : ModelByGroups) : Type 0 where
  pub truths : set_of m.values.truths.words ≡ wfsx.M P
  pub nonfalse : set_of m.values.nonfalse.words ≡ wfsx.N P

-- M and N of the lesson's program, whatever sets stand
pub record GivesGroups (s : Shelf) (l : Lesson) (r : Result ModelByGroups Refusal) : Type 0 where
  pub says : groups_told r ≡ model_says (shelf_of s) (wfsx.M (program_in (meaning_of s l)))
  pub gives_it : IfOk r (ValuesOf (program_in (meaning_of s l)))

-- ---- listing

-- the bytes that the listing call writes
abbrev pub bytes_of : Shelf → Lesson → List ℕ
bytes_of s l = listing_from (meaning_of s l) (truths_of l) (nonfalse_of l) (contradictory_of l) l.marks.model.rounds

-- `before` and `after` are the bytes of the lent buffer
pub record Lists (s : Shelf) (l : Lesson) (before : List ℕ) (r : Result ℕ Refusal) (after : List ℕ) : Type 0 where
  pub says : told r ≡ listing_says (shelf_of s) (bytes_of s l) before
  pub buffer : after ≡ buffer_after (bytes_of s l) before (told r)

-- ---- preview

-- What follows the change of a copy (document 02, A.8): where the change is turned down the answer is its refusal and no byte is written, and otherwise
-- answer and bytes are those of the listing call for the copy m.
abbrev pub FollowedBy : Shelf → Result (Unit {0}) Refusal → Lesson → List ℕ → Result ℕ Refusal → List ℕ → Type 0
FollowedBy s (Ok done) m before r after = Lists s m before r after
FollowedBy s (Err e) m before r after = (r ≡ Err e) × (after ≡ before)

-- the change of a copy of the lesson, and the listing of that copy
pub record Previews (s : Shelf) (l : Lesson) (c : Change) (before : List ℕ) (r : Result ℕ Refusal) (after : List ℕ) : Type 0 where
  pub answer : Result (Unit {0}) Refusal
  pub copy : Lesson
  pub changes : Changes s l c answer copy
  pub followed : FollowedBy s answer copy before r after

-- ---- proof sheets

-- the index of the entry that doesn't follow; 0 beside another refusal
abbrev pub index_of : Refusal → ℕ
index_of refusal.NoBook = 0
index_of refusal.NotInBook = 0
index_of refusal.AlreadyPutIn = 0
index_of refusal.NotPutIn = 0
index_of refusal.ContradictoryName = 0
index_of refusal.TooShort = 0
index_of refusal.EntryCount = 0
index_of (refusal.EntryAt index) = index
index_of refusal.ClaimNotShown = 0

-- an answer as a judgement
abbrev pub judged : Result (Unit {0}) Refusal → Judgement
judged (Ok done) = accepted
judged (Err e) = sheet.refused (number_of e) (index_of e)

-- a refusal of this crate for one of the check: the same number and index
abbrev pub OfCheck : Rejection → Refusal → Type 0
OfCheck r e = (number_of e ≡ check.number_of r) × (index_of e ≡ check.index_of r)

-- the check of some entries for the claim that A is true, or that it is false
pub record Checks (s : Shelf) (l : Lesson) (A : ℕ) (truth : Bool) (es : List SheetEntry) (r : Result (Unit {0}) Refusal) : Type 0 where
  pub says : judged r ≡ check_says (meaning_of s l) A truth es

-- how many entries there are
abbrev pub make_told : Result Made Unmade → Said ℕ
make_told (Ok m) = gives m.count
make_told (Err e) = refused (number_of e.refusal)

-- how many entries were made, if a sheet was
abbrev pub count_in : Option Made → ℕ
count_in None = 0
count_in (Some m) = m.count

-- What the maker makes for a lent run with room for so many entries. Which sheet it is, is the program's choice; `MadeFor` says what all choices share.
pub record MakesSheet (s : Shelf) (l : Lesson) (A : ℕ) (truth : Bool) (room : ℕ) (r : Result Made Unmade) : Type 0 where
  pub made : Option Made
  pub made_for : MadeFor (its_rules (shelf_of s)) (in_force (own_of l)) (known_in (shelf_of s)) truth A made
  pub says : make_told r ≡ make_says (known_in (shelf_of s)) room (is_some made) (count_in made)
  pub gives_it : IfOk r (λ m. made ≡ Some m)
  -- a sheet that was made and has no room stands beside the refusal
  pub beside : IfErr r (λ e. IfSome made (λ m. e.made ≡ m))

-- 20 and 21 come first
abbrev pub MakesUnless : Said Ack → Shelf → Lesson → ℕ → Bool → ℕ → Result Made Unmade → Type 0
MakesUnless (gives x) s l A truth room r = MakesSheet s l A truth room r
MakesUnless (refused number) s l A truth room r = make_told r ≡ refused number

pub record MakesTable (s : Shelf) (l : Lesson) (A : ℕ) (truth : Bool) (room : ℕ) (r : Result Made Unmade) : Type 0 where
  pub unless : MakesUnless (in_order (shelf_of s) A (gives acknowledged)) s l A truth room r

-- the lent entries afterwards: those after the entries that were written stay, and a refused call changes none
abbrev pub entries_after : List SheetEntry → Result Made Unmade → List SheetEntry
entries_after before (Ok m) = entries_in m.sheet.entries m.count ++ drop m.count before
entries_after before (Err e) = before

-- the maker on a lent run: `before` and `after` are its entries
pub record Makes (s : Shelf) (l : Lesson) (A : ℕ) (truth : Bool) (before : List SheetEntry) (r : Result Made Unmade) (after : List SheetEntry) : Type 0 where
  pub makes : MakesTable s l A truth (length before) r
  pub entries : after ≡ entries_after before r
