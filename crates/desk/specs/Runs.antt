-- The calls of a desk, each as one record: what a list of them leaves by its arguments alone (document 01, "What a list of calls leaves"), and what a run
-- of it is. Then what the three demands, and requests A.3, A.7 and A.14 of document 02, say of a reply.
use Rattle.std.specs.Prelude.{◌≡◌, ◌↔◌, Bool, true, false, List, ◌++◌, ℕ, ◌*◌, ◌≤◌, ◌<◌, length, take, drop, Result, Ok}
use Rattle.wfsx.specs.Sets.{Set, ◌∈◌, ◌∉◌, ◌⊆◌, ◌∖◌}
use Rattle.wfsx.specs.Program.{Program}
use Rattle.wfsx.specs.Model.{M, N, PartialStable, value_in}
use Rattle.wfsx.specs.Model as wfsx
use Rattle.wfsx.specs.Reach.{name_of, reached_rules}
use Rattle.wfsx.specs.ContradictoryNames.{ContradictoryName}
use Rattle.wfsx.specs.AnswerSets.{AnswerSet, Accords}
use Rattle.wfsx.specs.Trees.{Tree, T, TU}
use Rattle.litset.specs.Words.{set_of}
use Rattle.search.specs.Questions.{question_of}
use Rattle.scan.specs.declared.Alphabet.TheVariants.{EitherCase}
use Rattle.reader.specs.File.{Outcome, accepted, read_file}
use Rattle.reader.specs.File as reader
use Rattle.reader.specs.Conditions.{Row, First, IsRefused}
use Rattle.fixpoint.specs.Result.{ModelOf, verdict_is}
use Rattle.fixpoint.specs.declared.Verdict.{Verdict}
use Rattle.reach.specs.declared.Order.{Order}
use Rattle.sheet.specs.Sheet.{accepted as is-accepted, IsSo}
use Rattle.sheet.specs.declared.SheetEntry.{SheetEntry}
use Rattle.maker.specs.declared.Made.{Made}
use Rattle.lesson.specs.State.{unloaded, loaded_with, emptied, State, program_in, in_book, ContradictoryOver, listing_in, Said, gives, refused, told_by, told, told_done, state_after, known_in, judgement_says, check_says}
use Rattle.lesson.specs.Calls.{Changes, GivesVerdict, Searches, model_told, GivesModel, order_told, GivesOrder, groups_told, GivesGroups, Lists, Previews, judged, Checks, make_told, Makes}
use Rattle.lesson.specs.Conditions.{change_rows, verdict_rows, search_rows, book_rows, listing_rows, preview_rows, check_rows, make_rows}
use Rattle.lesson.specs.declared.Shelf.{Shelf}
use Rattle.lesson.specs.declared.Lesson.{Lesson}
use Rattle.lesson.specs.declared.Change.{Change}
use Rattle.lesson.specs.declared.Refusal.{Refusal}
use Rattle.lesson.specs.declared.WholeModel.{WholeModel}
use Rattle.lesson.specs.declared.ModelByGroups.{ModelByGroups}
use Rattle.lesson.specs.declared.Unmade.{Unmade}
use Rattle.calls.specs.Lists.{CallSpec, after_all, RunOf}
use Rattle.desk.specs.Calls.{LoadRefused, Loads}
use Rattle.desk.specs.declared.Desk.{Desk}
use Rattle.reader.specs.declared.Refusal as loading

-- A call with its arguments. A load has the bytes of its file, a listing and a preview those of the lent buffer; a change puts a literal in or takes it out, and
-- a preview has the change that it tries; a search has a literal number, whether `~` stands before it, and T or TU. The check of a sheet and its maker have a
-- claim, which is a literal number with whether it is said to be true, and the entries of the lent run.
pub data Call : Type 0 where
  load : List ℕ → Call
  change : Change → Call
  verdict : ℕ → Call
  search_for : ℕ → Bool → Tree → Call
  model : Call
  working_order : Call
  model_by_groups : Call
  listing : List ℕ → Call
  preview : Change → List ℕ → Call
  check_sheet : ℕ → (truth : Bool) → List SheetEntry → Call
  make_sheet : ℕ → (truth : Bool) → List SheetEntry → Call

-- ---- each call as one record

-- at the start there is no book and the set is empty
abbrev pub nothing : State
nothing = record { book = unloaded; own = emptied }

-- a load makes the file's names and rules the book, and empties the set
abbrev pub after_load : State → Outcome → State
after_load d (accepted names rules) = record { book = loaded_with names rules; own = emptied }
after_load d (reader.refused number line) = d

-- a call that reads: it changes neither book nor set
abbrev pub reading_call : (R : Type 0) {X : Type 0} → (Shelf → Lesson → R → Type 0) → (R → Said X) → (State → List Row) → CallSpec Desk State
reading_call R Meets said rows =
    record {
      Reply = R;
      Meets = λ k r. Meets k.shelf k.lesson r;
      next = λ k r. k;
      after = λ d. d;
      TurnsDown = λ d number line. First number (rows d);
      RefusedBy = λ r number line. said r ≡ refused number;
      Unwritten = λ r. Unit;
    }

-- a call that reads and is lent a buffer: beside its answer stands what the buffer has afterwards, bytes or entries
abbrev pub lent_call : {B : Type 0} → List B → (R : Type 0) {X : Type 0} → (Shelf → Lesson → R → List B → Type 0) → (R → Said X) → (State → List Row) → CallSpec Desk State
lent_call {B} buffer R Meets said rows =
    record {
      Reply = R × List B;
      Meets = λ k r. Meets k.shelf k.lesson r.0 r.1;
      next = λ k r. k;
      after = λ d. d;
      TurnsDown = λ d number line. First number (rows d);
      RefusedBy = λ r number line. said r.0 ≡ refused number;
      Unwritten = λ r. r.1 ≡ buffer;
    }

-- a load or a change has the desk or the lesson that it leaves beside its answer
abbrev pub spec_of : Call → CallSpec Desk State
spec_of (load file) =
    record {
      Reply = Result (Unit {0}) loading.Refusal × Desk;
      Meets = λ k r. Loads k file r.0 r.1;
      next = λ k r. r.1;
      after = λ d. after_load d (read_file EitherCase file);
      TurnsDown = λ d number line. IsRefused file number line;
      RefusedBy = λ r number line. LoadRefused number line r.0;
      Unwritten = λ r. Unit;
    }
spec_of (change c) =
    record {
      Reply = Result (Unit {0}) Refusal × Lesson;
      Meets = λ k r. Changes k.shelf k.lesson c r.0 r.1;
      next = λ k r. record { shelf = k.shelf; lesson = r.1 };
      after = λ d. state_after d c;
      TurnsDown = λ d number line. First number (change_rows d c);
      RefusedBy = λ r number line. told_done r.0 ≡ refused number;
      Unwritten = λ r. Unit;
    }
spec_of (verdict A) = reading_call (Result Verdict Refusal) (λ s l r. GivesVerdict s l A r) (λ r. told_by verdict_is r) (λ d. verdict_rows d A)
spec_of (search_for A default t) = reading_call (Result Bool Refusal) (λ s l r. Searches s l A t (question_of A default) r) told (λ d. search_rows d A)
spec_of model = reading_call (Result WholeModel Refusal) GivesModel model_told book_rows
spec_of working_order = reading_call (Result Order Refusal) (λ s l r. GivesOrder s r) order_told book_rows
spec_of model_by_groups = reading_call (Result ModelByGroups Refusal) GivesGroups groups_told book_rows
spec_of (listing buffer) = lent_call buffer (Result ℕ Refusal) (λ s l r after. Lists s l buffer r after) told (λ d. listing_rows d buffer)
spec_of (preview c buffer) = lent_call buffer (Result ℕ Refusal) (λ s l r after. Previews s l c buffer r after) told (λ d. preview_rows d c buffer)
spec_of (check_sheet A truth es) = reading_call (Result (Unit {0}) Refusal) (λ s l r. Checks s l A truth es r) (λ r. judgement_says (judged r)) (λ d. check_rows d A truth es)
spec_of (make_sheet A truth run) = lent_call run (Result Made Unmade) (λ s l r after. Makes s l A truth run r after) make_told (λ d. make_rows d A truth run)

-- ---- lists

-- the list's own book and set of facts
abbrev pub left : List Call → State
left cs = after_all spec_of nothing cs

abbrev pub Run : Desk → List Call → Desk → Type 0
Run k cs m = RunOf spec_of k cs m

-- ---- what is due of a reply, over what the list before it leaves

-- demand 3: when the search for a literal, or for `not` of it, is to say yes
abbrev pub IsDue : Program → Tree → Bool → ℕ → Type 0
IsDue P T false A = A ∈ M P
IsDue P TU false A = A ∈ N P
IsDue P T true A = A ∉ N P
IsDue P TU true A = A ∉ M P

pub record Due (P : Program) (k : Tree) (default : Bool) (A : ℕ) (said : Said Bool) : Type 0 where
  pub yes_exactly : (said ≡ gives true) ↔ IsDue P k default A
  pub else_no : (IsDue P k default A → ⊥) → said ≡ gives false

-- the least partial stable model of P, and v is the value of the literal in it
pub record ModelVerdict (base : Set) (P : Program) (A : ℕ) (v : wfsx.Verdict) : Type 0 where
  pub stable : PartialStable P base (M P) (base ∖ N P)
  pub least : (S F : Set) → PartialStable P base S F → (M P ⊆ S) × (base ∖ N P ⊆ F)
  pub value : v ≡ value_in (M P) (base ∖ N P) A

-- a verdict is given, and it is that value
abbrev pub GivesValue : Set → Program → ℕ → Said wfsx.Verdict → Type 0
GivesValue base P A said = (v : wfsx.Verdict) × (said ≡ gives v) × ModelVerdict base P A v

-- Demand 2, for a literal of the book (document 02, A.7): agreement with the published definition is read over the rules for the names that its name
-- reaches.
pub record VerdictDue (d : State) (A : ℕ) (said : Said wfsx.Verdict) : Type 0 where
  -- 24 is given exactly where the name, or a name it reaches, has both literals in M, and every other verdict is read from M and N
  pub refused_24 : (said ≡ refused 24) ↔ ContradictoryName (program_in d) (name_of A)
  pub read : (ContradictoryName (program_in d) (name_of A) → ⊥) → said ≡ gives (wfsx.verdict (program_in d) A)
  -- that is exactly where the rules for the reached names have no partial stable model; otherwise they have a least one, and the verdict is the value in it
  pub without_model : (said ≡ refused 24) ↔ wfsx.Contradictory (reached_rules (program_in d) (name_of A)) (in_book d.book)
  pub with_model : (wfsx.Contradictory (reached_rules (program_in d) (name_of A)) (in_book d.book) → ⊥)
      → GivesValue (in_book d.book) (reached_rules (program_in d) (name_of A)) A said
  -- of a lesson that is not contradictory all verdicts are given, and they are those of the whole program, as document 01 has it
  pub whole : (ContradictoryOver (in_book d.book) d → ⊥) → GivesValue (in_book d.book) (program_in d) A said

-- whether the lesson is contradictory is said as it is
pub record ConsistencyDue (d : State) (said : Said Bool) : Type 0 where
  pub contradictory : (said ≡ gives true) ↔ ContradictoryOver (in_book d.book) d
  pub consistent : (said ≡ gives false) ↔ (ContradictoryOver (in_book d.book) d → ⊥)

-- the model call answers M, N, how many rounds M takes (document 02, A.10) and whether the lesson is contradictory
pub record ModelDue (d : State) (r : Result WholeModel Refusal) : Type 0 where
  pub consistency : ConsistencyDue d (model_told r)
  pub given : WholeModel
  pub is_given : r ≡ Ok given
  pub model_is : ModelOf (program_in d) given.model

-- the listing call answers the listing's length and writes the listing, byte for byte; the bytes after it stay
pub record ListingDue (d : State) (buffer : List ℕ) (said : Said ℕ) (after : List ℕ) : Type 0 where
  pub fitting : length (listing_in d) ≤ length buffer → (said ≡ gives (length (listing_in d))) × (after ≡ listing_in d ++ drop (length (listing_in d)) buffer)
  pub short : length buffer < length (listing_in d) → (said ≡ refused 25) × (after ≡ buffer)

-- ---- what is due of proof sheets (document 02, A.3)

-- the check answers what the definition says, 27 with its index; a claim that it accepts is so
pub record CheckDue (d : State) (A : ℕ) (truth : Bool) (es : List SheetEntry) (r : Result (Unit {0}) Refusal) : Type 0 where
  pub says : judged r ≡ check_says d A truth es
  pub sound : judged r ≡ is-accepted → IsSo (program_in d) truth A

-- the maker writes a sheet for every claim that is so, of at most two entries for each literal, which the check accepts; the entries after it stay
pub record MakeDue (d : State) (A : ℕ) (truth : Bool) (run : List SheetEntry) (said : Said ℕ) (after : List SheetEntry) : Type 0 where
  pub writes : IsSo (program_in d) truth A → 2 * known_in d.book ≤ length run → (n : ℕ) × (said ≡ gives n)
  pub few : (n : ℕ) → said ≡ gives n → n ≤ 2 * known_in d.book
  pub accepted : (n : ℕ) → said ≡ gives n → check_says d A truth (take n after) ≡ is-accepted
  pub rest : (n : ℕ) → said ≡ gives n → drop n after ≡ drop n run

-- ---- what is due where the program has an answer set (document 02, A.14)

-- a verdict is not refused by 24, and the one that is given accords with the answer sets
pub record AccordDue (P : Program) (A : ℕ) (said : Said wfsx.Verdict) : Type 0 where
  pub not_24 : said ≡ refused 24 → ⊥
  pub accords : (v : wfsx.Verdict) → said ≡ gives v → Accords P A v

-- the model call says that the lesson is not contradictory, and every answer set lies between the two sets that it gives
pub record BetweenDue (P : Program) (r : Result WholeModel Refusal) : Type 0 where
  pub consistent : model_told r ≡ gives false
  pub given : WholeModel
  pub is_given : r ≡ Ok given
  pub between : (S : Set) → AnswerSet P S → (set_of given.model.truths.words ⊆ S) × (S ⊆ set_of given.model.nonfalse.words)
