-- The marks that a lesson holds are those of its program: where it begins on a book, and after every change, since marks stay only where the program does.
use mathlib.Core.Path.{◌≡◌, refl, sym, ◌∙◌, ap}
use mathlib.Core.Logic.{inl, inr}
use mathlib.Core.List.{List, []}
use Prim.Native.Nat.{ℕ, ◌*◌}
use lib.ListN.{length}
use borrow.Author.Tests.{lt-ltb}
use Rattle.wfsx.specs.Sets.{∅, members}
use Rattle.wfsx.specs.Program.{Rule}
use Rattle.wfsx.specs.Model.{M}
use Rattle.wfsx.specs.Rounds.{rounds}
use Rattle.litset.specs.Words.{capacity, clash_in}
use Rattle.book.specs.Book.{names_of, rules_of, program, program_of}
use Rattle.book.specs.declared.Book.{Book}
use Rattle.book.proofs.Heads.{program_of_lem}
use Rattle.lister.specs.Listing.{words_of, listing_by, listing_of}
use Rattle.lister.proofs.Standing.{listing_by_lem, listing_stands}
use Rattle.std.specs.Prelude.{Result, Ok, Err}
use Rattle.lesson.specs.State.{BookState, loaded_with, Own, State, emptied, its_names, its_rules, in_force, program_in, in_book, listing_in, listing_from, changed}
use Rattle.lesson.specs.Calls.{shelf_of, own_of, meaning_of, MarksOf, Standing, bytes_of, Begins, MarksAfter, ChangesTo, LessonAfter, Changes}
use Rattle.lesson.specs.declared.Shelf.{Shelf}
use Rattle.lesson.specs.declared.Lesson.{Lesson}
use Rattle.lesson.specs.declared.Change.{Change}
use Rattle.lesson.specs.declared.Refusal.{Refusal}
use Rattle.lesson.proofs.Replies.{own_with}
use Rattle.lesson.proofs.Meaning.{shelf_empty, shelf_loaded, loaded_is, program_is}
use Rattle.lesson.proofs.Marks.{contradictory_at}

-- the program looks at the facts in force alone
program_by_lem : (b : BookState) (o p : Own) → in_force o ≡ in_force p → program_in (record { book = b; own = o }) ≡ program_in (record { book = b; own = p })
unfolding program_in
program_by_lem b o p e = ap (program (its_rules b)) e

pub own_begins : (b : Book) (l : Lesson) → Begins b l → own_of l ≡ emptied
own_begins b l h = own_with l ∅ h.none_put_in

module _ (s : Shelf) (l : Lesson) (begins : Begins s.book l) where
  begin_stands : length (names_of s.book) ≡ length (its_names (shelf_of s)) → program_of s.book ∅ ≡ program_in (record { book = shelf_of s; own = emptied }) → Standing s l
  begin_stands names same = rw (own_begins s.book l begins) (rw (same, names) at (rw begins.none_put_in at begins.marks_are))

  -- on a shelf with a book, and on one without a book whose table has neither a name nor a rule
  pub begin_loaded : (s.loaded ≡ 0 → ⊥) → Standing s l
  unfolding in_force
  begin_loaded e = begin_stands (sym (ap (λ (b : BookState). length (its_names b)) (shelf_loaded s e))) (program_is s (loaded_is s e) emptied)

  pub begin_empty : s.loaded ≡ 0 → names_of s.book ≡ [] → rules_of s.book ≡ [] → Standing s l
  unfolding program_in in_force
  begin_empty e no_names no_rules =
      begin_stands (rw (shelf_empty s e, no_names) refl)
      (program_of_lem s.book ∅ ∙ ap (λ (rules : List Rule). program rules ∅) no_rules ∙ sym (ap (λ (b : BookState). program (its_rules b) ∅) (shelf_empty s e)))

module _ (s : Shelf) (l : Lesson) (stands : Standing s l) where
  changed_stands : (own : Own) (m : Lesson) → ChangesTo s l own m → Standing s m
  changed_stands own m h = rw h.own_is (go h.marks_are)
    where
      go : MarksAfter l (in_force own) (length (its_names (shelf_of s))) (program_in (record { book = shelf_of s; own = own })) m.marks
          → MarksOf (length (its_names (shelf_of s))) (program_in (record { book = shelf_of s; own = own })) m.marks
      go (inl w) = rw (w.1, program_by_lem (shelf_of s) own (own_of l) w.0) stands
      go (inr w) = w.1

  pub change_stands : (c : Change) (r : Result (Unit {0}) Refusal) (m : Lesson) → Changes s l c r m → Standing s m
  change_stands c r m h = go r h.leaves
    where
      go : (r : Result (Unit {0}) Refusal) → LessonAfter s l (changed c (own_of l)) r m → Standing s m
      go (Ok done) w = changed_stands (changed c (own_of l)) m w
      go (Err e) w = rw w stands

  -- then the bytes that the listing call writes are the listing of documents 01 and 02
  pub bytes_stand : bytes_of s l ≡ listing_in (meaning_of s l)
  unfolding listing_from listing_in program_in in_book
  bytes_stand =
      let is = stands.model_is in
      listing_stands _ _ _ _ _ _ _ is.truths is.nonfalse (λ A h. contradictory_at (shelf_of s) _ _ stands.contradictory_are A (lt-ltb A (2 * length (its_names (shelf_of s))) h)) is.rounds

-- the listing by its header and the words of its program
pub listing_is : (d : State) → listing_in d ≡ listing_by (its_names d.book) (length (its_rules d.book)) (length (members capacity (in_force d.own))) (rounds (program_in d)) (words_of (program_in d)) (clash_in (M (program_in d)))
unfolding listing_in program_in
listing_is d = listing_by_lem (its_names d.book) (its_rules d.book) (in_force d.own)

-- the listing of a book with no facts
pub listing_begun : (names : List (List ℕ)) (rules : List Rule) → listing_in (record { book = loaded_with names rules; own = emptied }) ≡ listing_of names rules ∅
unfolding listing_in in_force
listing_begun names rules = refl
