-- The marks of a program: the names that reach one with both literals in M are its contradictory names, and since facts alter no reach the book's rules tell
-- which these are.
use mathlib.Core.Path.{◌≡◌, ◌∙◌, ap}
use mathlib.Core.Bool.{Bool, true, ◌&&◌}
use mathlib.Core.Logic.{◌↔◌}
use Prim.Native.Nat.{ℕ, ◌*◌, ◌≤◌}
use native.Mathlib.Omega.{arith}
use lib.Dec.{ltb}
use lib.ListN.{length}
use borrow.Author.Tests.{ltb-true, lt-ltb}
use Rattle.truth.proofs.Truth.{and_l, and_r, and_intro}
use Rattle.wfsx.specs.Sets.{Set, ◌∈◌, members}
use Rattle.wfsx.specs.Program.{Program}
use Rattle.wfsx.specs.Model.{M, Heads⊆}
use Rattle.wfsx.specs.Reach.{name_of}
use Rattle.wfsx.specs.ContradictoryNames.{ReachesBoth, contradictory_names}
use Rattle.wfsx.proofs.Sets.{⊆_antisym}
use Rattle.wfsx.proofs.ContradictoryNames.{contradictory_is, both_facts}
use Rattle.litset.specs.Words.{room, capacity, set_of}
use Rattle.litset.specs.declared.LitSet.{LitSet}
use Rattle.litset.proofs.Made.{words_for}
use Rattle.book.specs.Limits.{max_names}
use Rattle.book.specs.Book.{clamp, names_of, rules_of, program_of}
use Rattle.book.specs.declared.Book.{Book}
use Rattle.book.proofs.Heads.{program_of_lem}
use Rattle.book.proofs.Names.{names_counted}
use Rattle.fixpoint.specs.Result.{ModelOf}
use Rattle.fixpoint.specs.declared.Model.{Model}
use Rattle.fixpoint.proofs.Published.{model_exists}
use Rattle.reach.specs.Reaching.{ReachingBoth}
use Rattle.lister.specs.declared.Marks.{Marks}
use Rattle.lesson.specs.State.{BookState, its_names, in_book, contradictory_below}
use Rattle.lesson.specs.Calls.{MarksOf}
use Rattle.lesson.proofs.Order.{name_inside}

-- ---- the contradictory names

module _ (b : Book) (F : Set) where
  abbrev P : Program
  P = program_of b F

  both_in_lem : (S : Set) (k : ℕ) → ReachesBoth (rules_of b) S k ↔ ReachesBoth P S k
  both_in_lem S k = rw (program_of_lem b F) (both_facts (rules_of b) (members capacity F) S k)

  reaching_are : (n : ℕ) (R : Set) → ReachingBoth (rules_of b) n (M P) R → R ≡ contradictory_below n P
  unfolding contradictory_below
  reaching_are n R h = ⊆_antisym there back
    where
      there : (A : ℕ) → A ∈ R → ltb (name_of A) n && contradictory_names P (name_of A) ≡ true
      there A i =
          let w = (h.exactly A).0 i in
          and_intro (ltb (name_of A) n) _ (lt-ltb (name_of A) n w.0) ((contradictory_is P (name_of A)).1 ((both_in_lem (M P) (name_of A)).0 w.1))

      back : (A : ℕ) → ltb (name_of A) n && contradictory_names P (name_of A) ≡ true → A ∈ R
      back A i =
          let name = (contradictory_is P (name_of A)).0 (and_r (ltb (name_of A) n) _ i) in
          (h.exactly A).1 (ltb-true (name_of A) n (and_l (ltb (name_of A) n) _ i), (both_in_lem (M P) (name_of A)).1 name)

  pub marks_are : (m : Model) (C : LitSet) → ModelOf P m → ReachingBoth (rules_of b) (clamp max_names b.names) (set_of m.truths.words) (set_of C.words)
      → MarksOf (length (names_of b)) P (record { model = m; contradictory = C })
  marks_are m C is h =
      record {
        model_is = is;
        contradictory_are = reaching_are (length (names_of b)) (set_of C.words) (rw (names_counted b) (rw is.truths at h));
      }

-- ---- where they stand

-- for a literal of the book the set tells whether its name is contradictory
pub contradictory_at : (b : BookState) (P : Program) (C : Set) → C ≡ contradictory_below (length (its_names b)) P → (A : ℕ) → A ∈ in_book b → C A ≡ contradictory_names P (name_of A)
unfolding contradictory_below
contradictory_at b P C c A i =
    ap (λ (S : Set). S A) c ∙ ap (λ (t : Bool). t && contradictory_names P (name_of A)) (lt-ltb (name_of A) (length (its_names b)) (name_inside b A i))

-- the marks of a program have room in memory
pub marks_exist : (n : ℕ) (P : Program) → 2 * n ≤ capacity → Heads⊆ P room → (m : Marks) × MarksOf n P m
unfolding contradictory_below
marks_exist n P few small =
    let m = model_exists P small in
    let inside : (A : ℕ) → A ∈ contradictory_below n P → A ∈ room = λ A i. let h = ltb-true (name_of A) n (and_l (ltb (name_of A) n) _ i) in lt-ltb A capacity (omega arith) in
    let C = words_for (contradictory_below n P) inside in
    (record { model = m.0; contradictory = C.0 }, record { model_is = m.1; contradictory_are = C.2 })
