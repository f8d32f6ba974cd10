-- Putting in and taking out leave the lesson what their arguments say, or leave it as it was; and some reply meets their contract.
use mathlib.Core.Path.{◌≡◌, refl, sym, ◌∙◌, ap}
use mathlib.Core.Bool.{Bool, true, false, cond, and-false, true≢false}
use mathlib.Core.Logic.{inr}
use Prim.Native.Nat.{ℕ}
use native.Mathlib.Omega.{arith}
use lib.ListN.{length}
use borrow.Author.Tests.{eq-eqb, lt-ltb}
use Rattle.wfsx.specs.Sets.{Set, add}
use Rattle.litset.specs.Words.{capacity, set_of, without}
use Rattle.litset.proofs.Made.{words_for}
use Rattle.litset.proofs.Words.{without_at}
use Rattle.std.specs.Prelude.{Result, Ok, Err}
use Rattle.lesson.specs.State.{State, none_loaded, in_book, if_loaded, in_order, its_names, in_force, program_in, Said, gives, refused, Ack, acknowledged, told_done, its_literal, change_fits, change_says, changed_set, changed, state_after}
use Rattle.lesson.specs.Calls.{shelf_of, own_of, meaning_of, LessonAfter, Changes}
use Rattle.lesson.specs.declared.Shelf.{Shelf}
use Rattle.lesson.specs.declared.Lesson.{Lesson}
use Rattle.lesson.specs.declared.Change.{Change}
use Rattle.lesson.specs.declared.Change.TheVariants.{PutIn, TakeOut}
use Rattle.lesson.specs.declared.Refusal.{Refusal}
use Rattle.lesson.specs.declared.Refusal.TheVariants as refusal
use Rattle.lesson.proofs.Order.{given_refused, refused_same, given_inside, inside}
use Rattle.lesson.proofs.Refusals.{Told, order_told_lem}
use Rattle.lesson.proofs.Marks.{marks_exist}
use Rattle.lesson.proofs.Sound.{Sound, sound_change, book_in_room, heads_in_room}

module _ (s : Shelf) (l : Lesson) (c : Change) (r : Result (Unit {0}) Refusal) (m : Lesson) (h : Changes s l c r m) where
  pub change_means : meaning_of s m ≡ state_after (meaning_of s l) c
  change_means = go r h.says h.leaves
    where
      go : (r : Result (Unit {0}) Refusal) → told_done r ≡ change_says (meaning_of s l) c → LessonAfter s l (changed c (own_of l)) r m
          → meaning_of s m ≡ state_after (meaning_of s l) c
      go (Ok done) e w = rw (w.own_is, ← e) refl
      go (Err f) e w = rw (w, ← e) refl

  pub change_kept : (number : ℕ) → told_done r ≡ refused number → m ≡ l
  change_kept number e = go r e h.leaves
    where
      go : (r : Result (Unit {0}) Refusal) → told_done r ≡ refused number → LessonAfter s l (changed c (own_of l)) r m → m ≡ l
      go (Ok done) e w = absurd (given_refused acknowledged number e)
      go (Err f) e w = w

-- ---- some reply meets the contract

-- an accepted change makes another set
differs : (c : Change) (S : Set) → change_fits c (S (its_literal c)) ≡ gives acknowledged → changed_set c S ≡ S → ⊥
differs (PutIn A) S f same = go (S A) refl f
  where
    go : (t : Bool) → S A ≡ t → change_fits (PutIn A) t ≡ gives acknowledged → ⊥
    go true e h = given_refused acknowledged 22 (sym h)
    go false e h =
        let added : add A S A ≡ true = rw (eq-eqb A A refl) refl in
        true≢false (sym added ∙ ap (λ (F : Set). F A) same ∙ e)
differs (TakeOut A) S f same = go (S A) refl f
  where
    go : (t : Bool) → S A ≡ t → change_fits (TakeOut A) t ≡ gives acknowledged → ⊥
    go true e h =
        let removed : without A S A ≡ false = without_at A S A ∙ rw (eq-eqb A A refl) (and-false (S A)) in
        true≢false (sym e ∙ sym (ap (λ (F : Set). F A) same) ∙ removed)
    go false e h = given_refused acknowledged 23 (sym h)

-- and none of its numbers has an index
pub change_not_27 : (d : State) (c : Change) → change_says d c ≡ refused 27 → ⊥
unfolding change_says in_order if_loaded
change_not_27 d c = go (none_loaded d.book) (in_book d.book (its_literal c)) c (d.own.put_in (its_literal c))
  where
    other : (n : ℕ) → (n ≡ 27 → ⊥) → ◌≡◌ {A = Said Ack} (refused n) (refused 27) → ⊥
    other n never e = never (refused_same n 27 e)

    go : (a i : Bool) (c : Change) (now : Bool) → cond a (refused 20) (cond i (change_fits c now) (refused 21)) ≡ refused 27 → ⊥
    go true i c now = other 20 (λ e. omega arith)
    go false false c now = other 21 (λ e. omega arith)
    go false true (PutIn A) true = other 22 (λ e. omega arith)
    go false true (PutIn A) false = given_refused acknowledged 27
    go false true (TakeOut A) true = given_refused acknowledged 27
    go false true (TakeOut A) false = other 23 (λ e. omega arith)

pub change_exists : (s : Shelf) (l : Lesson) (c : Change) → Sound (meaning_of s l) → (r : Result (Unit {0}) Refusal) × (m : Lesson) × Changes s l c r m
unfolding change_says in_force own_of
change_exists s l c sound =
    let w = order_told_lem (λ (done : Unit {0}). acknowledged) (shelf_of s) _ (fits c (set_of l.facts.words (its_literal c))) (its_literal c) in
    go w.0 w.1
  where
    fits : (c : Change) (now : Bool) → Told (λ (done : Unit {0}). acknowledged) (change_fits c now)
    fits (PutIn A) true = (Err refusal.AlreadyPutIn, refl)
    fits (PutIn A) false = (Ok tt, refl)
    fits (TakeOut A) true = (Ok tt, refl)
    fits (TakeOut A) false = (Err refusal.NotPutIn, refl)

    accepted : change_says (meaning_of s l) c ≡ gives acknowledged → (m : Lesson) × Changes s l c (Ok tt) m
    accepted e =
        let d = meaning_of s l in
        let own = changed c (own_of l) in
        let after : Sound (record { book = shelf_of s; own = own }) = rw e at (sound_change c d sound) in
        let at = given_inside (shelf_of s) (its_literal c) _ acknowledged e in
        let other = differs c (own_of l).put_in (sym (inside (shelf_of s) (its_literal c) _ at.0 at.1) ∙ e) in
        let facts = words_for own.put_in (λ A h. lt-ltb A capacity (book_in_room _ after A (after.facts_known A h))) in
        let few = after.few_names in
        let m = marks_exist (length (its_names (shelf_of s))) (program_in (record { book = shelf_of s; own = own })) (omega arith) (heads_in_room _ after) in (
          record { facts = facts.0; marks = m.0 },
          record {
            says = sym e;
            leaves = record { own_is = ap (λ (S : Set). record { put_in = S }) facts.2; marks_are = inr (other, m.1) };
          },
        )

    go : (r : Result (Unit {0}) Refusal) → told_done r ≡ change_says (meaning_of s l) c → (r : Result (Unit {0}) Refusal) × (m : Lesson) × Changes s l c r m
    go (Ok done) e = let w = accepted (sym e) in (Ok tt, w.0, w.1)
    go (Err f) e = (Err f, l, record { says = e; leaves = refl })
