-- What the marks say stays so (`Right`): one law for each way in which the sets of marked literals change. A literal that fails below
-- T-ancestors may as well be one of them, so what was found below it stays; one that holds may not, so what failed or was held below it is
-- forgotten.
use mathlib.Core.Path.{◌≡◌, refl, ◌∙◌}
use mathlib.Core.Bool.{Bool, ◌||◌}
use mathlib.Core.List.{List}
use Prim.Native.Nat.{ℕ, ◌<◌}
use native.Mathlib.Decide.{ℕ_discrete}
use native.Mathlib.Omega.{arith}
use lib.ListN.{get_or}
use Rattle.truth.proofs.Truth.{clash, contra, or_l, or_r, or_none}
use Rattle.wfsx.specs.Sets.{Set, ◌∈◌, ◌∉◌, ◌⊆◌, ∅, add}
use Rattle.wfsx.specs.Program.{Entry, Program}
use Rattle.wfsx.specs.Model.{supported}
use Rattle.wfsx.specs.Trees.{T, TU, tree}
use Rattle.wfsx.proofs.Sets.{⊆_add, with_one}
use Rattle.wfsx.proofs.Trees.{one_set_unfolds, complement_once}
use Rattle.wfsx.proofs.Ancestors.{t_fewer, t_agrees, u_shorter, u_wider, u_same}
use Rattle.litset.specs.Words.{capacity}
use Rattle.search.specs.Marks.{above_in, path_in}
use Rattle.search.specs.Walk.{Right, Tables, Resting}
use Rattle.search.proofs.Marks.{marked_is}

-- ---- set by set

module _ {P : Program} {S F X G H : Set} (r : Right P S F X G H) where
  -- one more holds in T-trees
  pub right_proved : (a : ℕ) → a ∈ tree P T ∅ ∅ → Right P (add a S) F X G H
  right_proved a h =
      record {
        proved_right = with_one (λ A. A ∈ tree P T ∅ ∅) a S h r.proved_right;
        failed_right = r.failed_right;
        false_right = r.false_right;
        held_right = r.held_right;
      }

  -- one more T-ancestor
  pub right_down : (a : ℕ) → Right P S F (add a X) G H
  right_down a =
      record {
        proved_right = r.proved_right;
        failed_right = λ A m. contra (t_fewer P (⊆_add a X) A) (r.failed_right A m);
        false_right = r.false_right;
        held_right = λ A m. u_wider P ∅ (⊆_add a X) A (r.held_right A m);
      }

  -- more fail in TU-trees
  pub right_false : (L : Set) → ((A : ℕ) → A ∈ L → A ∉ tree P TU ∅ ∅) → Right P S F X L H
  right_false L k =
      record {
        proved_right = r.proved_right;
        failed_right = r.failed_right;
        false_right = k;
        held_right = r.held_right;
      }

  -- one more holds in TU-trees
  pub right_held : (a : ℕ) → a ∈ tree P TU ∅ X → Right P S F X G (add a H)
  right_held a h =
      record {
        proved_right = r.proved_right;
        failed_right = r.failed_right;
        false_right = r.false_right;
        held_right = with_one (λ A. A ∈ tree P TU ∅ X) a H h r.held_right;
      }

module _ (P : Program) (S F X G H : Set) (a : ℕ) (r : Right P S F (add a X) G H) where
  -- the ancestor fails
  pub right_failed : a ∉ tree P T ∅ X → Right P S (add a F) X G H
  right_failed n =
      let same = t_agrees P X a n in
      record {
        proved_right = r.proved_right;
        failed_right = with_one (λ A. A ∉ tree P T ∅ X) a F n (λ A m. rw (← same) (r.failed_right A m));
        false_right = r.false_right;
        held_right = λ A m. rw (← u_same P ∅ (add a X) X same) (r.held_right A m);
      }

  -- the ancestor holds
  pub right_passed : (F' H' : Set) → a ∈ tree P T ∅ ∅ → ((A : ℕ) → A ∉ F') → ((A : ℕ) → A ∉ H') → Right P (add a S) F' X G H'
  right_passed F' H' h f k =
      record {
        proved_right = with_one (λ A. A ∈ tree P T ∅ ∅) a S h r.proved_right;
        failed_right = λ A m. absurd (clash m (f A));
        false_right = r.false_right;
        held_right = λ A m. absurd (clash m (k A));
      }

-- ---- what a mark says

none : (S : Set) → ∅ ⊆ S
none S A m = absurd (clash m refl)

module _ {P : Program} {t u : List ℕ} (h : Tables P t u) (a : ℕ) where
  pub t_holds : get_or t a 0 ≡ 1 → a ∈ tree P T ∅ ∅
  t_holds e = h.right.proved_right a (marked_is 1 t a e)

  -- any other mark: it failed, or is an ancestor
  pub t_not : (get_or t a 0 ≡ 1 → ⊥) → (get_or t a 0 ≡ 0 → ⊥) → a ∉ tree P T ∅ (above_in t)
  t_not n z = go (ℕ_discrete (get_or t a 0) 2)
    where
      go : Dec (get_or t a 0 ≡ 2) → a ∉ tree P T ∅ (above_in t)
      go (yes e) = h.right.failed_right a (marked_is 2 t a e)
      go (no e) =
          let three : get_or t a 0 ≡ 3 = omega (arith, h.t_marks a) in
          one_set_unfolds P (above_in t) a ∙ rw (marked_is 3 t a three) refl

  pub u_holds : get_or u a 0 ≡ 2 → a ∈ tree P TU ∅ (above_in t)
  u_holds e = h.right.held_right a (marked_is 2 u a e)

  -- any other mark: it is false, shut, or on the path
  pub u_not : Resting P TU u → (get_or u a 0 ≡ 2 → ⊥) → (get_or u a 0 ≡ 0 → ⊥) → a ∉ tree P TU (path_in u) ∅
  unfolding Resting
  u_not rest n z = go (ℕ_discrete (get_or u a 0) 1) (ℕ_discrete (get_or u a 0) 3)
    where
      go : Dec (get_or u a 0 ≡ 1) → Dec (get_or u a 0 ≡ 3) → a ∉ tree P TU (path_in u) ∅
      go (yes e) d = contra (u_shorter P ∅ (none (path_in u)) a) (h.right.false_right a (marked_is 1 u a e))
      go (no x) (yes e) = rest a (marked_is 3 u a e)
      go (no x) (no y) =
          let four : get_or u a 0 ≡ 4 = omega (arith, h.u_marks a) in
          complement_once P (path_in u) ∅ a ∙ rw (marked_is 4 u a four) refl

-- ---- what the facts F add to the rules, of which R says what they support

pub record Joined (P : Program) (R : (Entry → Bool) → Set) (F : Set) : Type 0 where
  pub joined : (f : Entry → Bool) (A : ℕ) → A < capacity → supported P f A ≡ (R f A || F A)

module _ {P : Program} {R : (Entry → Bool) → Set} {F : Set} (join : Joined P R F) (f : Entry → Bool) (A : ℕ) (small : A < capacity) where
  pub by_rule : A ∈ R f → A ∈ supported P f
  by_rule m = join.joined f A small ∙ or_l (R f A) (F A) m

  pub by_fact : A ∈ F → A ∈ supported P f
  by_fact m = join.joined f A small ∙ or_r (R f A) (F A) m

  pub by_none : A ∉ R f → A ∉ F → A ∉ supported P f
  by_none m n = join.joined f A small ∙ or_none (R f A) (F A) m n
