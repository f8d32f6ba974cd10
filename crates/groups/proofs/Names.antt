-- The names of a group, its facts and its places. A literal's name is in a list where one of the list's names has the literal, so inserting both literals of each gives the
-- literals of the list.
use mathlib.Core.Path.{◌≡◌, refl, sym, ◌∙◌, ap, fun_ext}
use mathlib.Core.Logic.{◌⊎◌, inl, inr, ◌↔◌}
use mathlib.Core.Bool.{Bool, true, false, not, ◌&&◌, ◌||◌, or-false}
use mathlib.Core.List.Memᴰ
use mathlib.Core.List.{List, [], ◌∷◌}
use Prim.Native.Nat.{ℕ, suc, ◌+◌, ◌*◌, ◌/◌, ◌≤◌, ◌<◌}
use native.Mathlib.Decide.{ℕ_discrete, dec_lt}
use native.Mathlib.Numerals.{add-one}
use native.Mathlib.Omega.{arith}
use lib.Dec.{eqb}
use lib.ListN.{length, get_or, drop, drop_of_length-le}
use lib.Seq.{drop-cons}
use borrow.Author.Tests.{eqb-true, eq-eqb, ne_eqb, le-ltb}
use Rattle.truth.proofs.Truth.{clash, decided, same_test, or_elim, or_l, or_r}
use Rattle.wfsx.specs.Sets.{Set, ◌∈◌, ◌∉◌, ∅, ◌∖◌, ◌is_in◌}
use Rattle.wfsx.specs.Reach.{name_of}
use Rattle.litset.specs.Words.{capacity, with}
use Rattle.litset.proofs.Words.{with_room}
use Rattle.book.specs.Limits.{max_names}
use Rattle.groups.specs.Parts.{among, facts_for, used_in, UsedBelow, alike}

-- ---- lists of names

pub among_is : (ks : List ℕ) (j : ℕ) → (j ∈ among ks) ↔ (j is_in ks)
unfolding among
among_is [] j = (λ h. absurd (clash h refl), λ m. absurd (Memᴰ.not-nil m))
among_is (k ∷ ks) j = (λ h. there (among_is ks j).0 (or_elim (eqb j k) (among ks j) h), back (among_is ks j).1)
  where
    there : (j ∈ among ks → j is_in ks) → (eqb j k ≡ true) ⊎ (j ∈ among ks) → j is_in k ∷ ks
    there rest (inl e) = Memᴰ.head (eqb-true j k e)
    there rest (inr h) = Memᴰ.tail (rest h)

    back : (j is_in ks → j ∈ among ks) → j is_in k ∷ ks → j ∈ among (k ∷ ks)
    back rest (Memᴰ.head e) = or_l (eqb j k) _ (eq-eqb j k e)
    back rest (Memᴰ.tail m) = or_r (eqb j k) _ (rest m)

among_first : (k : ℕ) (ks : List ℕ) (j : ℕ) → among (k ∷ ks) j ≡ (eqb j k || among ks j)
unfolding among
among_first k ks j = refl

among_none : (j : ℕ) → among [] j ≡ false
unfolding among
among_none j = refl

-- ---- the literals of names

with_at : (l : ℕ) (S : Set) (A : ℕ) → A < capacity → with l S A ≡ (eqb A l || S A)
unfolding with
with_at l S A h = go (dec_lt l capacity)
  where
    go : Dec (l < capacity) → with l S A ≡ (eqb A l || S A)
    go (yes r) = ap (λ (U : Set). U A) (with_room l S r)
    go (no r) = rw (le-ltb l capacity (omega arith), ne_eqb A l (λ e. omega arith)) refl

either_literal : (A k : ℕ) → eqb (name_of A) k ≡ (eqb A (2 * k + 1) || eqb A (2 * k))
either_literal A k = same_test (λ h. there (eqb-true (A / 2) k h) (ℕ_discrete A (2 * k))) (λ h. back (or_elim (eqb A (2 * k + 1)) (eqb A (2 * k)) h))
  where
    there : A / 2 ≡ k → Dec (A ≡ 2 * k) → (eqb A (2 * k + 1) || eqb A (2 * k)) ≡ true
    there e (yes q) = or_r (eqb A (2 * k + 1)) _ (eq-eqb A (2 * k) q)
    there e (no q) = or_l (eqb A (2 * k + 1)) _ (eq-eqb A (2 * k + 1) (omega arith))

    back : (eqb A (2 * k + 1) ≡ true) ⊎ (eqb A (2 * k) ≡ true) → eqb (A / 2) k ≡ true
    back (inl e) = eq-eqb (A / 2) k (omega (arith, eqb-true A (2 * k + 1) e))
    back (inr e) = eq-eqb (A / 2) k (omega (arith, eqb-true A (2 * k) e))

-- X has the literals of the names before place i, of those that a set has room for
pub record Marked (names : List ℕ) (i : ℕ) (X : Set) : Type 0 where
  pub same : (A : ℕ) → A < capacity → (X A || among (drop i names) (name_of A)) ≡ among names (name_of A)

pub marked_start : {names : List ℕ} {X : Set} → X ≡ ∅ → Marked names 0 X
marked_start e = record { same = λ A h. rw e refl }

module _ {names : List ℕ} {i : ℕ} {X : Set} (m : Marked names i X) where
  -- a is the first literal of the name at place i
  pub marked_more : {a : ℕ} {Y Z : Set} → i < length names → a ≡ 2 * get_or names i 0 → Y ≡ with a X → Z ≡ with (a + 1) Y → Marked names (i + 1) Z
  marked_more {a} {Y} {Z} more here y z = record { same = λ A h. go A h ∙ m.same A h }
    where
      next : drop i names ≡ get_or names i 0 ∷ drop (i + 1) names
      next = rw (drop-cons names i 0 more, add-one i) refl

      turn : (s t x r : Bool) → ((s || (t || x)) || r) ≡ (x || ((s || t) || r))
      turn true t true r = refl
      turn true t false r = refl
      turn false true true r = refl
      turn false true false r = refl
      turn false false x r = refl

      go : (A : ℕ) → A < capacity → (Z A || among (drop (i + 1) names) (name_of A)) ≡ (X A || among (drop i names) (name_of A))
      go A h =
          let rest = among (drop (i + 1) names) (name_of A) in
          let its : eqb (name_of A) (get_or names i 0) ≡ (eqb A (a + 1) || eqb A a) = rw here (either_literal A (get_or names i 0)) in
          ap (λ (t : Bool). t || rest)
          (ap (λ (U : Set). U A) z ∙ with_at (a + 1) Y A h ∙ ap (λ (t : Bool). eqb A (a + 1) || t) (ap (λ (U : Set). U A) y ∙ with_at a X A h))
          ∙ turn (eqb A (a + 1)) (eqb A a) (X A) rest
          ∙ ap (λ (t : Bool). X A || t) (ap (λ (t : Bool). t || rest) (sym its) ∙ sym (among_first (get_or names i 0) (drop (i + 1) names) (name_of A)) ∙ ap (λ (l : List ℕ). among l (name_of A)) (sym next))

  pub marked_end : {F D R : Set} → length names ≤ i → ((A : ℕ) → A ∈ F → A < capacity) → D ≡ F ∖ X → R ≡ F ∖ D → R ≡ facts_for names F
  marked_end {F} {D} {R} all small d r = rw (r, d) (fun_ext (λ A. go A (decided (F A))))
    where
      twice : (x : Bool) → not (not x) ≡ x
      twice true = refl
      twice false = refl

      here : (A : ℕ) → A < capacity → X A ≡ among names (name_of A)
      here A h = sym (rw (drop_of_length-le names all, among_none (name_of A)) (or-false (X A))) ∙ m.same A h

      go : (A : ℕ) → (A ∈ F) ⊎ (A ∉ F) → (F A && not (F A && not (X A))) ≡ (F A && among names (name_of A))
      go A (inl f) = rw f (twice (X A) ∙ here A (small A f))
      go A (inr f) = rw f refl

-- ---- the names with a rule or a fact

pub used_start : (first : List ℕ) (F : Set) → UsedBelow first F max_names
used_start first F = record { most = omega arith; none = λ k low high. absurd (omega arith) }

pub used_fewer : {first : List ℕ} {F : Set} {n : ℕ} → UsedBelow first F (n + 1) → n ∉ used_in first F → UsedBelow first F n
used_fewer {first} {F} {n} u e = record { most = let h = u.most in omega arith; none = λ k low high. go k low high (ℕ_discrete k n) }
  where
    go : (k : ℕ) → n ≤ k → k < max_names → Dec (k ≡ n) → k ∉ used_in first F
    go k low high (yes q) = rw q e
    go k low high (no q) = u.none k (omega arith) high

-- ---- the places of a group

pub alike_none : (x : ℕ) → alike x [] ≡ 0
unfolding alike
alike_none x = refl

pub alike_more : (x y : ℕ) (ys : List ℕ) → y ≡ x → alike x (y ∷ ys) ≡ suc (alike x ys)
unfolding alike
alike_more x y ys e = rw (eq-eqb y x e) refl

pub alike_other : (x y : ℕ) (ys : List ℕ) → (y ≡ x → ⊥) → alike x (y ∷ ys) ≡ 0
unfolding alike
alike_other x y ys e = rw (ne_eqb y x e) refl

module _ (numbers : List ℕ) (x p : ℕ) where
  pub alike_past : length numbers ≤ p → alike x (drop p numbers) ≡ 0
  alike_past h = ap (alike x) (drop_of_length-le numbers h) ∙ alike_none x

  module _ (more : p < length numbers) where
    pub alike_here : get_or numbers p 0 ≡ x → alike x (drop p numbers) ≡ suc (alike x (drop (p + 1) numbers))
    alike_here e = rw (drop-cons numbers p 0 more, add-one p) (alike_more x (get_or numbers p 0) (drop (suc p) numbers) e)

    pub alike_ends : (get_or numbers p 0 ≡ x → ⊥) → alike x (drop p numbers) ≡ 0
    alike_ends e = rw (drop-cons numbers p 0 more) (alike_other x (get_or numbers p 0) (drop (suc p) numbers) e)
