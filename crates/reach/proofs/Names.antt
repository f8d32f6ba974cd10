-- Sets of names, as sets of literals that have both literals of each name. So the lowest name with both literals is the lowest name of the set.
use mathlib.Core.Path.{◌≡◌, refl, sym, ◌∙◌, ap, ap₂, subst, fun_ext}
use mathlib.Core.Logic.{◌⊎◌, inl, inr}
use mathlib.Core.Bool.{Bool, true, false, not, ◌&&◌, ◌||◌, and_self}
use Prim.Native.Nat.{ℕ, ◌+◌, ◌*◌, ◌/◌, ◌<◌}
use native.Mathlib.Decide.{dec_lt, ℕ_discrete}
use native.Mathlib.Omega.{arith}
use lib.Dec.{eqb, ltb}
use borrow.Author.Tests.{eq-eqb, ne_eqb, lt-ltb, le-ltb, not-true}
use Rattle.truth.proofs.Truth.{clash, decided, refuted, not_intro, and_l, and_r, and_intro, or_l, or_r}
use Rattle.wfsx.specs.Sets.{Set, ◌∈◌, ◌∉◌, ◌⊆◌, ∅, ◌∖◌, add}
use Rattle.wfsx.specs.Model.{Both}
use Rattle.wfsx.specs.Reach.{name_of, literals_of}
use Rattle.litset.specs.Words.{capacity, with, ClashOf, clash_in}
use Rattle.std.specs.Prelude.{Option, Some, None}
use Rattle.litset.proofs.Words.{with_room}
use Rattle.litset.proofs.Clashes.{clash_of}
use Rattle.litset.proofs.Room.{free, free_falls}
use Rattle.reach.specs.Table.{n_names, with_name, both_in, below}

-- ---- a name added

pub with_name_is : (k : ℕ) (S : Set) → k < n_names → with (2 * k + 1) (with (2 * k) S) ≡ with_name k S
with_name_is k S h =
    with_room (2 * k + 1) (with (2 * k) S) (omega arith) ∙ ap (add (2 * k + 1)) (with_room (2 * k) S (omega arith)) ∙ fun_ext (λ A. go A (ℕ_discrete A (2 * k + 1)) (ℕ_discrete A (2 * k)))
  where
    go : (A : ℕ) → Dec (A ≡ 2 * k + 1) → Dec (A ≡ 2 * k) → add (2 * k + 1) (add (2 * k) S) A ≡ with_name k S A
    go A (yes e) d = let name : A / 2 ≡ k = omega arith in rw (eq-eqb A (2 * k + 1) e, eq-eqb (A / 2) k name) refl
    go A (no n) (yes e) = let name : A / 2 ≡ k = omega arith in rw (ne_eqb A (2 * k + 1) n, eq-eqb A (2 * k) e, eq-eqb (A / 2) k name) refl
    go A (no n) (no m) = rw (ne_eqb A (2 * k + 1) n, ne_eqb A (2 * k) m, ne_eqb (A / 2) k (λ e. omega arith)) refl

pub with_name_has : (k : ℕ) (S : Set) → 2 * k ∈ with_name k S
with_name_has k S = let name : 2 * k / 2 ≡ k = omega arith in or_l (eqb (2 * k / 2) k) _ (eq-eqb (2 * k / 2) k name)

pub with_name_keeps : (k : ℕ) (S : Set) → S ⊆ with_name k S
with_name_keeps k S A h = or_r (eqb (name_of A) k) _ h

pub below_zero : ∅ ≡ literals_of (below 0)
below_zero = fun_ext (λ A. sym (le-ltb (name_of A) 0 (omega arith)))

pub below_next : (k : ℕ) → with_name k (literals_of (below k)) ≡ literals_of (below (k + 1))
below_next k = fun_ext (λ A. go (name_of A) (ℕ_discrete (name_of A) k) (dec_lt (name_of A) k))
  where
    go : (j : ℕ) → Dec (j ≡ k) → Dec (j < k) → (eqb j k || ltb j k) ≡ ltb j (k + 1)
    go j (yes e) d = rw (eq-eqb j k e, lt-ltb j (k + 1) (omega arith)) refl
    go j (no n) (yes l) = rw (ne_eqb j k n, lt-ltb j k l, lt-ltb j (k + 1) (omega arith)) refl
    go j (no n) (no l) = rw (ne_eqb j k n, le-ltb j k (omega arith), le-ltb j (k + 1) (omega arith)) refl

-- ---- the lowest name

pub double : (k : ℕ) → name_of (2 * k) ≡ k
double k = omega arith

pub literal_in_lem : (W : Set) {S : Set} → S ≡ literals_of W → (k : ℕ) → S (2 * k) ≡ W k
literal_in_lem W e k = ap (λ (U : Set). U (2 * k)) e ∙ ap W (double k)

pub both_names : (W : Set) {S : Set} → S ≡ literals_of W → both_in S ≡ W
both_names W {S} e = fun_ext (λ k. let next : name_of (2 * k + 1) ≡ k = omega arith in
    ap₂ ◌&&◌ (literal_in_lem W e k) (ap (λ (U : Set). U (2 * k + 1)) e ∙ ap W next) ∙ and_self (W k))

-- the lowest name of W, if W has any; a set has room for it
abbrev pub LowestOf : Set → Option ℕ → Type 0
LowestOf W None = (k : ℕ) → k ∉ W
LowestOf W (Some k) = (k ∈ W) × ((j : ℕ) → j < k → j ∉ W) × (k < n_names)

module _ (S : Set) (inside : (A : ℕ) → A ∈ S → A < capacity) (c : Option ℕ) (is : c ≡ clash_in S) where
  pub lowest_of : (d : Option ℕ) → c ≡ d → LowestOf (both_in S) d
  lowest_of d e = go d (subst (λ (x : Option ℕ). ClashOf S x) (sym is ∙ e) (clash_of S inside))
    where
      none : (k : ℕ) → (Both S k → ⊥) → k ∉ both_in S
      none k f = refuted (λ h. f (and_l (S (2 * k)) _ h, and_r (S (2 * k)) _ h))

      go : (x : Option ℕ) → ClashOf S x → LowestOf (both_in S) x
      go None f = λ k. none k (f k)
      go (Some k) f = let high = inside (2 * k + 1) f.0.1 in (and_intro _ _ f.0.0 f.0.1, λ j h. none j (f.1 j h), omega arith)

-- ---- the members of two sets

pub common : (S U : Set) (A : ℕ) → (S ∖ (S ∖ U)) A ≡ (S A && U A)
common S U A = go (S A) (U A)
  where
    go : (a b : Bool) → (a && not (a && not b)) ≡ (a && b)
    go true true = refl
    go true false = refl
    go false b = refl

-- ---- a set that grows

pub grows : (X Y : Set) (A : ℕ) → X ⊆ Y → A ∉ X → A ∈ Y → ((B : ℕ) → B ∈ Y → B < capacity) → free Y < free X
grows X Y A f out in-it inside = free_falls X Y f inside (λ e. clash in-it (ap (λ (S : Set). S A) (sym e) ∙ out))

-- a name of what is left is not in the set taken away
pub left_out : (j : ℕ) (S U left : Set) → left ≡ S ∖ U → j ∈ both_in left → 2 * j ∉ U
left_out j S U left e h = not-true (U (2 * j)) (and_r (S (2 * j)) _ (ap (λ (X : Set). X (2 * j)) (sym e) ∙ and_l (left (2 * j)) _ h))

-- a name that is left is added
pub name_falls : (j : ℕ) (S U left more : Set) → left ≡ S ∖ U → j ∈ both_in left → U ⊆ more → 2 * j ∈ more → ((B : ℕ) → B ∈ more → B < capacity) → free more < free U
name_falls j S U left more e low f has inside = grows U more (2 * j) f (left_out j S U left e low) has inside

-- a name of S that is not left was taken away by one of its literals
pub taken : (j : ℕ) (S U left : Set) → left ≡ S ∖ U → j ∈ both_in S → j ∉ both_in left → (A : ℕ) × (name_of A ≡ j) × (A ∈ U)
taken j S U left e h o = go (decided (U (2 * j))) (decided (U (2 * j + 1)))
  where
    go : (2 * j ∈ U) ⊎ (2 * j ∉ U) → (2 * j + 1 ∈ U) ⊎ (2 * j + 1 ∉ U) → (A : ℕ) × (name_of A ≡ j) × (A ∈ U)
    go (inl a) f = (2 * j, double j, a)
    go (inr a) (inl b) = (2 * j + 1, omega arith, b)
    go (inr a) (inr b) =
        absurd (clash (and_intro _ _ (and_intro _ _ (and_l (S (2 * j)) _ h) (not_intro a)) (and_intro _ _ (and_r (S (2 * j)) _ h) (not_intro b))) (ap (λ (X : Set). both_in X j) (sym e) ∙ o))
