-- What a walk of the trees may keep from one node for another. T-trees lose and TU-trees gain by more T-ancestors, and TU-trees lose by a longer
-- local path. Where a node fails, the literal may as well be an ancestor: it prunes nothing that holds. So what was learnt below a node that
-- failed stays true above it, and a literal whose children hold with no ancestors holds with none. Laws of the unfolding equation alone.
use mathlib.Core.Path.{◌≡◌, refl, sym, ◌∙◌, ap}
use mathlib.Core.Logic.{◌⊎◌, inl, inr}
use mathlib.Core.Bool.{Bool, true, not, ◌&&◌, and-false}
use Prim.Native.Nat.{ℕ, zero, suc, ◌≤◌}
use native.Mathlib.Omega.{arith}
use native.Mathlib.Nat.{le_refl}
use lib.Dec.{eqb}
use borrow.Author.Tests.{eqb-true, not-true}
use Rattle.truth.proofs.Truth.{clash, decided, contra, refuted, not_intro, not_mono, and_l, and_r, and_intro, or_none}
use Rattle.wfsx.specs.Sets.{Set, ◌∈◌, ◌∉◌, ◌⊆◌, ∅, add, ◌is_in◌}
use Rattle.wfsx.specs.Program.{compl, Entry, positive, default, Program, seminormal}
use Rattle.wfsx.specs.Model.{supported, headed}
use Rattle.wfsx.specs.Trees.{T, TU, child, tree}
use Rattle.wfsx.proofs.Sets.{⊆_antisym, ⊆_add, add_more, add_swap, outside_add}
use Rattle.wfsx.proofs.Supported.{heads, supported_map, supported_head, supported_seminormal}
use Rattle.wfsx.proofs.Trees.{open_heads, tree_unfolds, holds_at, first_way, one_set_unfolds}

-- a member of U is another literal than one outside U, so it stays outside a set with that one added
kept_out : (U S : Set) (A B : ℕ) → A ∉ U → B ∈ U → B ∉ S → B ∉ add A S
kept_out U S A B a b s = or_none (eqb B A) (S B) (refuted (λ e. clash (rw (eqb-true B A e) at b) a)) s

module _ (P : Program) where
  abbrev t : Set → Set
  t X = tree P T ∅ X

  abbrev u : Set → Set → Set
  u Y X = tree P TU Y X

  -- ---- a node that holds, and one that does so by its children

  t_opens : (X : Set) (A : ℕ) → A ∈ t X → (A ∉ X) × (A is_in heads P) × (A ∈ supported P (child (tree P) T ∅ (add A X)))
  t_opens X A h =
      let n : (not (X A) && supported P (child (tree P) T ∅ (add A X)) A) ≡ true = sym (one_set_unfolds P X A) ∙ h in
      let s : A ∈ supported P (child (tree P) T ∅ (add A X)) = and_r (not (X A)) _ n in
      (not-true (X A) (and_l (not (X A)) _ n), supported_head P (child (tree P) T ∅ (add A X)) A s, s)

  t_grows : (X : Set) (A : ℕ) → A ∉ X → A ∈ supported P (child (tree P) T ∅ (add A X)) → A ∈ t X
  t_grows X A x s = one_set_unfolds P X A ∙ and_intro (not (X A)) _ (not_intro x) s

  u_grows : (Y X : Set) (A : ℕ) → A ∉ Y → A ∈ supported (seminormal P) (child (tree P) TU (add A Y) X) → A ∈ u Y X
  u_grows Y X A y s = ap (λ (S : Set). S A) (tree_unfolds P TU Y X) ∙ and_intro (not (Y A)) _ (not_intro y) s

  -- a child of a T-tree, its second way left out
  t_child : (X Z : Set) → t X ⊆ t Z → u ∅ Z ⊆ u ∅ X → (e : Entry) → child (tree P) T ∅ X e ≡ true → child (tree P) T ∅ Z e ≡ true
  t_child X Z f g (positive B) h = f B h
  t_child X Z f g (default C) h = first_way P ∅ Z C ∙ not_mono (u ∅ X C) (g C) (sym (first_way P ∅ X C) ∙ h)

  -- ---- the local path of a TU-tree

  -- fewer T-answers, at least as many TU-answers, the path and the T-ancestors compared
  u_map_to : (X Z : Set) → t Z ⊆ t X → (n : ℕ) (Y W : Set) → open_heads P Y ≤ n → W ⊆ Y → u Y X ⊆ u W Z
  u_map_to X Z f zero Y W l g A h = let w = holds_at P TU Y X A h in absurd (omega (arith, outside_add Y A w.0 w.1))
  u_map_to X Z f (suc n) Y W l g A h = go (u_map_to X Z f n) (holds_at P TU Y X A h)
    where
      go : ((Y W : Set) → open_heads P Y ≤ n → W ⊆ Y → u Y X ⊆ u W Z)
          → (A ∉ Y) × (A is_in heads P) × (A ∈ supported (seminormal P) (child (tree P) TU (add A Y) X)) → A ∈ u W Z
      go below w = u_grows W Z A (contra (g A) w.0) (supported_map (child (tree P) TU (add A Y) X) (child (tree P) TU (add A W) Z) more (seminormal P) A w.2)
        where
          more : (e : Entry) → child (tree P) TU (add A Y) X e ≡ true → child (tree P) TU (add A W) Z e ≡ true
          more (positive B) b = below (add A Y) (add A W) (omega (arith, outside_add Y A w.0 w.1)) (add_more A g) B b
          more (default C) c = not_mono (t X C) (f C) c

  u_map : (X Z Y W : Set) → t Z ⊆ t X → W ⊆ Y → u Y X ⊆ u W Z
  u_map X Z Y W f = u_map_to X Z f (open_heads P Y) Y W (le_refl _)

  pub u_shorter : (X : Set) {Y W : Set} → W ⊆ Y → u Y X ⊆ u W X
  u_shorter X {Y} {W} g = u_map X X Y W (λ A h. h) g

  -- a literal that fails at a path prunes nothing that holds there
  u_agrees_to : (X : Set) (A : ℕ) (n : ℕ) (Y : Set) → open_heads P Y ≤ n → A ∉ u Y X → u Y X ⊆ u (add A Y) X
  u_agrees_to X A zero Y l a B h = let w = holds_at P TU Y X B h in absurd (omega (arith, outside_add Y B w.0 w.1))
  u_agrees_to X A (suc n) Y l a B h = go (u_agrees_to X A n) (holds_at P TU Y X B h)
    where
      go : ((Y : Set) → open_heads P Y ≤ n → A ∉ u Y X → u Y X ⊆ u (add A Y) X)
          → (B ∉ Y) × (B is_in heads P) × (B ∈ supported (seminormal P) (child (tree P) TU (add B Y) X)) → B ∈ u (add A Y) X
      go below w =
          u_grows (add A Y) X B (kept_out (u Y X) Y A B a h w.0)
          (supported_map (child (tree P) TU (add B Y) X) (child (tree P) TU (add B (add A Y)) X) more (seminormal P) B w.2)
        where
          more : (e : Entry) → child (tree P) TU (add B Y) X e ≡ true → child (tree P) TU (add B (add A Y)) X e ≡ true
          more (positive D) d =
              rw (add_swap B A Y) (below (add B Y) (omega (arith, outside_add Y B w.0 w.1))
              (contra (u_shorter X (⊆_add B Y) A) a) D d)
          more (default C) c = c

  pub u_agrees : (Y X : Set) (A : ℕ) → A ∉ u Y X → u (add A Y) X ≡ u Y X
  u_agrees Y X A a =
      ⊆_antisym (u_shorter X (⊆_add A Y)) (u_agrees_to X A (open_heads P Y) Y (le_refl _) a)

  -- where all its children hold with no path, a literal holds with none
  pub u_has : (X : Set) (A : ℕ) → A ∈ supported (seminormal P) (child (tree P) TU ∅ X) → A ∈ u ∅ X
  u_has X A h = go (decided (u ∅ X A))
    where
      go : (A ∈ u ∅ X) ⊎ (A ∉ u ∅ X) → A ∈ u ∅ X
      go (inl e) = e
      go (inr e) = u_grows ∅ X A refl (supported_map (child (tree P) TU ∅ X) (child (tree P) TU (add A ∅) X) more (seminormal P) A h)
        where
          more : (x : Entry) → child (tree P) TU ∅ X x ≡ true → child (tree P) TU (add A ∅) X x ≡ true
          more (positive B) b = rw (u_agrees ∅ X A e) b
          more (default C) c = c

  -- ---- the T-ancestors

  t_fewer_to : (n : ℕ) (X Z : Set) → open_heads P X ≤ n → Z ⊆ X → t X ⊆ t Z
  t_fewer_to zero X Z l g A h = let w = t_opens X A h in absurd (omega (arith, outside_add X A w.0 w.1))
  t_fewer_to (suc n) X Z l g A h = go (t_fewer_to n) (t_opens X A h)
    where
      go : ((X Z : Set) → open_heads P X ≤ n → Z ⊆ X → t X ⊆ t Z) → (A ∉ X) × (A is_in heads P) × (A ∈ supported P (child (tree P) T ∅ (add A X))) → A ∈ t Z
      go below w =
          let f : t (add A X) ⊆ t (add A Z) = below (add A X) (add A Z) (omega (arith, outside_add X A w.0 w.1)) (add_more A g) in
          t_grows Z A (contra (g A) w.0) (supported_map (child (tree P) T ∅ (add A X)) (child (tree P) T ∅ (add A Z))
          (t_child (add A X) (add A Z) f (u_map (add A Z) (add A X) ∅ ∅ f (λ B b. b))) P A w.2)

  pub t_fewer : {X Z : Set} → Z ⊆ X → t X ⊆ t Z
  t_fewer {X} {Z} = t_fewer_to (open_heads P X) X Z (le_refl _)

  pub u_wider : (Y : Set) {X Z : Set} → Z ⊆ X → u Y Z ⊆ u Y X
  u_wider Y {X} {Z} g = u_map Z X Y Y (t_fewer g) (λ B b. b)

  -- a literal that fails below T-ancestors prunes nothing that holds there
  t_agrees_to : (A : ℕ) (n : ℕ) (X : Set) → open_heads P X ≤ n → A ∉ t X → t X ⊆ t (add A X)
  t_agrees_to A zero X l a B h = let w = t_opens X B h in absurd (omega (arith, outside_add X B w.0 w.1))
  t_agrees_to A (suc n) X l a B h = go (t_agrees_to A n) (t_opens X B h)
    where
      go : ((X : Set) → open_heads P X ≤ n → A ∉ t X → t X ⊆ t (add A X))
          → (B ∉ X) × (B is_in heads P) × (B ∈ supported P (child (tree P) T ∅ (add B X))) → B ∈ t (add A X)
      go below w =
          let f : t (add B X) ⊆ t (add B (add A X)) = rw (add_swap B A X) (below (add B X) (omega (arith, outside_add X B w.0 w.1)) (contra (t_fewer (⊆_add B X) A) a)) in
          t_grows (add A X) B (kept_out (t X) X A B a h w.0) (supported_map (child (tree P) T ∅ (add B X)) (child (tree P) T ∅ (add B (add A X)))
          (t_child (add B X) (add B (add A X)) f (u_map (add B (add A X)) (add B X) ∅ ∅ f (λ C c. c))) P B w.2)

  pub t_agrees : (X : Set) (A : ℕ) → A ∉ t X → t (add A X) ≡ t X
  t_agrees X A a = ⊆_antisym (t_fewer (⊆_add A X)) (t_agrees_to A (open_heads P X) X (le_refl _) a)

  -- TU-trees look at the T-ancestors only through what T-trees answer
  pub u_same : (Y X Z : Set) → t X ≡ t Z → u Y X ≡ u Y Z
  u_same Y X Z e = ⊆_antisym (u_map X Z Y Y (λ B b. rw e b) (λ B b. b)) (u_map Z X Y Y (λ B b. rw e at b) (λ B b. b))

  -- where all its children hold with no ancestors, a literal holds with none
  pub t_has : (A : ℕ) → A ∈ supported P (child (tree P) T ∅ ∅) → A ∈ t ∅
  t_has A h = go (decided (t ∅ A))
    where
      go : (A ∈ t ∅) ⊎ (A ∉ t ∅) → A ∈ t ∅
      go (inl e) = e
      go (inr e) = t_grows ∅ A refl (supported_map (child (tree P) T ∅ ∅) (child (tree P) T ∅ (add A ∅)) (t_child ∅ (add A ∅) more less) P A h)
        where
          more : t ∅ ⊆ t (add A ∅)
          more B b = rw (t_agrees ∅ A e) b

          less : u ∅ (add A ∅) ⊆ u ∅ ∅
          less = u_map (add A ∅) ∅ ∅ ∅ more (λ B b. b)

  -- ---- a node that fails

  pub t_fails : (X : Set) (A : ℕ) → A ∉ supported P (child (tree P) T ∅ (add A X)) → A ∉ t X
  t_fails X A n = refuted (λ h. clash (t_opens X A h).2 n)

  pub u_fails : (Y X : Set) (A : ℕ) → A ∉ supported (seminormal P) (child (tree P) TU (add A Y) X) → A ∉ u Y X
  u_fails Y X A n = refuted (λ h. clash (holds_at P TU Y X A h).2 n)

  -- a literal that is no head fails, whatever stands above it
  headless : (f : Entry → Bool) (A : ℕ) → A ∉ headed P → A ∉ supported P f
  headless f A n = contra (supported_map f (λ e. true) (λ e h. refl) P A) n

  pub t_headless : (X : Set) (A : ℕ) → A ∉ headed P → A ∉ t X
  t_headless X A n = t_fails X A (headless (child (tree P) T ∅ (add A X)) A n)

  pub u_headless : (Y X : Set) (A : ℕ) → A ∉ headed P → A ∉ u Y X
  u_headless Y X A n =
      let f : Entry → Bool = child (tree P) TU (add A Y) X in
      u_fails Y X A (supported_seminormal P f A ∙ rw (headless f A n) (and-false (f (default (compl A)))))
