-- The trees' definition satisfies its unfolding equation at every node, and nothing else does: a node asks only nodes whose falling number is
-- smaller, so with enough depth the depth does not matter. The falling number combines the heads outside the T-ancestors with the heads
-- outside the local ancestors of a TU-tree. Laws elsewhere use the equation and not the depth.
use mathlib.Core.Path.{◌≡◌, refl, sym, ◌∙◌, ap, ap₂, fun_ext}
use mathlib.Core.Bool.{Bool, true, false, not, ◌&&◌, ◌||◌}
use Prim.Native.Nat.{ℕ, zero, suc, ◌+◌, ◌*◌, ◌≤◌, ◌<◌}
use native.Mathlib.Omega.{arith}
use native.Mathlib.Nat.{mul-le-mul_right, suc-mul}
use lib.ListN.{length}
use borrow.Author.Tests.{not-true}
use Rattle.wfsx.specs.Sets.{Set, ◌∈◌, ◌∉◌, ∅, ◌∪◌, add, ◌is_in◌}
use Rattle.wfsx.specs.Program.{compl, Entry, positive, default, Program}
use Rattle.wfsx.specs.Model.{supported}
use Rattle.wfsx.specs.Trees.{Tree, T, TU, Search, expansions, pruned, child, node, cut, depth, tree, answer}
use Rattle.truth.proofs.Truth.{clash, refuted, same_if, and_l, and_r}
use Rattle.wfsx.proofs.Sets.{add_∪, outside, outside_most, outside_add}
use Rattle.wfsx.proofs.Supported.{heads, supported_head, heads_most, supported_seminormal}

module _ (P : Program) where
  -- how many heads lie outside a set
  abbrev pub open_heads : Set → ℕ
  open_heads S = outside S (heads P)

  -- the falling number of a node
  abbrev pub size : Tree → Set → Set → ℕ
  size T L G = open_heads (L ∪ G) * (length P + 2)
  size TU L G = open_heads G * (length P + 2) + (open_heads L + 1)

  few : (S : Set) → open_heads S ≤ length P
  few S = omega (arith, outside_most S (heads P), heads_most P)

  pub size_depth : (k : Tree) (L G : Set) → size k L G < depth P
  size_depth T L G = omega (arith, mul-le-mul_right (length P + 2) (few (L ∪ G)), suc-mul (length P) (length P + 2))
  size_depth TU L G = omega (arith, few L, mul-le-mul_right (length P + 2) (few G), suc-mul (length P) (length P + 2))

  -- ---- a node asks only smaller ones

  -- the literal of a node that holds: it is no ancestor, and it is a head
  abbrev pub Opened : Tree → Set → Set → ℕ → Type 0
  Opened k L G A = (A ∉ pruned k L G) × (A is_in heads P)

  expanded_head : (k : Tree) (f : Entry → Bool) (A : ℕ) → A ∈ supported (expansions k P) f → A is_in heads P
  expanded_head T f A h = supported_head P f A h
  expanded_head TU f A h = supported_head P f A (and_r (f (default (compl A))) _ (sym (supported_seminormal P f A) ∙ h))

  opened : (s : Search) (k : Tree) (L G : Set) (A : ℕ) → A ∈ node P s k L G → Opened k L G A
  opened s k L G A h =
      let f : Entry → Bool = child s k (add A L) G in (
        not-true (pruned k L G A) (and_l (not (pruned k L G A)) (supported (expansions k P) f A) h),
        expanded_head k f A (and_r (not (pruned k L G A)) (supported (expansions k P) f A) h),
      )

  module _ (L G : Set) (A : ℕ) where
    pub fewer : Opened T L G A → open_heads (add A L ∪ G) < open_heads (L ∪ G)
    fewer o = rw (add_∪ A L G) (outside_add (L ∪ G) A o.0 o.1)

    -- from a T-tree to a TU-tree
    falls_T_TU : Opened T L G A → size TU ∅ (add A L ∪ G) < size T L G
    falls_T_TU o = omega (arith, few ∅, mul-le-mul_right (length P + 2) (fewer o), suc-mul (open_heads (add A L ∪ G)) (length P + 2))

    -- down a T-tree, and from one to another
    falls_T : Opened T L G A → size T (add A L) G < size T L G
    falls_T o = omega (arith, falls_T_TU o)

    falls_TU : Opened TU L G A → size TU (add A L) G < size TU L G
    falls_TU o = omega (arith, outside_add L A o.0 o.1)

    falls_TU_T : size T ∅ G < size TU L G
    falls_TU_T = omega arith

  -- the two answer alike at the nodes below a size
  abbrev Below : ℕ → Search → Search → Type 0
  Below n s s' = (k : Tree) (L G : Set) → size k L G < n → s k L G ≡ s' k L G

  module _ (s s' : Search) where
    child_local : (k : Tree) (L G : Set) (A : ℕ) → Below (size k L G) s s' → Opened k L G A → (e : Entry) → child s k (add A L) G e ≡ child s' k (add A L) G e
    child_local T L G A b o (positive B) = ap (λ (S : Set). S B) (b T (add A L) G (falls_T L G A o))
    child_local T L G A b o (default C) =
        ap₂ (λ (u t : Set). not (u C) || t (compl C)) (b TU ∅ (add A L ∪ G) (falls_T_TU L G A o)) (b T ∅ (add A L ∪ G) (falls_T L G A o))
    child_local TU L G A b o (positive B) = ap (λ (S : Set). S B) (b TU (add A L) G (falls_TU L G A o))
    child_local TU L G A b o (default C) = ap (λ (S : Set). not (S C)) (b T ∅ G (falls_TU_T L G A))

    node_local : (k : Tree) (L G : Set) → Below (size k L G) s s' → node P s k L G ≡ node P s' k L G
    node_local k L G b = fun_ext (λ A. same_if (λ h. same A (opened s k L G A h)) (λ h. same A (opened s' k L G A h)))
      where
        same : (A : ℕ) → Opened k L G A → node P s k L G A ≡ node P s' k L G A
        same A o = ap (λ (f : Entry → Bool). not (pruned k L G A) && supported (expansions k P) f A) (fun_ext (child_local k L G A b o))

  -- ---- the equation and its one solution

  -- deep enough, so the depth does not matter
  cut_same : (n m : ℕ) (k : Tree) (L G : Set) → size k L G < n → size k L G < m → cut P n k L G ≡ cut P m k L G
  unfolding cut
  cut_same zero m k L G h g = absurd (omega arith)
  cut_same (suc n) zero k L G h g = absurd (omega arith)
  cut_same (suc n) (suc m) k L G h g = node_local (cut P n) (cut P m) k L G (λ j K H l. cut_same n m j K H (omega arith) (omega arith))

  -- what the trees answer at a node is what its children's answers make it
  pub tree_unfolds : (k : Tree) (L G : Set) → tree P k L G ≡ node P (tree P) k L G
  unfolding tree cut
  tree_unfolds k L G = cut_same (depth P) (suc (depth P)) k L G (size_depth k L G) (omega (arith, size_depth k L G))

  -- and whatever satisfies this equation is the trees' answer
  pub tree_unique : (s : Search) → ((k : Tree) (L G : Set) → s k L G ≡ node P s k L G) → (k : Tree) (L G : Set) → s k L G ≡ tree P k L G
  tree_unique s e k L G = below (suc (size k L G)) k L G (omega arith)
    where
      below : (n : ℕ) → Below n s (tree P)
      below zero k L G l = absurd (omega arith)
      below (suc n) k L G l = e k L G ∙ node_local s (tree P) k L G (λ j K H i. below n j K H (omega arith)) ∙ sym (tree_unfolds k L G)

  -- ---- laws that a walk of the trees may use

  pub answer_is : (k : Tree) (q : Entry) → answer P k q ≡ child (tree P) k ∅ ∅ q
  unfolding answer
  answer_is k q = refl

  -- a node that holds
  pub holds_at : (k : Tree) (L G : Set) (A : ℕ) → A ∈ tree P k L G → (A ∉ pruned k L G) × (A is_in heads P) × (A ∈ supported (expansions k P) (child (tree P) k (add A L) G))
  holds_at k L G A h =
      let n : A ∈ node P (tree P) k L G = rw (tree_unfolds k L G) at h in
      let o = opened (tree P) k L G A n in
      (o.0, o.1, and_r (not (pruned k L G A)) (supported (expansions k P) (child (tree P) k (add A L) G) A) n)

  -- in a TU-tree the complement is asked for once, and not under each rule
  pub complement_once : (L G : Set) (A : ℕ) → tree P TU L G A ≡ (not (L A) && (not (tree P T ∅ G (compl A)) && supported P (child (tree P) TU (add A L) G) A))
  complement_once L G A =
      ap (λ (S : Set). S A) (tree_unfolds TU L G) ∙ ap (λ (b : Bool). not (L A) && b) (supported_seminormal P (child (tree P) TU (add A L) G) A)

  pub TU-blocks : (L G : Set) (A : ℕ) → A ∈ tree P TU L G → compl A ∉ tree P T ∅ G
  TU-blocks L G A h =
      let f : Entry → Bool = child (tree P) TU (add A L) G in
      not-true (tree P T ∅ G (compl A)) (and_l (f (default (compl A))) (supported P f A) (and_r (not (L A)) _ (sym (complement_once L G A) ∙ h)))

  -- the second way of a T-tree's default leaf follows from the first
  pub second_way : (L G : Set) (C : ℕ) → compl C ∈ tree P T ∅ G → C ∉ tree P TU L G
  second_way L G C h = refuted (λ u. clash h (TU-blocks L G C u))

  pub first_way : (L G : Set) (C : ℕ) → child (tree P) T L G (default C) ≡ not (tree P TU ∅ (L ∪ G) C)
  first_way L G C = go (tree P TU ∅ (L ∪ G) C) (tree P T ∅ (L ∪ G) (compl C)) (second_way ∅ (L ∪ G) C)
    where
      go : (u t : Bool) → (t ≡ true → u ≡ false) → (not u || t) ≡ not u
      go true true f = absurd (clash refl (f refl))
      go true false f = refl
      go false t f = refl

  -- ---- in a T-tree local ancestors and global T-ancestors prune alike, so one set serves for both

  abbrev merged : Search
  merged T L G = tree P T ∅ (L ∪ G)
  merged TU L G = tree P TU L G

  merged_child : (L G : Set) (e : Entry) → child merged T L G e ≡ child merged T ∅ (L ∪ G) e
  merged_child L G (positive B) = refl
  merged_child L G (default C) = refl

  merged_node : (L G : Set) → node P merged T L G ≡ node P merged T ∅ (L ∪ G)
  merged_node L G = fun_ext (λ A. ap (λ (f : Entry → Bool). not (L A || G A) && supported P f A) (fun_ext (same A)))
    where
      same : (A : ℕ) (e : Entry) → child merged T (add A L) G e ≡ child merged T (add A ∅) (L ∪ G) e
      same A e =
          merged_child (add A L) G e ∙ ap (λ (S : Set). child merged T ∅ S e) (add_∪ A L G ∙ sym (add_∪ A ∅ (L ∪ G)))
          ∙ sym (merged_child (add A ∅) (L ∪ G) e)

  tree_merged : (n : ℕ) → Below n (tree P) merged
  tree_merged zero k L G l = absurd (omega arith)
  tree_merged (suc n) TU L G l = refl
  tree_merged (suc n) T L G l =
      let below : Below n (tree P) merged = tree_merged n in
      let here : (K H : Set) → size T K H ≡ size T L G → tree P T K H ≡ node P merged T K H =
      λ K H e. tree_unfolds T K H ∙ node_local (tree P) merged T K H (λ j S U i. below j S U (omega arith)) in
      here L G refl ∙ merged_node L G ∙ sym (here ∅ (L ∪ G) refl)

  pub one_set : (L G : Set) → tree P T L G ≡ tree P T ∅ (L ∪ G)
  one_set L G = tree_merged (suc (size T L G)) T L G (omega arith)

  -- the unfolding equation of a T-node with one set
  pub one_set_unfolds : (X : Set) (A : ℕ) → tree P T ∅ X A ≡ (not (X A) && supported P (child (tree P) T ∅ (add A X)) A)
  one_set_unfolds X A =
      ap (λ (S : Set). S A) (tree_unfolds T ∅ X) ∙ ap (λ (f : Entry → Bool). not (X A) && supported P f A) (fun_ext same)
    where
      same : (e : Entry) → child (tree P) T (add A ∅) X e ≡ child (tree P) T ∅ (add A X) e
      same (positive B) = ap (λ (S : Set). S B) (one_set (add A ∅) X) ∙ ap (λ (S : Set). tree P T ∅ S B) (add_∪ A ∅ X)
      same (default C) = ap (λ (S : Set). not (tree P TU ∅ S C) || tree P T ∅ S (compl C)) (add_∪ A ∅ X)

-- ---- the trees are settled by what the rules support

-- programs that support the same have the same trees
pub tree_same : (P Q : Program) → ((f : Entry → Bool) (A : ℕ) → supported Q f A ≡ supported P f A) → (k : Tree) (L G : Set) → tree Q k L G ≡ tree P k L G
tree_same P Q same = tree_unique P (tree Q) (λ k L G. tree_unfolds Q k L G ∙ fun_ext (here k L G))
  where
    expanded : (k : Tree) (f : Entry → Bool) (A : ℕ) → supported (expansions k Q) f A ≡ supported (expansions k P) f A
    expanded T f A = same f A
    expanded TU f A =
        supported_seminormal Q f A ∙ ap (λ (b : Bool). f (default (compl A)) && b) (same f A) ∙ sym (supported_seminormal P f A)

    here : (k : Tree) (L G : Set) (A : ℕ) → node Q (tree Q) k L G A ≡ node P (tree Q) k L G A
    here k L G A = ap (λ (b : Bool). not (pruned k L G A) && b) (expanded k (child (tree Q) k (add A L) G) A)

pub answer_same : (P Q : Program) → ((f : Entry → Bool) (A : ℕ) → supported Q f A ≡ supported P f A) → (k : Tree) (q : Entry) → answer Q k q ≡ answer P k q
unfolding answer
answer_same P Q same k q = ap (λ (s : Search). child s k ∅ ∅ q) (fun_ext (λ j. fun_ext (λ L. fun_ext (λ G. tree_same P Q same j L G))))
