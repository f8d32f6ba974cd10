-- The pruned trees agree with the model, for every program, contradictory ones too.
-- Soundness: a T-tree that holds gives a literal of M, by induction over the heads outside the T-ancestors, since a TU-tree finds all of N: it
-- follows the steps of Γs(M), in which no local ancestor has come up yet. Completeness: a literal of I(k) has a T-tree below ancestors that are
-- not in I(k), by induction over k and the steps of Γ, since a TU-tree that holds there derives its literal in Γs(I(k)).
use mathlib.Core.Path.{◌≡◌, refl, sym, ◌∙◌, ap, subst}
use mathlib.Core.Logic.{◌⊎◌, inl, inr}
use mathlib.Core.Bool.{true, not, ◌||◌}
use Prim.Native.Nat.{ℕ, zero, suc, ◌≤◌}
use native.Mathlib.Omega.{arith}
use native.Mathlib.Nat.{le_refl}
use lib.ListN.{length}
use Rattle.wfsx.specs.Sets.{Set, ◌∈◌, ◌∉◌, ◌⊆◌, ∅, ◌∪◌, add, ◌is_in◌, iterate}
use Rattle.wfsx.specs.Program.{Entry, positive, default, Program, seminormal}
use Rattle.wfsx.specs.Model.{holds, supported, Γ, Γs, I, M, N}
use Rattle.wfsx.specs.Trees.{T, TU, child, tree, answer}
use Rattle.truth.proofs.Truth.{clash, decided, not_intro, not_mono, and_intro}
use Rattle.wfsx.proofs.Sets.{⊆_antisym, Apart, apart_∅, apart_add, add_∪, outside_add}
use Rattle.wfsx.proofs.Supported.{heads, supported_map}
use Rattle.wfsx.proofs.Operators.{derived, derived_grows, Γ-fixed, I-grows, M-has}
use Rattle.wfsx.proofs.Trees.{open_heads, fewer, tree_unfolds, holds_at, first_way}

module _ (P : Program) where
  -- a literal that is not pruned and whose children hold, holds
  grown : (L G : Set) (A : ℕ) → A ∉ L ∪ G → A ∈ supported P (child (tree P) T (add A L) G) → A ∈ tree P T L G
  grown L G A a h = rw (tree_unfolds P T L G) (and_intro (not (L A || G A)) _ (not_intro a) h)

  -- ---- soundness

  -- the steps of N
  abbrev N-at : ℕ → Set
  N-at j = iterate (derived (seminormal P) (M P)) ∅ j

  TU-finds : (G : Set) → tree P T ∅ G ⊆ M P → (j : ℕ) (L : Set) → Apart (N-at j) L → N-at j ⊆ tree P TU L G
  TU-finds G sound zero L apart A h = absurd (clash h refl)
  TU-finds G sound (suc j) L apart A h = go (TU-finds G sound j) (decided (N-at j A))
    where
      earlier : Apart (N-at j) L
      earlier B b = apart B (derived_grows (seminormal P) (M P) j B b)

      go : ((L : Set) → Apart (N-at j) L → N-at j ⊆ tree P TU L G) → (A ∈ N-at j) ⊎ (A ∉ N-at j) → A ∈ tree P TU L G
      go found (inl e) = found L earlier A e
      go found (inr e) =
          rw (tree_unfolds P TU L G) (and_intro (not (L A)) _ (not_intro (apart A h))
          (supported_map (holds (N-at j) (M P)) (child (tree P) TU (add A L) G) more (seminormal P) A h))
        where
          more : (x : Entry) → holds (N-at j) (M P) x ≡ true → child (tree P) TU (add A L) G x ≡ true
          more (positive B) b = found (add A L) (apart_add A e earlier) B b
          more (default C) c = not_mono (M P C) (sound C) c

  TU-finds_N : (G : Set) → tree P T ∅ G ⊆ M P → N P ⊆ tree P TU ∅ G
  unfolding N Γs Γ
  TU-finds_N G sound = TU-finds G sound (length (seminormal P)) ∅ (apart_∅ _)

  T-sound_to : (n : ℕ) (L G : Set) → open_heads P (L ∪ G) ≤ n → tree P T L G ⊆ M P
  T-sound_to zero L G l A h = let w = holds_at P T L G A h in absurd (omega (arith, fewer P L G A (w.0, w.1)))
  T-sound_to (suc n) L G l A h = go (T-sound_to n) (holds_at P T L G A h)
    where
      go : ((L G : Set) → open_heads P (L ∪ G) ≤ n → tree P T L G ⊆ M P) → (A ∉ L ∪ G) × (A is_in heads P) × (A ∈ supported P (child (tree P) T (add A L) G)) → A ∈ M P
      go sound w = M-has P A (supported_map (child (tree P) T (add A L) G) (holds (M P) (N P)) more P A w.2)
        where
          less : open_heads P (add A L ∪ G) ≤ n
          less = omega (arith, fewer P L G A (w.0, w.1))

          more : (x : Entry) → child (tree P) T (add A L) G x ≡ true → holds (M P) (N P) x ≡ true
          more (positive B) b = sound (add A L) G less B b
          more (default C) c =
              not_mono (tree P TU ∅ (add A L ∪ G) C) (TU-finds_N (add A L ∪ G) (sound ∅ (add A L ∪ G) less) C) (sym (first_way P (add A L) G C) ∙ c)

  pub T-sound : (L G : Set) → tree P T L G ⊆ M P
  T-sound L G = T-sound_to (open_heads P (L ∪ G)) L G (le_refl _)

  -- ---- completeness

  -- every literal of U has a T-tree below ancestors that are not in U
  abbrev Found : Set → Type 0
  Found U = (L G : Set) → Apart U (L ∪ G) → U ⊆ tree P T L G

  TU-derives_to : (S G : Set) → Found S → Apart S G → (n : ℕ) (L : Set) → open_heads P L ≤ n → tree P TU L G ⊆ Γs P S
  unfolding Γs
  TU-derives_to S G found apart zero L l A h =
      let w = holds_at P TU L G A h in absurd (omega (arith, outside_add L A w.0 w.1))
  TU-derives_to S G found apart (suc n) L l A h = go (TU-derives_to S G found apart n) (holds_at P TU L G A h)
    where
      go : ((L : Set) → open_heads P L ≤ n → tree P TU L G ⊆ Γs P S)
          → (A ∉ L) × (A is_in heads P) × (A ∈ supported (seminormal P) (child (tree P) TU (add A L) G)) → A ∈ Γs P S
      go derives w = rw (Γ-fixed (seminormal P) S) (supported_map (child (tree P) TU (add A L) G) (holds (Γs P S) S) more (seminormal P) A w.2)
        where
          more : (x : Entry) → child (tree P) TU (add A L) G x ≡ true → holds (Γs P S) S x ≡ true
          more (positive B) b = derives (add A L) (omega (arith, outside_add L A w.0 w.1)) B b
          more (default C) c = not_mono (tree P T ∅ G C) (found ∅ G apart C) c

  TU-derives : (S G : Set) → Found S → Apart S G → (L : Set) → tree P TU L G ⊆ Γs P S
  TU-derives S G found apart L = TU-derives_to S G found apart (open_heads P L) L (le_refl _)

  -- the steps of ΓΓs(S)
  abbrev ΓΓs-at : Set → ℕ → Set
  ΓΓs-at S j = iterate (derived P (Γs P S)) ∅ j

  T-finds : (S : Set) → Found S → (j : ℕ) (L G : Set) → Apart S (L ∪ G) → Apart (ΓΓs-at S j) (L ∪ G) → ΓΓs-at S j ⊆ tree P T L G
  T-finds S known zero L G old apart A h = absurd (clash h refl)
  T-finds S known (suc j) L G old apart A h = go (T-finds S known j) (decided (S A)) (decided (ΓΓs-at S j A))
    where
      earlier : Apart (ΓΓs-at S j) (L ∪ G)
      earlier B b = apart B (derived_grows P (Γs P S) j B b)

      go : ((L G : Set) → Apart S (L ∪ G) → Apart (ΓΓs-at S j) (L ∪ G) → ΓΓs-at S j ⊆ tree P T L G)
          → (A ∈ S) ⊎ (A ∉ S) → (A ∈ ΓΓs-at S j) ⊎ (A ∉ ΓΓs-at S j) → A ∈ tree P T L G
      go found (inl s) e = known L G old A s
      go found (inr s) (inl e) = found L G old earlier A e
      go found (inr s) (inr e) = grown L G A (apart A h) (supported_map (holds (ΓΓs-at S j) (Γs P S)) (child (tree P) T (add A L) G) more P A h)
        where
          new : {U : Set} → A ∉ U → Apart U (L ∪ G) → Apart U (add A L ∪ G)
          new {U} u a = subst (λ (S : Set). Apart U S) (sym (add_∪ A L G)) (apart_add A u a)

          more : (x : Entry) → holds (ΓΓs-at S j) (Γs P S) x ≡ true → child (tree P) T (add A L) G x ≡ true
          more (positive B) b = found (add A L) G (new s old) (new e earlier) B b
          more (default C) c = first_way P (add A L) G C ∙ not_mono (Γs P S C) (TU-derives S (add A L ∪ G) known (new s old) ∅ C) c

  T-finds_I : (k : ℕ) → Found (I P k)
  unfolding I Γ
  T-finds_I zero L G apart A h = absurd (clash h refl)
  T-finds_I (suc k) L G apart A h = T-finds (I P k) (T-finds_I k) (length P) L G (λ B b. apart B (I-grows P k B b)) apart A h

  T-finds_M : Found (M P)
  unfolding M
  T-finds_M = T-finds_I (length P)

  -- ---- agreement

  pub T-is_M : tree P T ∅ ∅ ≡ M P
  T-is_M = ⊆_antisym (T-sound ∅ ∅) (T-finds_M ∅ ∅ (apart_∅ (M P)))

  pub TU-is_N : tree P TU ∅ ∅ ≡ N P
  unfolding N
  TU-is_N = ⊆_antisym (TU-derives (M P) ∅ T-finds_M (apart_∅ (M P)) ∅) (TU-finds_N ∅ (T-sound ∅ ∅))

  -- the four answers of a search: for A by T in M and by TU in N, for `not A` by T outside N and by TU outside M
  pub agreement : (A : ℕ) → (answer P T (positive A) ≡ M P A) × (answer P TU (positive A) ≡ N P A)
      × (answer P T (default A) ≡ not (N P A)) × (answer P TU (default A) ≡ not (M P A))
  unfolding answer
  agreement A = (
    ap (λ (S : Set). S A) T-is_M,
    ap (λ (S : Set). S A) TU-is_N,
    first_way P ∅ ∅ A ∙ ap (λ (S : Set). not (S A)) TU-is_N,
    ap (λ (S : Set). not (S A)) T-is_M,
  )
