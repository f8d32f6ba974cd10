-- Γ and Γs are the least closed sets of the reducts and antitone; so ΓΓs is monotone, the I(k) grow to M, and M is the least fixpoint of ΓΓs.
use mathlib.Core.Path.{◌≡◌, refl, sym, ◌∙◌, ap}
use mathlib.Core.Bool.{true, not, cond, ◌&&◌}
use Prim.Native.Nat.{ℕ, suc}
use lib.ListN.{length}
use borrow.Author.Tests.{not-true}
use Rattle.wfsx.specs.Sets.{Set, ◌∈◌, ◌∉◌, ◌⊆◌, ∅, ◌is_in◌, iterate}
use Rattle.wfsx.specs.Program.{compl, Program, seminormal}
use Rattle.wfsx.specs.Model.{LeastClosed, holds, supported, headed, Γ, Γs, I, M, N, is_true, is_false, is-undefined, verdict}
use Rattle.truth.proofs.Truth.{not_intro, and_l, and_r, and_intro}
use Rattle.wfsx.proofs.Chain.{chain_ind, chain_grows, chain_inside, chain_stops}
use Rattle.wfsx.proofs.Supported.{supported_map, holds_map, heads, supported_head, heads_most, supported_seminormal, closed_from, closed_to}

-- ---- Γ

module _ (P : Program) where
  -- what D gives in one step, in the reduct by S
  abbrev pub derived : Set → Set → Set
  derived S D = supported P (holds D S)

  pub derived_map : {D E S U : Set} → D ⊆ E → U ⊆ S → derived S D ⊆ derived U E
  derived_map {D} {E} {S} {U} d s = supported_map (holds D S) (holds E U) (holds_map d s) P

  pub derived_grows : (S : Set) (n : ℕ) → iterate (derived S) ∅ n ⊆ iterate (derived S) ∅ (suc n)
  derived_grows S = chain_grows (derived S) (λ D E d. derived_map d (λ A a. a))

  module _ (S : Set) where
    pub Γ-fixed : Γ P S ≡ derived S (Γ P S)
    unfolding Γ
    Γ-fixed = chain_stops (derived S) (λ D E d. derived_map d (λ A a. a)) (heads P) (λ n. supported_head P (holds (iterate (derived S) ∅ n) S)) (length P) (heads_most P)

    -- induction over Γ(S): a literal is derived from a part D of Γ(S) of which the statement is known
    pub Γ-ind : (Q : ℕ → Type 0) → ((D : Set) → ((B : ℕ) → B ∈ D → Q B) → (A : ℕ) → A ∈ Γ P S → A ∈ derived S D → Q A) → (A : ℕ) → A ∈ Γ P S → Q A
    unfolding Γ
    Γ-ind Q step A h = (both A h).1
      where
        both : (A : ℕ) → A ∈ Γ P S → (A ∈ Γ P S) × Q A
        both = chain_ind (derived S) (λ A. (A ∈ Γ P S) × Q A) (λ D d A a.
            let m : A ∈ Γ P S = rw Γ-fixed (derived_map (λ B b. (d B b).0) (λ C c. c) A a) in (m, step D (λ B b. (d B b).1) A m a)) (length P)

    pub Γ-inside : (U : Set) → derived S U ⊆ U → Γ P S ⊆ U
    Γ-inside U c = Γ-ind (λ A. A ∈ U) (λ D d A _ h. c A (derived_map d (λ C s. s) A h))

    -- Γ(S) is closed under the rules that S keeps, and inside every set that is
    pub Γ-least : LeastClosed P S (Γ P S)
    Γ-least =
        record {
          closed = closed_from P S (Γ P S) (λ A a. rw Γ-fixed a);
          least = λ U c. Γ-inside U (closed_to P S U c);
        }

  pub Γ-antitone : {S U : Set} → S ⊆ U → Γ P U ⊆ Γ P S
  Γ-antitone {S} {U} f = Γ-inside U (Γ P S) (λ A h. rw (Γ-fixed S) (derived_map (λ B b. b) f A h))

  pub Γ-head : (S : Set) (A : ℕ) → A ∈ Γ P S → A is_in heads P
  Γ-head S A h = supported_head P (holds (Γ P S) S) A (rw (Γ-fixed S) at h)

-- ---- Γs

module _ (P : Program) where
  pub Γs-is : (S : Set) → Γs P S ≡ Γ (seminormal P) S
  unfolding Γs
  Γs-is S = refl

  -- Γs(S) is closed under the rules of the seminormal version that S keeps, and inside every set that is
  pub Γs-least : (S : Set) → LeastClosed (seminormal P) S (Γs P S)
  unfolding Γs
  Γs-least S = Γ-least (seminormal P) S

  pub Γs-antitone : {S U : Set} → S ⊆ U → Γs P U ⊆ Γs P S
  unfolding Γs
  Γs-antitone f = Γ-antitone (seminormal P) f

  -- a step of Γs is a step of Γ that passes over the literals whose complement is in S
  pub derived_seminormal : (S D : Set) (A : ℕ) → derived (seminormal P) S D A ≡ (not (S (compl A)) && derived P S D A)
  derived_seminormal S D A = supported_seminormal P (holds D S) A

  pub Γs-fixed : (S : Set) (A : ℕ) → Γs P S A ≡ (not (S (compl A)) && derived P S (Γs P S) A)
  unfolding Γs
  Γs-fixed S A = ap (λ (U : Set). U A) (Γ-fixed (seminormal P) S) ∙ derived_seminormal S (Γ (seminormal P) S) A

  pub Γs-blocks : (S : Set) (A : ℕ) → A ∈ Γs P S → compl A ∉ S
  Γs-blocks S A h = not-true (S (compl A)) (and_l (not (S (compl A))) (derived P S (Γs P S) A) (sym (Γs-fixed S A) ∙ h))

  pub Γs-has : (S : Set) (A : ℕ) → compl A ∉ S → A ∈ derived P S (Γs P S) → A ∈ Γs P S
  Γs-has S A c h = Γs-fixed S A ∙ and_intro (not (S (compl A))) (derived P S (Γs P S) A) (not_intro c) h

  pub Γs⊆Γ : (S : Set) → Γs P S ⊆ Γ P S
  unfolding Γs
  Γs⊆Γ S = Γ-inside (seminormal P) S (Γ P S) (λ A h.
      rw (Γ-fixed P S) (and_r (not (S (compl A))) (derived P S (Γ P S) A) (sym (derived_seminormal S (Γ P S) A) ∙ h)))

  -- ---- I(k), M and N

  abbrev pub ΓΓs : Set → Set
  ΓΓs S = Γ P (Γs P S)

  pub ΓΓs-monotone : (S U : Set) → S ⊆ U → ΓΓs S ⊆ ΓΓs U
  ΓΓs-monotone S U f = Γ-antitone P (Γs-antitone f)

  pub I-next : (k : ℕ) → I P (suc k) ≡ Γ P (Γs P (I P k))
  unfolding I
  I-next k = refl

  pub I-grows : (k : ℕ) → I P k ⊆ I P (suc k)
  unfolding I
  I-grows = chain_grows ΓΓs ΓΓs-monotone

  pub M-fixpoint : M P ≡ Γ P (Γs P (M P))
  unfolding M I
  M-fixpoint = chain_stops ΓΓs ΓΓs-monotone (heads P) (λ n. Γ-head P (Γs P (I P n))) (length P) (heads_most P)

  -- M lies in every set that ΓΓs maps into itself, so in every fixpoint
  pub M-least : (U : Set) → Γ P (Γs P U) ⊆ U → M P ⊆ U
  unfolding M I
  M-least U c = chain_inside ΓΓs ΓΓs-monotone U c (length P)

  pub I⊆M : (k : ℕ) → I P k ⊆ M P
  unfolding I
  I⊆M = chain_inside ΓΓs ΓΓs-monotone (M P) (λ A a. rw M-fixpoint a)

  pub N-is : N P ≡ Γs P (M P)
  unfolding N
  N-is = refl

  pub verdict_is_lem : (A : ℕ) → verdict P A ≡ cond (M P A) is_true (cond (N P A) is-undefined is_false)
  unfolding verdict
  verdict_is_lem A = refl

  pub M-from_N : M P ≡ Γ P (N P)
  unfolding N
  M-from_N = M-fixpoint

  pub M-has : derived P (N P) (M P) ⊆ M P
  M-has A h = rw M-from_N (rw (Γ-fixed P (N P)) (rw (← M-from_N) h))

  pub M-head : (A : ℕ) → A ∈ M P → A is_in heads P
  M-head A h = Γ-head P (N P) A (rw M-from_N at h)

  pub N-head : (A : ℕ) → A ∈ N P → A is_in heads P
  unfolding N
  N-head A h = Γ-head P (M P) A (Γs⊆Γ (M P) A h)

  pub M-headed : M P ⊆ headed P
  M-headed A h = supported_map (holds (Γ P (N P)) (N P)) (λ _. true) (λ e _. refl) P A (rw (Γ-fixed P (N P)) at (rw M-from_N at h))
