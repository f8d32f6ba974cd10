-- An answer set is a partial stable model that leaves no literal undefined: none of its literals has its complement in it, so Γs makes of it what Γ
-- makes. Hence it lies between M and N, and its program is not contradictory (003, theorem 2.2).
use mathlib.Core.Path.{◌≡◌, refl, sym, ◌∙◌, ap}
use mathlib.Core.Logic.{⊎_elim}
use mathlib.Core.Bool.{Bool, true, false, cond}
use Prim.Native.Nat.{ℕ}
use Rattle.wfsx.specs.Sets.{Set, ◌∈◌, ◌⊆◌, ◌∖◌}
use Rattle.wfsx.specs.Program.{Program}
use Rattle.wfsx.specs.Model.{Γ, Γs, M, N, PartialStable, Heads⊆, Contradictory, Both, is_true, is_false, is-undefined, verdict}
use Rattle.wfsx.specs.AnswerSets.{AnswerSet, Accords}
use Rattle.truth.proofs.Truth.{decided, contra}
use Rattle.wfsx.proofs.Sets.{⊆_antisym}
use Rattle.wfsx.proofs.Operators.{derived_map, Γ-ind, Γs-antitone, Γs-has, Γs⊆Γ, M-least, M-from_N, N-is, verdict_is_lem}
use Rattle.wfsx.proofs.Contradiction.{one_literal, M⊆N, stable_with}

module _ (P : Program) (S : Set) (a : AnswerSet P S) where
  answer_set_Γs : S ≡ Γs P S
  answer_set_Γs = ⊆_antisym (λ A h. inside A (rw a.fixpoint at h)) (λ A h. rw a.fixpoint (Γs⊆Γ P S A h))
    where
      inside : Γ P S ⊆ Γs P S
      inside = Γ-ind P S (λ A. A ∈ Γs P S) (λ D d A m h. Γs-has P S A (one_literal S a.consistent A (rw a.fixpoint m)) (derived_map P d (λ C c. c) A h))

  pub M⊆answer_set : M P ⊆ S
  M⊆answer_set = M-least P S (λ A h. rw a.fixpoint (rw answer_set_Γs h))

  pub answer_set⊆N : S ⊆ N P
  answer_set⊆N A h = rw (N-is P) (Γs-antitone P M⊆answer_set A (rw answer_set_Γs at h))

  module _ (base : Set) (over : Heads⊆ P base) where
    pub answer_set_stable : PartialStable P base S (base ∖ S)
    answer_set_stable = stable_with P base over S S a.fixpoint answer_set_Γs (λ A h. h)

    -- by the published definition
    pub answer_set_consistent : Contradictory P base → ⊥
    answer_set_consistent none = none S (base ∖ S) answer_set_stable

-- what is true is in all answer sets, and what is false in none
pub verdict_accords : (P : Program) (A : ℕ) → Accords P A (verdict P A)
verdict_accords P A = rw (verdict_is_lem P A) (go (M P A) (N P A) refl refl)
  where
    go : (m n : Bool) → M P A ≡ m → N P A ≡ n → Accords P A (cond m is_true (cond n is-undefined is_false))
    go true n m _ = λ S a. M⊆answer_set P S a A m
    go false true _ n = tt
    go false false _ n = λ S a. contra (answer_set⊆N P S a A) n

-- where M has both literals of no name and no verdict is undefined, M is the only answer set
pub only_answer_set : (P : Program) → ((n : ℕ) → Both (M P) n → ⊥) → ((A : ℕ) → verdict P A ≡ is-undefined → ⊥)
    → AnswerSet P (M P) × ((S : Set) → AnswerSet P S → S ≡ M P)
only_answer_set P none settled = (
  record { fixpoint = M-from_N P ∙ ap (Γ P) (sym same); consistent = none },
  λ S a. ⊆_antisym (λ A h. rw same (answer_set⊆N P S a A h)) (M⊆answer_set P S a),
)
  where
    N⊆M : N P ⊆ M P
    N⊆M A h = ⊎_elim (λ m. m) (λ o. absurd (settled A (verdict_is_lem P A ∙ rw o (rw h refl)))) (decided (M P A))

    same : M P ≡ N P
    same = ⊆_antisym (M⊆N P (one_literal (M P) none)) N⊆M
