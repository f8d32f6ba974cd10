-- A program has no partial stable model exactly where M holds both literals of a name. A partial stable model contains M, and none holds a literal
-- with its complement, since Γs blocks each by the other. Where M is consistent, M lies in N: by cases over the derivations, I(k) ⊆ N gives
-- M ⊆ Γs(I(k)), and that gives I(k + 1) ⊆ N. So M with the literals outside N is a partial stable model, and the least.
use mathlib.Core.Path.{◌≡◌, refl, ◌∙◌, ap}
use mathlib.Core.Logic.{◌⊎◌, inl, inr, ◌↔◌}
use mathlib.Core.Bool.{Bool, true, false, not, cond, ◌&&◌}
use mathlib.Core.List.Memᴰ
use mathlib.Core.List.{[], ◌∷◌}
use Prim.Native.Nat.{ℕ, zero, suc, ◌+◌, ◌*◌, ◌/◌}
use lib.ListN.{length}
use borrow.Author.Tests.{not-true, not-false}
use Rattle.wfsx.specs.Sets.{Set, ◌∈◌, ◌∉◌, ◌⊆◌, ◌∖◌, ◌is_in◌}
use Rattle.wfsx.specs.Program.{compl, Program}
use Rattle.wfsx.specs.Model.{Γ, Γs, I, M, N, PartialStable, Heads⊆, Contradictory, Both, is_true, is_false, is-undefined, value_in, verdict}
use Rattle.truth.proofs.Truth.{clash, contra, refuted, not_mono, and_l, and_r, and_intro}
use Rattle.wfsx.proofs.Sets.{first_missing}
use Rattle.wfsx.proofs.Program.{compl_even, compl_odd, of_name}
use Rattle.wfsx.proofs.Supported.{heads}
use Rattle.wfsx.proofs.Operators.{derived_map, Γ-ind, Γ-head, Γs-antitone, Γs-blocks, Γs-has, M-fixpoint, M-from_N, M-least, I⊆M, N-is, M-head}

pub heads_in : (P : Program) (base : Set) → Heads⊆ P base → (A : ℕ) → A is_in heads P → A ∈ base
heads_in [] base h A m = elim m [ ]
heads_in (r ∷ P) base h A (Memᴰ.head e) = rw e (h r (Memᴰ.head refl))
heads_in (r ∷ P) base h A (Memᴰ.tail m) = heads_in P base (λ q i. h q (Memᴰ.tail i)) A m

-- ---- both literals of a name

pub both_literals : (S : Set) (A : ℕ) → A ∈ S → compl A ∈ S → Both S (A / 2)
both_literals S A a c = go (of_name A)
  where
    go : (A ≡ 2 * (A / 2)) ⊎ (A ≡ 2 * (A / 2) + 1) → Both S (A / 2)
    go (inl e) = (rw e at a, rw (ap compl e ∙ compl_even (A / 2)) at c)
    go (inr e) = (rw (ap compl e ∙ compl_odd (A / 2)) at c, rw e at a)

-- a set that has both literals of no name has no literal with its complement
pub one_literal : (S : Set) → ((n : ℕ) → Both S n → ⊥) → (A : ℕ) → A ∈ S → compl A ∉ S
one_literal S none A a = refuted (λ c. none (A / 2) (both_literals S A a c))

module _ (P : Program) where
  -- ---- where M is consistent it lies in N

  -- ΓΓs(S) lies in Γs(U), where U lies in Γs(S) and no literal of ΓΓs(S) has its complement in U
  cross : (S U : Set) → U ⊆ Γs P S → ((A : ℕ) → A ∈ Γ P (Γs P S) → compl A ∉ U) → Γ P (Γs P S) ⊆ Γs P U
  cross S U f c = Γ-ind P (Γs P S) (λ A. A ∈ Γs P U) (λ D d A a h. Γs-has P U A (c A a) (derived_map P d f A h))

  module _ (consistent : (A : ℕ) → A ∈ M P → compl A ∉ M P) where
    next : (k : ℕ) → I P k ⊆ Γs P (M P) → Γ P (Γs P (I P k)) ⊆ Γs P (M P)
    unfolding I
    next k f =
        cross (I P k) (M P) (λ A a. cross (M P) (I P k) f (λ B b. contra (I⊆M P k (compl B)) (consistent B (rw (M-fixpoint P) b))) A (rw (M-fixpoint P) at a))
        (λ B b. consistent B (I⊆M P (suc k) B b))

    I⊆N : (k : ℕ) → I P k ⊆ Γs P (M P)
    unfolding I
    I⊆N zero A h = absurd (clash h refl)
    I⊆N (suc k) A h = next k (I⊆N k) A h

    pub M⊆N : M P ⊆ N P
    unfolding M N
    M⊆N = I⊆N (length P)

  -- M has a literal with its complement, or none
  consistent_or : ((A : ℕ) → A ∈ M P → compl A ∉ M P) ⊎ ((n : ℕ) × Both (M P) n)
  consistent_or = go (first_missing (λ A. not (M P (compl A))) (M P) (heads P))
    where
      go : ((A : ℕ) → A is_in heads P → A ∈ M P → not (M P (compl A)) ≡ true) ⊎ ((A : ℕ) × A is_in heads P × A ∈ M P × not (M P (compl A)) ≡ false)
          → ((A : ℕ) → A ∈ M P → compl A ∉ M P) ⊎ ((n : ℕ) × Both (M P) n)
      go (inl f) = inl (λ A a. not-true (M P (compl A)) (f A (M-head P A a) a))
      go (inr w) = inr (w.0 / 2, both_literals (M P) w.0 w.2 (not-false (M P (compl w.0)) w.3))

  -- ---- partial stable models over a base

  module _ (base : Set) where
    -- every partial stable model has M in its true part and the literals outside N in its false part
    pub partial_stable_above : (T F : Set) → PartialStable P base T F → (M P ⊆ T) × (base ∖ N P ⊆ F)
    partial_stable_above T F p = (above, λ A h. rw p.false_part (and_intro _ _ (and_l (base A) _ h) (not_mono (N P A) (fewer A) (and_r (base A) _ h))))
      where
        above : M P ⊆ T
        above = M-least P T (λ A a. rw p.true_part a)

        fewer : Γs P T ⊆ N P
        fewer A a = rw (N-is P) (Γs-antitone P above A a)

    -- a partial stable model leaves no name with both literals in M
    no_both : (T F : Set) → PartialStable P base T F → (n : ℕ) → Both (M P) n → ⊥
    no_both T F p n b = clash (above (2 * n + 1) b.1) (rw (compl_even n) at (Γs-blocks P T (2 * n) within))
      where
        above : M P ⊆ T
        above = (partial_stable_above T F p).0

        -- a literal of the base that is not false is in Γs(T)
        not_outside : (A : ℕ) → A ∈ base → (base ∖ Γs P T) A ≡ false → A ∈ Γs P T
        not_outside A i o = not-false (Γs P T A) (contra (and_intro (base A) (not (Γs P T A)) i) o)

        within : 2 * n ∈ Γs P T
        within =
            let a : 2 * n ∈ T = above (2 * n) b.0 in
            not_outside (2 * n) (p.interpretation.true_in_base (2 * n) a) (rw p.false_part at (p.interpretation.disjoint (2 * n) a))

    module _ (over : Heads⊆ P base) where
      -- T is the true part of a partial stable model where T = Γ(U), U = Γs(T) and T lies in U
      pub stable_with : (T U : Set) → T ≡ Γ P U → U ≡ Γs P T → T ⊆ U → PartialStable P base T (base ∖ U)
      stable_with T U t u within =
          record {
            interpretation = record {
              true_in_base = λ A a. heads_in P base over A (Γ-head P U A (rw t at a));
              false_in_base = λ A a. and_l (base A) _ a;
              disjoint = λ A a. refuted (λ h. clash (within A a) (not-true (U A) (and_r (base A) _ h)));
            };
            true_part = t ∙ ap (Γ P) u;
            false_part = ap (λ (S : Set). base ∖ S) u;
          }

      stable : ((A : ℕ) → A ∈ M P → compl A ∉ M P) → PartialStable P base (M P) (base ∖ N P)
      stable c = stable_with (M P) (N P) (M-from_N P) (N-is P) (M⊆N c)

      -- the least partial stable model, where no name has both literals in M
      pub least_partial_stable : ((n : ℕ) → Both (M P) n → ⊥) → PartialStable P base (M P) (base ∖ N P)
      least_partial_stable none = stable (one_literal (M P) none)

      -- no partial stable model exists exactly where M holds both literals of some name
      pub contradiction : Contradictory P base ↔ ((n : ℕ) × Both (M P) n)
      contradiction = (λ none. some none consistent_or, λ w T F p. no_both T F p w.0 w.1)
        where
          some : Contradictory P base → ((A : ℕ) → A ∈ M P → compl A ∉ M P) ⊎ ((n : ℕ) × Both (M P) n) → (n : ℕ) × Both (M P) n
          some none (inl c) = absurd (none (M P) (base ∖ N P) (stable c))
          some none (inr w) = w

    -- the verdict is the value in that model
    pub verdict_value_lem : (A : ℕ) → A ∈ base → verdict P A ≡ value_in (M P) (base ∖ N P) A
    unfolding verdict
    verdict_value_lem A i = ap (cond (M P A) is_true) (go (N P A) (base A) i)
      where
        go : (n b : Bool) → b ≡ true → cond n is-undefined is_false ≡ cond (b && not n) is_false is-undefined
        go true b e = rw e refl
        go false b e = rw e refl
