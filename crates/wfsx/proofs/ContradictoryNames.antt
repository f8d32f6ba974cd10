-- A name is contradictory exactly where the rules for the names it reaches have no partial stable model: M of these rules is M of the whole program on
-- the reached names, and has nothing outside them. Where it is not, they have a least one, and the verdict is the value in it.
use mathlib.Core.Path.{◌≡◌, refl, sym, ◌∙◌}
use mathlib.Core.Logic.{◌⊎◌, inl, inr, ◌↔◌}
use mathlib.Core.Bool.{Bool, true, ◌&&◌}
use mathlib.Core.List.Memᴰ
use mathlib.Core.List.{List, [], ◌∷◌}
use Prim.Native.Nat.{ℕ, ◌+◌, ◌*◌}
use native.Mathlib.Omega.{arith}
use Rattle.wfsx.specs.Sets.{Set, ◌∈◌, ◌∖◌, ◌is_in◌}
use Rattle.wfsx.specs.Program.{compl, Rule, Program, with_facts}
use Rattle.wfsx.specs.Model.{M, N, PartialStable, Heads⊆, Contradictory, Both, value_in, verdict}
use Rattle.wfsx.specs.Reach.{name_of, Reaches, itself, reach, reached_rules}
use Rattle.wfsx.specs.ContradictoryNames.{ReachesBoth, ContradictoryName, some_head, contradictory_names}
use Rattle.truth.proofs.Truth.{clash, same_test, and_l, and_r, and_intro, or_elim, or_l, or_r}
use Rattle.wfsx.proofs.Program.{compl_even}
use Rattle.wfsx.proofs.Supported.{heads}
use Rattle.wfsx.proofs.Operators.{M-head}
use Rattle.wfsx.proofs.Contradiction.{heads_in, both_literals, least_partial_stable, contradiction, verdict_value_lem}
use Rattle.wfsx.proofs.Reach.{reach_is, reach_itself, reach_facts}
use Rattle.wfsx.proofs.Relevance.{Has, for_elim, M-reached, verdict_reached, reach_unaltered, M-unaltered}

-- ---- the test

some_elim : (f : ℕ → Bool) (P : Program) → some_head f P ≡ true → (A : ℕ) × f A ≡ true
unfolding some_head
some_elim f [] h = absurd (clash h refl)
some_elim f (r ∷ P) h = go (or_elim (f r.head) (some_head f P) h) (some_elim f P)
  where
    go : (f r.head ≡ true) ⊎ (some_head f P ≡ true) → (some_head f P ≡ true → (A : ℕ) × f A ≡ true) → (A : ℕ) × f A ≡ true
    go (inl e) rest = (r.head, e)
    go (inr e) rest = rest e

some_intro : (f : ℕ → Bool) (P : Program) (A : ℕ) → A is_in heads P → f A ≡ true → some_head f P ≡ true
unfolding some_head
some_intro f [] A x'' h = elim x'' [ ]
some_intro f (r ∷ P) A (Memᴰ.head e) h = or_l (f r.head) _ (rw e at h)
some_intro f (r ∷ P) A (Memᴰ.tail m) h = or_r (f r.head) _ (some_intro f P A m h)

even_name : (k : ℕ) → name_of (2 * k) ≡ k
even_name k = omega arith

odd_name : (k : ℕ) → name_of (2 * k + 1) ≡ k
odd_name k = omega arith

module _ (P : Program) (n : ℕ) where
  test : ℕ → Bool
  test A = reach P n (name_of A) && (M P A && M P (compl A))

  pub contradictory_is : (n ∈ contradictory_names P) ↔ ContradictoryName P n
  unfolding contradictory_names test
  contradictory_is = (λ h. let w = some_elim test P h in to w.0 w.1, from)
    where
      to : (A : ℕ) → test A ≡ true → ContradictoryName P n
      to A h =
          let pair = and_r (reach P n (name_of A)) _ h in
          (name_of A, (reach_is P n (name_of A)).0 (and_l (reach P n (name_of A)) _ h), both_literals (M P) A (and_l (M P A) _ pair) (and_r (M P A) _ pair))

      from : ContradictoryName P n → some_head test P ≡ true
      from (k, w, (x, y)) =
          some_intro test P (2 * k) (M-head P (2 * k) x)
          (and_intro (reach P n (name_of (2 * k))) _ (rw (even_name k) ((reach_is P n k).1 w)) (and_intro (M P (2 * k)) _ x (rw (compl_even k) y)))

  -- ---- the rules for the reached names

  -- both literals of a name are in M of these rules exactly where n reaches the name and both are in M
  both_reached : (k : ℕ) → Both (M (reached_rules P n)) k ↔ (Reaches P n k × Both (M P) k)
  both_reached k = (there, λ w. from w.0 w.1)
    where
      there : Both (M (reached_rules P n)) k → Reaches P n k × Both (M P) k
      there (x, y) =
          let inside = heads_in (reached_rules P n) (λ A. reach P n (name_of A)) (λ r m. (for_elim (reach P n) P r m).1) (2 * k) (M-head (reached_rules P n) (2 * k) x) in
          let w : k ∈ reach P n = rw (even_name k) at inside in
          ((reach_is P n k).0 w, (M-reached P n (2 * k) (rw (even_name k) w) ∙ x, M-reached P n (2 * k + 1) (rw (odd_name k) w) ∙ y))

      from : Reaches P n k → Both (M P) k → Both (M (reached_rules P n)) k
      from q (x, y) =
          let w = (reach_is P n k).1 q in
          (sym (M-reached P n (2 * k) (rw (even_name k) w)) ∙ x, sym (M-reached P n (2 * k + 1) (rw (odd_name k) w)) ∙ y)

  module _ (base : Set) (over : Heads⊆ P base) where
    pub reached_over : Heads⊆ (reached_rules P n) base
    reached_over r m = over r (for_elim (reach P n) P r m).0

    -- they have no partial stable model exactly where n is contradictory
    pub reached_contradiction : Contradictory (reached_rules P n) base ↔ ContradictoryName P n
    reached_contradiction = (
      λ none. let w = (contradiction (reached_rules P n) base reached_over).0 none in let b = (both_reached w.0).0 w.1 in (w.0, b.0, b.1),
      λ w. (contradiction (reached_rules P n) base reached_over).1 (w.0, (both_reached w.0).1 (w.1, w.2)),
    )

    -- otherwise they have a least one, in which the verdict is the value
    pub reached_stable : (ContradictoryName P n → ⊥) → PartialStable (reached_rules P n) base (M (reached_rules P n)) (base ∖ N (reached_rules P n))
    reached_stable never = least_partial_stable (reached_rules P n) base reached_over (λ k b. let w = (both_reached k).0 b in never (k, w.0, w.1))

    pub reached_value : (A : ℕ) → name_of A ≡ n → A ∈ base → verdict P A ≡ value_in (M (reached_rules P n)) (base ∖ N (reached_rules P n)) A
    reached_value A e i = verdict_reached P n A (rw e (reach_itself P n)) ∙ verdict_value_lem (reached_rules P n) base A i

-- facts alter no reach, so they matter by the set alone
pub both_facts : (rules : List Rule) (l : List ℕ) (S : Set) (n : ℕ) → ReachesBoth rules S n ↔ ReachesBoth (with_facts rules l) S n
both_facts rules l S n = (
  λ w. (w.0, (reach_is (with_facts rules l) n w.0).0 (rw (reach_facts rules l n) ((reach_is rules n w.0).1 w.1)), w.2),
  λ w. (w.0, (reach_is rules n w.0).0 (rw (reach_facts rules l n) at ((reach_is (with_facts rules l) n w.0).1 w.1)), w.2),
)

-- a program is contradictory exactly where some name is
pub some_contradictory : (P : Program) (base : Set) → Heads⊆ P base → Contradictory P base ↔ ((n : ℕ) × ContradictoryName P n)
some_contradictory P base over = (
  λ none. let w = (contradiction P base over).0 none in (w.0, (w.0, itself, w.1)),
  λ w. (contradiction P base over).1 (w.1.0, w.1.2),
)

-- ---- rules for names not reached

module _ (P Q : Program) (n : ℕ) (f : Has (reach P n) Q P) (g : Has (reach P n) P Q) where
  same_both : (k : ℕ) → k ∈ reach P n → Both (M P) k ↔ Both (M Q) k
  same_both k w =
      let x = M-unaltered P Q n f g (2 * k) (rw (even_name k) w) in
      let y = M-unaltered P Q n f g (2 * k + 1) (rw (odd_name k) w) in
      (λ b. (sym x ∙ b.0, sym y ∙ b.1), λ b. (x ∙ b.0, y ∙ b.1))

  -- they alter nothing: a program with the same rules for the names that n reaches has n contradictory or not, alike
  pub contradictory_unaltered : contradictory_names P n ≡ contradictory_names Q n
  contradictory_unaltered = same_test (λ h. (contradictory_is Q n).1 (there ((contradictory_is P n).0 h))) (λ h. (contradictory_is P n).1 (back ((contradictory_is Q n).0 h)))
    where
      there : ContradictoryName P n → ContradictoryName Q n
      there (k, w, b) =
          let i = (reach_is P n k).1 w in
          (k, (reach_is Q n k).0 (rw (reach_unaltered P Q n f g) at i), (same_both k i).0 b)

      back : ContradictoryName Q n → ContradictoryName P n
      back (k, w, b) =
          let i : k ∈ reach P n = rw (reach_unaltered P Q n f g) ((reach_is Q n k).1 w) in
          (k, (reach_is P n k).0 i, (same_both k i).1 b)
