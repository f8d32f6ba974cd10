-- The chain ∅, f ∅, f (f ∅), .. of a monotone f. It grows, and lies in every set that f maps into itself. Where all its sets lie in a list H, it
-- stands still after as many steps as H has entries: each step before that takes an entry of H in.
use mathlib.Core.Path.{◌≡◌, refl}
use mathlib.Core.Logic.{◌⊎◌, inl, inr}
use mathlib.Core.List.{List}
use Prim.Native.Nat.{ℕ, zero, suc, ◌+◌, ◌≤◌}
use native.Mathlib.Omega.{arith}
use lib.ListN.{length}
use Rattle.wfsx.specs.Sets.{Set, ◌∈◌, ◌∉◌, ◌⊆◌, ∅, ◌is_in◌, iterate}
use Rattle.truth.proofs.Truth.{clash}
use Rattle.wfsx.proofs.Sets.{⊆_antisym, outside, outside_most, outside_falls, first_missing}

-- what f keeps true of every set is true of the chain
pub chain_ind : (f : Set → Set) (Q : ℕ → Type 0) → ((D : Set) → ((A : ℕ) → A ∈ D → Q A) → (A : ℕ) → A ∈ f D → Q A)
    → (n : ℕ) (A : ℕ) → A ∈ iterate f ∅ n → Q A
chain_ind f Q s zero A h = absurd (clash h refl)
chain_ind f Q s (suc n) A h = s (iterate f ∅ n) (chain_ind f Q s n) A h

module _ (f : Set → Set) (mono : (S U : Set) → S ⊆ U → f S ⊆ f U) where
  pub chain_grows : (n : ℕ) → iterate f ∅ n ⊆ iterate f ∅ (suc n)
  chain_grows zero A h = absurd (clash h refl)
  chain_grows (suc n) A h = mono (iterate f ∅ n) (iterate f ∅ (suc n)) (chain_grows n) A h

  -- from whatever set in U it starts
  pub chain_within : (S U : Set) → S ⊆ U → f U ⊆ U → (n : ℕ) → iterate f S n ⊆ U
  chain_within S U s c zero A h = s A h
  chain_within S U s c (suc n) A h = c A (mono (iterate f S n) U (chain_within S U s c n) A h)

  pub chain_inside : (U : Set) → f U ⊆ U → (n : ℕ) → iterate f ∅ n ⊆ U
  chain_inside U = chain_within ∅ U (λ A h. absurd (clash h refl))

  module _ (H : List ℕ) (given : (n A : ℕ) → A ∈ iterate f ∅ (suc n) → A is_in H) where
    abbrev Still : ℕ → Type 0
    Still n = iterate f ∅ (suc n) ⊆ iterate f ∅ n

    -- n entries of H are in the n-th set
    abbrev Filled : ℕ → Type 0
    Filled n = outside (iterate f ∅ n) H + n ≤ length H

    fill : (n : ℕ) → Filled n → Still n ⊎ Filled (suc n)
    fill n l = go (first_missing (iterate f ∅ n) (iterate f ∅ (suc n)) H)
      where
        go : ((A : ℕ) → A is_in H → A ∈ iterate f ∅ (suc n) → A ∈ iterate f ∅ n) ⊎ ((A : ℕ) × A is_in H × A ∈ iterate f ∅ (suc n) × A ∉ iterate f ∅ n)
            → Still n ⊎ Filled (suc n)
        go (inl g) = inl (λ A a. g A (given n A a) a)
        go (inr w) = inr (omega (arith, outside_falls (iterate f ∅ n) (iterate f ∅ (suc n)) (chain_grows n) w.0 w.3 w.2 w.1))

    fills : (n : ℕ) → Still n ⊎ Filled (suc n)
    fills zero = fill zero (omega (arith, outside_most ∅ H))
    fills (suc n) = go (fills n)
      where
        go : Still n ⊎ Filled (suc n) → Still (suc n) ⊎ Filled (suc (suc n))
        go (inl g) = inl (mono (iterate f ∅ (suc n)) (iterate f ∅ n) g)
        go (inr l) = fill (suc n) l

    pub chain_stops : (n : ℕ) → length H ≤ n → iterate f ∅ n ≡ f (iterate f ∅ n)
    chain_stops n h = ⊆_antisym (chain_grows n) (go (fills n))
      where
        go : Still n ⊎ Filled (suc n) → Still n
        go (inl g) = g
        go (inr l) = absurd (omega arith)
