-- How many literals below the capacity are outside a set: a set that grows leaves fewer.
use mathlib.Core.Path.{◌≡◌, refl}
use mathlib.Core.Logic.{◌⊎◌, inl, inr}
use mathlib.Core.Bool.{true}
use mathlib.Core.List.{List}
use Prim.Native.Nat.{ℕ, ◌≤◌, ◌<◌}
use native.Mathlib.Nat.{le_trans}
use Rattle.wfsx.specs.Sets.{Set, ◌∈◌, ◌∉◌, ◌⊆◌, ◌is_in◌, members}
use Rattle.wfsx.proofs.Sets.{⊆_antisym, outside, outside_most, outside_falls, first_missing}
use Rattle.wfsx.proofs.Members.{members_are, length_most}
use Rattle.litset.specs.Words.{capacity}

-- every literal that a set has room for
unfoldable pub literals : List ℕ
literals = members capacity (λ A. true)

abbrev pub free : Set → ℕ
free S = outside S literals

pub free_most : (S : Set) → free S ≤ capacity
unfolding literals
free_most S = le_trans (outside_most S literals) (length_most (λ A. true) 0 capacity)

pub free_falls : (X Y : Set) → X ⊆ Y → ((A : ℕ) → A ∈ Y → A < capacity) → (X ≡ Y → ⊥) → free Y < free X
unfolding literals
free_falls X Y f below ne = go (first_missing X Y literals)
  where
    go : ((A : ℕ) → A is_in literals → A ∈ Y → A ∈ X) ⊎ ((A : ℕ) × A is_in literals × A ∈ Y × A ∉ X) → free Y < free X
    go (inl g) = absurd (ne (⊆_antisym f (λ A a. g A ((members_are capacity (λ _. true) A).1 (refl, below A a)) a)))
    go (inr w) = outside_falls X Y f w.0 w.3 w.2 w.1
