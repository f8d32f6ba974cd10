-- The names that reach a name with both literals in a set (document 02, A.7).
use Rattle.std.specs.Prelude.{◌↔◌, ℕ, ◌<◌}
use Rattle.wfsx.specs.Sets.{Set, ◌∈◌}
use Rattle.wfsx.specs.Program.{Program}
use Rattle.wfsx.specs.Reach.{name_of}
use Rattle.wfsx.specs.ContradictoryNames.{ReachesBoth}

-- R has both literals of each of the first n names that reach a name with both literals in S, and nothing else.
pub record ReachingBoth (P : Program) (n : ℕ) (S R : Set) : Type 0 where
  pub exactly : (A : ℕ) → (A ∈ R) ↔ ((name_of A < n) × ReachesBoth P S (name_of A))
