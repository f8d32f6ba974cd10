-- The names whose verdicts are refused by 24 (document 02, A.7).
use Rattle.std.specs.Prelude.{Bool, false, ◌&&◌, ◌||◌, [], ◌∷◌, ℕ}
use Rattle.wfsx.specs.Sets.{Set}
use Rattle.wfsx.specs.Program.{compl, Program}
use Rattle.wfsx.specs.Model.{M, Both}
use Rattle.wfsx.specs.Reach.{name_of, Reaches, reach}

-- The name n, or a name it reaches, has both literals in S.
abbrev pub ReachesBoth : Program → Set → ℕ → Type 0
ReachesBoth P S n = (k : ℕ) × Reaches P n k × Both S k

-- A name is contradictory where it, or a name it reaches, has both literals in M.
abbrev pub ContradictoryName : Program → ℕ → Type 0
ContradictoryName P n = ReachesBoth P (M P) n

-- ---- the same, worked out

-- some head of P passes the test
unfoldable pub some_head : (ℕ → Bool) → Program → Bool
some_head f [] = false
some_head f (r ∷ P) = f r.head || some_head f P

-- The contradictory names of P: M holds heads alone, so it is enough to look at the names of heads.
unfoldable pub contradictory_names : Program → Set
contradictory_names P n = some_head (λ A. reach P n (name_of A) && (M P A && M P (compl A))) P
