-- How many rounds a model takes (document 02, A.10).
use Rattle.std.specs.Prelude.{◌≡◌, Bool, true, not, cond, ◌&&◌, ◌||◌, [], ◌∷◌, ℕ, zero, suc, ◌≤◌, length}
use Rattle.wfsx.specs.Sets.{Set}
use Rattle.wfsx.specs.Program.{Program}
use Rattle.wfsx.specs.Model.{I}

-- I stands still at k: the round from I(k) to I(k + 1) adds nothing.
abbrev pub Still : Program → ℕ → Type 0
Still P k = I P k ≡ I P (suc k)

-- k is the least number with I(k) = I(k + 1).
pub record LeastStill (P : Program) (k : ℕ) : Type 0 where
  pub still : Still P k
  pub least : (j : ℕ) → Still P j → k ≤ j

-- ---- the number, worked out: I(0), I(1), .. are gone through, which stand still after at most as many rounds as there are rules

-- every head of P that is in U is in S
unfoldable pub has_heads : Program → Set → Set → Bool
has_heads [] S U = true
has_heads (r ∷ P) S U = (S r.head || not (U r.head)) && has_heads P S U

-- the first of the n numbers from k on at which I stands still, or the one behind them
unfoldable pub first_still : Program → ℕ → ℕ → ℕ
first_still P k zero = k
first_still P k (suc n) = cond (has_heads P (I P k) (I P (suc k))) k (first_still P (suc k) n)

unfoldable pub rounds : Program → ℕ
rounds P = first_still P 0 (length P)
