-- Laws of the complement.
use mathlib.Core.Path.{◌≡◌, ◌∙◌}
use mathlib.Core.Logic.{◌⊎◌, inl, inr}
use mathlib.Core.Bool.{true, false}
use Prim.Native.Nat.{ℕ, ◌+◌, ◌-◌, ◌*◌, ◌/◌, ◌%◌}
use native.Mathlib.Omega.{arith}
use lib.Dec.{eqb}
use borrow.Author.Tests.{eqb-true, eqb-false, eq-eqb, ne_eqb}
use Rattle.wfsx.specs.Program.{compl}
use Rattle.truth.proofs.Truth.{decided}

-- the literal of a name, and its explicit negation
pub compl_plain : (A : ℕ) → A % 2 ≡ 0 → compl A ≡ A + 1
unfolding compl
compl_plain A e = rw (eq-eqb (A % 2) 0 e)

pub compl_negated : (A : ℕ) → (A % 2 ≡ 0 → ⊥) → compl A ≡ A - 1
unfolding compl
compl_negated A n = rw (ne_eqb (A % 2) 0 n)

pub compl_even : (n : ℕ) → compl (2 * n) ≡ 2 * n + 1
compl_even n = compl_plain (2 * n) (omega arith)

pub compl_odd : (n : ℕ) → compl (2 * n + 1) ≡ 2 * n
compl_odd n = compl_negated (2 * n + 1) (λ e. omega arith) ∙ omega arith

-- a literal is one of the two of its name
pub of_name : (A : ℕ) → (A ≡ 2 * (A / 2)) ⊎ (A ≡ 2 * (A / 2) + 1)
of_name A = go (decided (eqb (A % 2) 0))
  where
    go : (eqb (A % 2) 0 ≡ true) ⊎ (eqb (A % 2) 0 ≡ false) → (A ≡ 2 * (A / 2)) ⊎ (A ≡ 2 * (A / 2) + 1)
    go (inl e) = inl (omega (arith, eqb-true (A % 2) 0 e))
    go (inr e) = let ne : A % 2 ≡ 0 → ⊥ = eqb-false (A % 2) 0 e in inr (omega arith)
