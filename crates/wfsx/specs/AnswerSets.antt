-- Answer sets (document 02, A.14; 003, theorem 2.2), and what a verdict is to say of them.
use Rattle.std.specs.Prelude.{◌≡◌, ℕ}
use Rattle.wfsx.specs.Sets.{Set, ◌∈◌, ◌∉◌}
use Rattle.wfsx.specs.Program.{Program}
use Rattle.wfsx.specs.Model.{Γ, Both, Verdict, is_true, is_false, is-undefined}

-- S is an answer set of P: S = Γ(S), and no name has both its literals in S.
pub record AnswerSet (P : Program) (S : Set) : Type 0 where
  pub fixpoint : S ≡ Γ P S
  pub consistent : (n : ℕ) → Both S n → ⊥

-- What is true is in all answer sets of P, and what is false in none. Of what is undefined nothing is said.
abbrev pub Accords : Program → ℕ → Verdict → Type 0
Accords P A is_true = (S : Set) → AnswerSet P S → A ∈ S
Accords P A is_false = (S : Set) → AnswerSet P S → A ∉ S
Accords P A is-undefined = Unit
