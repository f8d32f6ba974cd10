-- From rules to a model (document 01, "From rules to a model"; 001, definitions 1 and 2).
use Rattle.std.specs.Prelude.{◌≡◌, Bool, true, false, not, cond, ◌&&◌, ◌||◌, List, [], ◌∷◌, ℕ, ◌+◌, ◌*◌, length, eqb}
use Rattle.wfsx.specs.Sets.{Set, ◌∈◌, ◌∉◌, ◌⊆◌, ∅, ◌∖◌, ◌is_in◌, iterate, members}
use Rattle.wfsx.specs.Program.{Entry, positive, default, Rule, Program, seminormal}

-- ---- the reduct

-- S keeps a rule where no `not C` of its body has C in S (Gelfond and Lifschitz).
abbrev pub Kept : Set → Rule → Type 0
Kept S r = (C : ℕ) → default C is_in r.body → C ∉ S

-- U is closed under the rules of P that S keeps, their `not` entries dropped.
abbrev pub Closed : Program → Set → Set → Type 0
Closed P S U = (r : Rule) → r is_in P → Kept S r → ((B : ℕ) → positive B is_in r.body → B ∈ U) → r.head ∈ U

-- U is the least set that is closed so.
pub record LeastClosed (P : Program) (S U : Set) : Type 0 where
  pub closed : Closed P S U
  pub least : (W : Set) → Closed P S W → U ⊆ W

-- ---- the operators

-- An entry holds over D and S: B is in D, and C of `not C` is not in S.
abbrev pub holds : Set → Set → Entry → Bool
holds D S (positive B) = D B
holds D S (default C) = not (S C)

unfoldable pub every : (Entry → Bool) → List Entry → Bool
every f [] = true
every f (e ∷ es) = f e && every f es

-- The literals that have a rule in P all of whose entries pass the test f.
unfoldable pub supported : Program → (Entry → Bool) → Set
supported [] f A = false
supported (r ∷ P) f A = eqb r.head A && every f r.body || supported P f A

-- The literals that are heads of P.
abbrev pub headed : Program → Set
headed P = supported P (λ e. true)

-- How many literals below n are heads of P: the count of its distinct heads, where n is above them all.
unfoldable pub head_count : ℕ → Program → ℕ
head_count n P = length (members n (headed P))

-- Γ(S), the least set closed under the rules that S keeps: it is reached after as many steps as there are rules, since each step but the
-- last adds a head.
unfoldable pub Γ : Program → Set → Set
Γ P S = iterate (λ D. supported P (holds D S)) ∅ (length P)

-- Γs(S), the same over the seminormal version (001, definition 1).
unfoldable pub Γs : Program → Set → Set
Γs P S = Γ (seminormal P) S

-- ---- the model

-- I(0) is empty and I(k + 1) = Γ(Γs(I(k))).
unfoldable pub I : Program → ℕ → Set
I P k = iterate (λ S. Γ P (Γs P S)) ∅ k

-- M, the least fixpoint of ΓΓs: the I(k) stand still after as many rounds as there are rules (`Rounds.antt` has the least number).
unfoldable pub M : Program → Set
M P = I P (length P)

-- N, the literals that are not false.
unfoldable pub N : Program → Set
N P = Γs P (M P)

-- ---- partial stable models (001, section 2 and definition 2)

-- T and F are an interpretation over a base of objective literals: the literals of T are true, those of F false by default, and no literal
-- is both.
pub record Interpretation (base T F : Set) : Type 0 where
  pub true_in_base : T ⊆ base
  pub false_in_base : F ⊆ base
  pub disjoint : (A : ℕ) → A ∈ T → A ∉ F

pub record PartialStable (P : Program) (base T F : Set) : Type 0 where
  pub interpretation : Interpretation base T F
  pub true_part : T ≡ Γ P (Γs P T)
  pub false_part : F ≡ base ∖ Γs P T

-- The base holds at least the heads of P. (A book's names may give it more than the rules mention.)
abbrev pub Heads⊆ : Program → Set → Type 0
Heads⊆ P base = (r : Rule) → r is_in P → r.head ∈ base

-- A program is contradictory where it has no partial stable model.
abbrev pub Contradictory : Program → Set → Type 0
Contradictory P base = (T F : Set) → PartialStable P base T F → ⊥

-- Both literals of the name n are in S.
abbrev pub Both : Set → ℕ → Type 0
Both S n = (2 * n ∈ S) × (2 * n + 1 ∈ S)

-- ---- the verdict

pub data Verdict : Type 0 where
  is_true is_false is-undefined : Verdict

-- The value of a literal in an interpretation (001, section 2).
abbrev pub value_in : Set → Set → ℕ → Verdict
value_in T F A = cond (T A) is_true (cond (F A) is_false is-undefined)

-- True if in M, false if not in N, undefined if in N and not in M. `ContradictoryNames.antt` says for which names it is refused.
unfoldable pub verdict : Program → ℕ → Verdict
verdict P A = cond (M P A) is_true (cond (N P A) is-undefined is_false)
