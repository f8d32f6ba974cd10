-- Ground extended logic programs (001, section 2; document 01, "The marking file").
use Rattle.std.specs.Prelude.{cond, List, [], ◌∷◌, ◌++◌, map, ℕ, ◌+◌, ◌-◌, ◌%◌, eqb}
use Rattle.wfsx.specs.Sets.{Set}

-- Name n has two objective literals, 2n and, explicitly negated, 2n + 1. Each is the complement of the other.
unfoldable pub compl : ℕ → ℕ
compl A = cond (eqb (A % 2) 0) (A + 1) (A - 1)

-- the complements of the members of S
abbrev pub complements : Set → Set
complements S A = S (compl A)

-- An entry of a body: an objective literal B, or the default literal `not C`.
pub data Entry : Type 0 where
  positive default : ℕ → Entry

pub record Rule : Type 0 where
  pub head : ℕ
  pub body : List Entry

abbrev pub Program : Type 0
Program = List Rule

-- A fact is a rule with no body.
abbrev pub fact : ℕ → Rule
fact A = record { head = A; body = [] }

-- The rules of a book and the literals put in, as one program (document 01, "From rules to a model").
abbrev pub with_facts : List Rule → List ℕ → Program
with_facts rules put_in = rules ++ map fact put_in

-- The seminormal version of a program: `not` of the head's complement is added to each body (001, definition 1).
abbrev pub seminormal_rule : Rule → Rule
seminormal_rule r = record { head = r.head; body = default (compl r.head) ∷ r.body }

abbrev pub seminormal : Program → Program
seminormal P = map seminormal_rule P

-- A part of a program: its rules whose heads are not among the literals B.
unfoldable pub without_heads : Set → Program → Program
without_heads B [] = []
without_heads B (r ∷ P) = cond (B r.head) (without_heads B P) (r ∷ without_heads B P)
