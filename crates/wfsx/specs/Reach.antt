-- Which names a name reaches, the groups of names that reach each other, and the rules for some names (document 02, A.5). A name is a number, and a set of
-- names is its test, as a set of literals is.
use Rattle.std.specs.Prelude.{◌≡◌, false, not, ◌&&◌, ◌||◌, List, [], ◌∷◌, ℕ, zero, suc, ◌+◌, ◌/◌, length}
use Rattle.wfsx.specs.Sets.{Set, ∅, add, ◌is_in◌, iterate}
use Rattle.wfsx.specs.Program.{Entry, positive, default, Rule, Program, without_heads}

-- the name of a literal
abbrev pub name_of : ℕ → ℕ
name_of A = A / 2

-- the name in an entry of a body
abbrev pub name_in : Entry → ℕ
name_in (positive B) = name_of B
name_in (default C) = name_of C

-- the name that a rule is for: the rule's head is one of its literals
abbrev pub name_for : Rule → ℕ
name_for r = name_of r.head

-- A name reaches itself and every name in the bodies of the rules for either of its literals, and so on from there.
pub data Reaches (P : Program) : ℕ → ℕ → Type 0 where
  itself : {n : ℕ} → Reaches P n n
  further : {n k : ℕ} (r : Rule) (e : Entry) → r is_in P → name_for r ≡ n → e is_in r.body → Reaches P (name_in e) k → Reaches P n k

-- ---- the same, worked out

-- the names in some entries
unfoldable pub mentioned : List Entry → Set
mentioned [] k = false
mentioned (e ∷ es) k = add (name_in e) (mentioned es) k

-- the names in the bodies of the rules for names of D
unfoldable pub body_names : Program → Set → Set
body_names [] D k = false
body_names (r ∷ P) D k = D (name_for r) && mentioned r.body k || body_names P D k

-- how many entries the bodies have
unfoldable pub entry_count : Program → ℕ
entry_count [] = zero
entry_count (r ∷ P) = length r.body + entry_count P

-- The names that n reaches, the least set that has n and the names in the bodies of its names' rules: it is found after one step more than there are
-- entries, since each step but the last adds n or a name of a body.
unfoldable pub reach : Program → ℕ → Set
reach P n = iterate (λ D. add n (body_names P D)) ∅ (suc (entry_count P))

-- ---- groups, and the rules for some names

-- the names that k reaches and that reach k, where R says which names each name reaches
abbrev pub group_by : (ℕ → Set) → ℕ → Set
group_by R k j = R k j && R j k

-- the group of k
unfoldable pub group : Program → ℕ → Set
group P k = group_by (reach P) k

-- the literals of the names in W
abbrev pub literals_of : Set → Set
literals_of W A = W (name_of A)

-- the rules for the names in W
unfoldable pub rules_for : Set → Program → Program
rules_for W P = without_heads (λ A. not (literals_of W A)) P

-- the rules for the names that n reaches
abbrev pub reached_rules : Program → ℕ → Program
reached_rules P n = rules_for (reach P n) P
