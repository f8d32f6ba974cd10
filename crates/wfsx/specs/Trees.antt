-- From a question to its trees: T-trees prove truth, TU-trees non-falsity (document 01, "From a question to its trees"; 001, definitions 3
-- to 6, pruning rules 1 and 4; 003, section 4, for the leaf that a TU-tree adds). The fixpoint is not used.
use Rattle.std.specs.Prelude.{Bool, false, not, ◌&&◌, ◌||◌, ℕ, zero, suc, ◌+◌, ◌*◌, length}
use Rattle.wfsx.specs.Sets.{Set, ∅, ◌∪◌, add}
use Rattle.wfsx.specs.Program.{compl, Entry, positive, default, Program, seminormal}
use Rattle.wfsx.specs.Model.{supported}

pub data Tree : Type 0 where
  T TU : Tree

-- For each kind of tree, local ancestors and global T-ancestors: the literals that hold at a node with these.
abbrev pub Search : Type 0
Search = Tree → (locals globals : Set) → Set

-- The rules by which a literal is expanded. In a TU-tree the leaf `not` of the literal's complement stands under each of them.
abbrev pub expansions : Tree → Program → Program
expansions T P = P
expansions TU P = seminormal P

-- Rule 1: in either tree a literal among its local ancestors fails. Rule 4: in a T-tree one among the global T-ancestors fails.
abbrev pub pruned : Tree → (locals globals : Set) → Set
pruned T locals globals A = locals A || globals A
pruned TU locals globals A = locals A

-- Whether a child holds, by what its own node and the trees that it opens answer. `locals` are the child's: its parent is among them.
-- A tree opened from a leaf has no local ancestors. Its global T-ancestors are those of the leaf's tree and, where that is a T-tree, the
-- leaf's local ancestors.
abbrev pub child : Search → Tree → (locals globals : Set) → Entry → Bool
child s T locals globals (positive B) = s T locals globals B
child s T locals globals (default C) = not (s TU ∅ (locals ∪ globals) C) || s T ∅ (locals ∪ globals) (compl C)
child s TU locals globals (positive B) = s TU locals globals B
child s TU locals globals (default C) = not (s T ∅ globals C)

-- A literal that is not pruned holds if all children under one of its rules hold; without rules it fails.
abbrev pub node : Program → Search → Search
node P s k locals globals A = not (pruned k locals globals A) && supported (expansions k P) (child s k (add A locals) globals) A

-- The trees down to a depth; below it every literal fails.
unfoldable pub cut : Program → ℕ → Search
cut P zero k locals globals A = false
cut P (suc d) k locals globals A = node P (cut P d) k locals globals A

-- No chain of nodes is longer: each T-node adds a head to the T-ancestors, and between two of them the local ancestors of a TU-tree gain a
-- head with each node.
abbrev pub depth : Program → ℕ
depth P = suc (length P) * (length P + 2)

-- The literals that hold in pruned trees.
unfoldable pub tree : Program → Search
tree P = cut P (depth P)

-- A search: whether the literal, or `not` of it, holds as the question of a T- or a TU-search, where nothing stands above it.
unfoldable pub answer : Program → Tree → Entry → Bool
answer P k question = child (tree P) k ∅ ∅ question
