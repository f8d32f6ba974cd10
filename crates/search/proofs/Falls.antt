-- The falling number of the walk: the literals outside the T-ancestors, weighted, and in a TU-tree the literals outside the local path. A
-- T-node that goes on has a new T-ancestor, and a TU-node that goes on a longer path. Between two nodes stand the loop over rules, the loop
-- over entries, the child and the search of a TU-tree: so each number is taken six times, with up to 4 added.
use mathlib.Core.Path.{◌≡◌, refl, sym, ◌∙◌}
use mathlib.Core.Bool.{true, not}
use mathlib.Core.List.{List}
use Prim.Native.Nat.{ℕ, ◌+◌, ◌*◌, ◌<◌}
use native.Mathlib.Omega.{arith}
use lib.Dec.{eqb}
use lib.ListN.{get_or, set}
use Rattle.wfsx.specs.Sets.{Set}
use Rattle.wfsx.specs.Program.{Program}
use Rattle.wfsx.specs.Trees.{Tree, T, TU}
use Rattle.litset.specs.Words.{capacity}
use Rattle.search.specs.Marks.{others}
use Rattle.search.specs.Walk.{State, Tables, Walked}
use Rattle.search.proofs.Marks.{others_same, count_set_less, count_most}

abbrev every_literal : Set
every_literal A = true

unfoldable pub t_size : List ℕ → ℕ
t_size t = 6 * (others 3 every_literal t * (capacity + 2))

unfoldable pub tu_size : List ℕ → List ℕ → ℕ
tu_size t u = 6 * (others 3 every_literal t * (capacity + 2) + (others 4 every_literal u + 1))

unfoldable pub search_size : List ℕ → ℕ
search_size t = 6 * (others 3 every_literal t * (capacity + 2) + (capacity + 1)) + 1

unfoldable pub child_size : Tree → List ℕ → List ℕ → ℕ
child_size T t u = search_size t + 1
child_size TU t u = tu_size t u + 1

-- from a T-node to its rules
pub t_falls : {P : Program} {t u : List ℕ} → Tables P t u → (a : ℕ) → a < capacity → get_or t a 0 ≡ 0 → (u' : List ℕ) (n : ℕ) → t_size t ≡ n → child_size T (set t a 3) u' + 2 < n
unfolding t_size search_size child_size
t_falls {t = t} h a small z u' n e = omega (arith, count_set_less every_literal (λ x. not (eqb x 3)) 0 t a 3 (omega (arith, h.t_room)) refl (rw z refl) refl)

-- from a TU-node to its rules
pub tu_falls : {P : Program} {t u : List ℕ} → Tables P t u → (a : ℕ) → a < capacity → get_or u a 0 ≡ 0 → (n : ℕ) → tu_size t u ≡ n → child_size TU t (set u a 4) + 2 < n
unfolding tu_size child_size
tu_falls {u = u} h a small z n e = omega (arith, count_set_less every_literal (λ x. not (eqb x 4)) 0 u a 4 (omega (arith, h.u_room)) refl (rw z refl) refl)

-- the marks of ancestors are the same after a visit, so the number is
module _ {P : Program} {k : Tree} {s s' : State} (h : Tables P s.t s.u) (w : Walked P k s s') where
  above_same : others 3 every_literal s'.t ≡ others 3 every_literal s.t
  above_same = others_same 3 every_literal s'.t s.t (w.tables.t_room ∙ sym h.t_room) w.above_kept

  path_same : others 4 every_literal s'.u ≡ others 4 every_literal s.u
  path_same = others_same 4 every_literal s'.u s.u (w.tables.u_room ∙ sym h.u_room) w.path_kept

  pub child_size_same : (j : Tree) → child_size j s'.t s'.u ≡ child_size j s.t s.u
  unfolding tu_size search_size child_size
  child_size_same T = rw above_same refl
  child_size_same TU = rw (above_same, path_same) refl

  -- from the search of a TU-tree to its nodes
  pub search_tu_falls : (n : ℕ) → search_size s.t ≡ n → tu_size s'.t s'.u < n
  unfolding tu_size search_size
  search_tu_falls n e = omega (arith, above_same, count_most every_literal (λ x. not (eqb x 4)) s'.u, w.tables.u_room)

  -- and to the T-tree that it waits for
  pub search_t_falls : (n : ℕ) → search_size s.t ≡ n → t_size s'.t < n
  unfolding t_size search_size
  search_t_falls n e = omega (arith, above_same)

-- from a child to its node
module _ (n : ℕ) (k : Tree) (t u : List ℕ) (e : child_size k t u ≡ n) where
  pub T-t_falls : k ≡ T → t_size t < n
  unfolding t_size search_size child_size
  T-t_falls q = let f = rw q at e in omega arith

  pub T-search_falls : k ≡ T → search_size t < n
  unfolding child_size
  T-search_falls q = let f = rw q at e in omega arith

  pub TU-tu_falls : k ≡ TU → tu_size t u < n
  unfolding child_size
  TU-tu_falls q = let f = rw q at e in omega arith
