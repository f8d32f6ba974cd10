-- The marks of a walk: a number for each literal in two tables, one for T-trees and one for TU-trees. A mark says that the literal stands above the
-- present node, or what the trees answer for it (document 02, A.6); 0 says neither.
use Rattle.std.specs.Prelude.{Bool, true, false, not, cond, ◌&&◌, List, [], ◌∷◌, map, ℕ, suc, eqb, get_or, set}
use Rattle.wfsx.specs.Sets.{Set}
use Rattle.search.specs.declared.Finding.{Finding}
use Rattle.search.specs.declared.Mark.{Mark}
use Rattle.search.specs.declared.Mark.TheVariants.{Unknown, Proved, Failed, Above, False, Held, Shut, Path}

-- the number of a mark in the table of T-trees, and in that of TU-trees; the marks of the other kind of trees have numbers that no law is about
abbrev pub t_code : Mark → ℕ
t_code Unknown = 0
t_code Proved = 1
t_code Failed = 2
t_code Above = 3
t_code False = 4
t_code Held = 5
t_code Shut = 6
t_code Path = 7

abbrev pub u_code : Mark → ℕ
u_code Unknown = 0
u_code False = 1
u_code Held = 2
u_code Shut = 3
u_code Path = 4
u_code Proved = 5
u_code Failed = 6
u_code Above = 7

-- the mark `from` becomes `to`
abbrev pub turned_mark : Mark → Mark → Mark → Mark
turned_mark from to m = cond (eqb (t_code m) (t_code from)) to m

-- the literals that have the mark v
unfoldable pub marked : ℕ → List ℕ → Set
marked v s A = eqb (get_or s A 0) v

-- In the table of T-trees: the literals that hold, those that fail below the present T-ancestors, and these ancestors.
abbrev pub proved_in : List ℕ → Set
proved_in t = marked 1 t

abbrev pub failed_in : List ℕ → Set
failed_in t = marked 2 t

abbrev pub above_in : List ℕ → Set
above_in t = marked 3 t

-- In the table of TU-trees: the literals that fail whatever stands above them, those that hold below the present T-ancestors, those that
-- failed in the present tree, and its local path.
abbrev pub false_in : List ℕ → Set
false_in u = marked 1 u

abbrev pub held_in : List ℕ → Set
held_in u = marked 2 u

abbrev pub shut_in : List ℕ → Set
shut_in u = marked 3 u

abbrev pub path_in : List ℕ → Set
path_in u = marked 4 u

-- each mark `from` becomes `to`
unfoldable pub turned : ℕ → ℕ → ℕ → ℕ
turned from to x = cond (eqb x from) to x

abbrev pub turned_in : ℕ → ℕ → List ℕ → List ℕ
turned_in from to s = map (turned from to) s

-- ---- the tables when a node is left

-- The T-ancestor's mark makes room for the answer. Where it holds, what failed or was held below it is forgotten.
unfoldable pub t_left : Finding → ℕ → List ℕ → List ℕ
t_left Finding.Holds a t = set (turned_in 2 0 t) a 1
t_left Finding.Fails a t = set t a 2
t_left (Finding.Waits l) a t = set t a 2

unfoldable pub held_left : Finding → List ℕ → List ℕ
held_left Finding.Holds u = turned_in 2 0 u
held_left Finding.Fails u = u
held_left (Finding.Waits l) u = u

-- The path is one shorter. Where its literal holds, what failed below it is forgotten; where it waits, nothing is known of it.
unfoldable pub u_left : Finding → ℕ → List ℕ → List ℕ
u_left Finding.Holds a u = set (turned_in 3 0 u) a 2
u_left Finding.Fails a u = set u a 3
u_left (Finding.Waits l) a u = set u a 0

-- ---- findings

abbrev pub is_holds : Finding → Bool
is_holds Finding.Holds = true
is_holds Finding.Fails = false
is_holds (Finding.Waits l) = false

abbrev pub is_fails : Finding → Bool
is_fails Finding.Holds = false
is_fails Finding.Fails = true
is_fails (Finding.Waits l) = false

abbrev pub found : Bool → Finding
found true = Finding.Holds
found false = Finding.Fails

-- what a leaf `not b` of a TU-tree says by the mark of b in T-trees: where there is none, a T-tree is wanted if b is a head, and fails if it is not
abbrev pub leaf_says : (head : Bool) → (mark b : ℕ) → Finding
leaf_says head mark b = cond (eqb mark 0) (cond head (Finding.Waits b) Finding.Holds) (found (not (eqb mark 1)))

-- ---- how many marks of the literals in a set pass a test

unfoldable pub count_from : Set → (ℕ → Bool) → ℕ → List ℕ → ℕ
count_from S test A [] = 0
count_from S test A (x ∷ s) = cond (S A && test x) (suc (count_from S test (suc A) s)) (count_from S test (suc A) s)

abbrev pub count : Set → (ℕ → Bool) → List ℕ → ℕ
count S test s = count_from S test 0 s

-- other marks than v
abbrev pub others : ℕ → Set → List ℕ → ℕ
others v S s = count S (λ x. not (eqb x v)) s

-- no mark
abbrev pub blanks : Set → List ℕ → ℕ
blanks S s = count S (λ x. eqb x 0) s

-- neither v nor w
abbrev pub without : ℕ → ℕ → Set → List ℕ → ℕ
without v w S s = count S (λ x. not (eqb x v) && not (eqb x w)) s
