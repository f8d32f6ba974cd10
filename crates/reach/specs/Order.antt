-- The working order as two tables, place by place (document 02, A.5).
use Rattle.std.specs.Prelude.{List, [], ◌∷◌, ◌++◌, map, ℕ, suc, length}
use Rattle.book.specs.Limits.{max_names}
use Rattle.book.specs.Book.{padded, joined}
use Rattle.reach.specs.declared.Order.{Order}

-- the group number of each place, where the groups count from i
unfoldable pub numbered : ℕ → List (List ℕ) → List ℕ
numbered i [] = []
numbered i (g ∷ gs) = map (λ _. i) g ++ numbered (suc i) gs

-- the table of some groups, with zeros behind the names
unfoldable pub order_table : List (List ℕ) → Order
order_table gs =
    record { names = length (joined gs); groups = length gs; name = padded max_names (joined gs); group = padded max_names (numbered 0 gs) }
