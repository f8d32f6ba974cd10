-- What stands at the places of an order's table: the names of the groups, one group behind another, and beside each the number of its group.
use mathlib.Core.Path.{◌≡◌, refl}
use mathlib.Core.List.{List, [], ◌∷◌, ◌++◌, map}
use Prim.Native.Nat.{ℕ, suc, ◌-◌, ◌≤◌}
use native.Mathlib.Omega.{arith}
use lib.ListN.{length, take, replicate, length-append}
use lib.Seq.{take_at}
use Rattle.book.specs.Limits.{max_names}
use Rattle.book.specs.Book.{padded, joined}
use Rattle.reach.specs.Order.{numbered, order_table}
use Rattle.reach.specs.declared.Order.{Order}
use Rattle.reach.proofs.Listing.{numbered_length}

pub numbered_none : (i : ℕ) → numbered i [] ≡ []
unfolding numbered
numbered_none i = refl

pub numbered_first : (i : ℕ) (g : List ℕ) (gs : List (List ℕ)) → numbered i (g ∷ gs) ≡ map (λ _. i) g ++ numbered (suc i) gs
unfolding numbered
numbered_first i g gs = refl

padded_has : (n : ℕ) (xs : List ℕ) → length xs ≤ length (padded n xs)
padded_has n xs = omega (arith, length-append xs (replicate (n - length xs) 0))

module _ {o : Order} (gs : List (List ℕ)) (is : o ≡ order_table gs) where
  pub names_inside : o.names ≤ length o.name
  unfolding order_table
  names_inside = rw is (padded_has max_names (joined gs))

  pub groups_inside : o.names ≤ length o.group
  unfolding order_table
  groups_inside = rw is (omega (arith, padded_has max_names (numbered 0 gs), numbered_length 0 gs))

  pub order_names : take o.names o.name ≡ joined gs
  unfolding order_table
  order_names = rw is (take_at (joined gs) (replicate (max_names - length (joined gs)) 0) (length (joined gs)) refl)

  pub order_groups : take o.names o.group ≡ numbered 0 gs
  unfolding order_table
  order_groups = rw is (take_at (numbered 0 gs) (replicate (max_names - length (numbered 0 gs)) 0) (length (joined gs)) (numbered_length 0 gs))
