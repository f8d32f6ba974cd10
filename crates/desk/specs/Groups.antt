-- What document 02, A.5, says of the working order and of the model by groups, over what a list of calls leaves.
use Rattle.std.specs.Prelude.{◌≡◌, List, map, ℕ, length, Result, Ok}
use Rattle.wfsx.specs.Sets.{∅, members}
use Rattle.wfsx.specs.Reach.{group}
use Rattle.wfsx.specs.Groups.{InOrder}
use Rattle.reach.specs.Order.{order_table}
use Rattle.groups.specs.Whole.{WholeOf}
use Rattle.reach.specs.declared.Order.{Order}
use Rattle.lesson.specs.State.{State, its_names, program_in}
use Rattle.lesson.specs.Calls.{groups_told}
use Rattle.lesson.specs.declared.Refusal.{Refusal}
use Rattle.lesson.specs.declared.ModelByGroups.{ModelByGroups}
use Rattle.desk.specs.Runs.{ConsistencyDue}

-- how many names the list's book has
abbrev pub name_count : State → ℕ
name_count d = length (its_names d.book)

-- The table has the groups of the list's program, facts included, in working order, the names of each by number. The list is known by one name of each group.
pub record OrderDue (d : State) (r : Result Order Refusal) : Type 0 where
  pub ones : List ℕ
  pub in_order : InOrder (program_in d) (name_count d) ∅ ones
  pub table : r ≡ Ok (order_table (map (λ k. members (name_count d) (group (program_in d) k)) ones))

-- M and N are those of the whole program, contradictory lessons included
pub record GroupsDue (d : State) (r : Result ModelByGroups Refusal) : Type 0 where
  pub consistency : ConsistencyDue d (groups_told r)
  pub given : ModelByGroups
  pub is_given : r ≡ Ok given
  pub whole : WholeOf (program_in d) given.values
