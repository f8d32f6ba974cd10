-- What document 02, A.10, says of the number of rounds.
use Rattle.std.specs.Prelude.{◌≡◌, ℕ, ◌*◌, ◌≤◌, length}
use Rattle.wfsx.specs.Model.{head_count}
use Rattle.wfsx.specs.Rounds.{LeastStill}
use Rattle.litset.specs.Words.{capacity}
use Rattle.lister.specs.Listing.{digits}
use Rattle.lesson.specs.State.{State, its_names, program_in, in_book, ContradictoryOver, listing_in}
use Rattle.desk.specs.Spelling.{field_at}

-- k is the number of rounds, over what a list of calls leaves
pub record RoundsDue (d : State) (k : ℕ) : Type 0 where
  -- the least number with I(k) = I(k + 1)
  pub least : LeastStill (program_in d) k
  -- never above the count of distinct heads, facts put in included: all literals of a book are below the capacity
  pub by_heads : k ≤ head_count capacity (program_in d)
  -- nor above the count of the book's literals, and without a contradiction not above that of its names
  pub by_literals : k ≤ 2 * length (its_names d.book)
  pub by_names : (ContradictoryOver (in_book d.book) d → ⊥) → k ≤ length (its_names d.book)
  -- both headers of a listing have it behind FACTS: it is field 4 of line 0
  pub listed : field_at (listing_in d) 0 4 ≡ digits k
