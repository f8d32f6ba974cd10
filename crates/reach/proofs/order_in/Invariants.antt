-- `order_in`: the table so far and the groups left are the whole. Each turn puts more names at their places.
use Prim.Native.Nat.{◌-◌}
use Rattle.litset.specs.Words.{set_of}
use Rattle.reach.proofs.Listing.{Listing}
use Rattle.book.specs.Book.{rules_of}
use Rattle.reach.proofs.order_in.Given as goal

abbrev pub invariant-loop-table : goal.invariant-loop-table
invariant-loop-table l = Listing (rules_of l.book) l.names (set_of l.left.words) l.watch (set_of l.stuck.words) l.name l.group l.at l.groups

abbrev pub decreases-loop-table : goal.decreases-loop-table
decreases-loop-table l = l.names - l.at
