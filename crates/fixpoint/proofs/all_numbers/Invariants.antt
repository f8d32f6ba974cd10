-- `all_numbers`: the numbers stored so far are those below k.
use Rattle.std.proofs.Common.{◌≡◌, length, take}
use Rattle.book.specs.Limits.{max_rules}
use Rattle.book.specs.Book.{rows}
use Rattle.fixpoint.proofs.all_numbers.Given as goal

abbrev pub invariant-loop-k : goal.invariant-loop-k
invariant-loop-k l = (length l.numbers ≡ max_rules) × (take l.k l.numbers ≡ rows (λ j. j) 0 l.k)
