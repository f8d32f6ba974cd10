-- `number_of`: no name passed is the one looked for, so the look-up in what is left is the look-up in the whole.
use Rattle.std.proofs.Common.{◌≡◌, ◌-◌}
use Rattle.scan.specs.declared.Alphabet.TheVariants.{EitherCase}
use Rattle.book.specs.Book.{rows, name_at, names_of, find_from, find}
use Rattle.book.proofs.Book.number_of.Given as goal

abbrev pub invariant-loop-k : goal.invariant-loop-k
invariant-loop-k l = find_from EitherCase l.k l.name (rows (name_at l.self.text l.self.lengths) l.k (l.n - l.k)) ≡ find EitherCase (names_of l.self) l.name
