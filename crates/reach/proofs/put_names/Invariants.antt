-- `put_names`: what is put so far with the names left put behind it is the whole. Each turn one name fewer is left.
use mathlib.Core.Path.{◌≡◌}
use lib.ListN.{length}
use Rattle.wfsx.specs.Sets.{members}
use Rattle.litset.specs.Words.{n_words, set_of}
use Rattle.reach.specs.Table.{n_names, both_in}
use Rattle.reach.proofs.Placing.{Putting}
use Rattle.reach.proofs.put_names.Given as goal

abbrev pub invariant-loop-k : goal.invariant-loop-k
invariant-loop-k l = (length l.left.words ≡ n_words) × Putting (set_of l.initial.left.words) l.number l.at l.initial.name l.initial.numbers (set_of l.left.words) l.p l.name l.numbers

abbrev pub decreases-loop-k : goal.decreases-loop-k
decreases-loop-k l = length (members n_names (both_in (set_of l.left.words)))
