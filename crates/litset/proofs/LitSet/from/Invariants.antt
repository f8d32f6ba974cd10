-- `from`: the words before place i have the literals from k on that lie below them, and no others.
use Rattle.std.proofs.Common.{◌≡◌, ◌*◌, length}
use Rattle.litset.specs.Words.{n_words, set_of}
use Rattle.litset.proofs.Onward.{between}
use Rattle.litset.proofs.LitSet.from.Given as goal

abbrev pub invariant-loop-i : goal.invariant-loop-i
invariant-loop-i l = (length l.word-items ≡ n_words) × (set_of l.word-items ≡ between l.k (64 * l.i))
