-- `count`: the sum so far is the ones of the words passed; the ones of all words are the members.
use Rattle.std.proofs.Common.{◌≡◌, ◌*◌, ◌≤◌}
use lib.ListN.{take}
use Rattle.litset.proofs.Ones.{ones_of}
use Rattle.litset.proofs.LitSet.count.Given as goal

abbrev pub invariant-loop-word : goal.invariant-loop-word
invariant-loop-word l = (l.n ≤ 64 * l.word-index) × (l.n ≡ ones_of (take l.word-index l.fn.self.words))
