-- `complements`: the words passed have the two bits of each name exchanged and the others are still those of the set.
use Rattle.litset.specs.Steps.{exchange}
use Rattle.litset.proofs.Words.{Joined}
use Rattle.litset.proofs.LitSet.complements.Given as goal

abbrev pub invariant-loop-word : goal.invariant-loop-word
invariant-loop-word l = Joined (λ w v. exchange w) l.fn.self.words l.fn.self.words l.word-items l.word-index
