use Rattle.litset.specs.Words.{n_words}
use Rattle.litset.proofs.Words.{set_zeros}
use Rattle.litset.proofs.LitSet.empty.Goals as goal

pub returns : goal.returns
returns c = set_zeros n_words
