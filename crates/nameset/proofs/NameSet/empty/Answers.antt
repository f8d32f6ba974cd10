use Rattle.nameset.specs.Names.{name_words}
use Rattle.litset.proofs.Words.{set_zeros}
use Rattle.nameset.proofs.NameSet.empty.Goals as goal

pub returns : goal.returns
returns c = set_zeros name_words
