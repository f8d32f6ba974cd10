use Rattle.std.proofs.Common.{rules, arith, ◌≡◌, length, sym}
use Rattle.litset.specs.Words.{n_words, set_of}
use Rattle.litset.proofs.Words.{none_past}
use Rattle.litset.proofs.LitSet.contains.Goals as goal

pub returns-then-i-lt-WORDS : goal.returns-then-i-lt-WORDS
unfolding set_of
returns-then-i-lt-WORDS c = search rules

pub returns-else-i-lt-WORDS : goal.returns-else-i-lt-WORDS
returns-else-i-lt-WORDS c =
    let size : length c.args.self.words ≡ n_words = search rules in
    sym (none_past _ _ (omega arith))
