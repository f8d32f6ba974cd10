use Rattle.std.proofs.Common.{rules, arith, ◌≡◌, length, ◌%◌}
use Rattle.litset.specs.Words.{n_words}
use Rattle.litset.proofs.Bit.{one_shl}
use Rattle.litset.proofs.Words.{set_insert, set_no_room}
use Rattle.litset.proofs.LitSet.insert.Goals as goal

pub returns-then-i-lt-WORDS : goal.returns-then-i-lt-WORDS
returns-then-i-lt-WORDS c =
    let size : length c.args.self.words ≡ n_words = search rules in
    simp (one_shl (c.args.l % 64) (omega arith)) (set_insert c.args.self.words c.args.l size (omega arith))

pub returns-else-i-lt-WORDS : goal.returns-else-i-lt-WORDS
returns-else-i-lt-WORDS c =
    let size : length c.args.self.words ≡ n_words = search rules in
    set_no_room _ _ (omega arith)
