use Rattle.std.proofs.Common.{rules, arith, ◌≡◌, ◌≤◌, length, refl}
use Rattle.litset.specs.Words.{n_words}
use Rattle.litset.specs.Steps.{exchange}
use Rattle.litset.proofs.Words.{joined_none, joined_more, joined_words}
use Rattle.litset.proofs.Names.{set_complements}
use Rattle.litset.proofs.LitSet.complements.Goals as goal
use Rattle.litset.proofs.LitSet.complements.Goals.{After-loop-word}

-- the set has as many words as the definition counts
size : (c : After-loop-word) → length c.args.self.words ≡ n_words
size c = search rules

pub loop-word-init : goal.loop-word-init
loop-word-init c = joined_none _ _ _

pub loop-word-preserved : goal.loop-word-preserved
loop-word-preserved c = rw c.exchanged.ensures (joined_more (λ w v. exchange w) _ _ _ _ (search rules) c.loop-word.invariant)

pub returns : goal.returns
returns c =
    let ws = c.args.self.words in
    let past : length ws ≤ c.loop-word.word-index = omega (arith, size (goal.at.returns c).After-loop-word) in
    set_complements ws _ (joined_words (λ w v. exchange w) _ _ refl _ _ past past c.loop-word.invariant)
