use Rattle.litset.proofs.Onward.{word_full, word_none, word_part}
use Rattle.litset.proofs.word_from.Goals as goal

pub returns-then-k-first : goal.returns-then-k-first
returns-then-k-first c = word_full _ _ c.if-k-first.true

pub returns-then-first-k : goal.returns-then-first-k
returns-then-first-k c = word_none _ _ c.if-first-k.true

pub returns : goal.returns
returns c = word_part _ _ c.if-k-first.false c.if-first-k.false
