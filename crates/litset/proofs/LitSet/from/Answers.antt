use Rattle.std.proofs.Common.{rules, arith, ◌∙◌}
use lib.ListN.{length-set}
use Rattle.litset.proofs.Onward.{words_none, words_more, words_all}
use Rattle.litset.proofs.LitSet.from.Goals as goal

pub loop-i-init : goal.loop-i-init
loop-i-init c = (search rules, words_none c.args.k)

pub loop-i-preserved : goal.loop-i-preserved
loop-i-preserved c =
    let at = c.loop-i in
    (length-set at.word-items at.i _ ∙ at.invariant.0, words_more _ at.word-items at.i _ (omega (arith, at.invariant.0)) c.word_from.ensures at.invariant.1)

pub returns : goal.returns
returns c = words_all _ c.loop-i.word-items c.loop-i.i c.loop-i-test.false (omega arith) c.loop-i.invariant.1
