use borrow.Author.Rules.{rules}
use native.Mathlib.Omega.{arith}
use mathlib.Core.Path.{◌≡◌}
use lib.ListN.{length}
use Rattle.litset.specs.Words.{n_words}
use Rattle.reach.proofs.Rows.{paired_none, paired_more, paired_all}
use Rattle.reach.proofs.with_name.Goals as goal

pub loop-i-init : goal.loop-i-init
loop-i-init c = paired_none _ _ (search rules)

pub loop-i-preserved : goal.loop-i-preserved
loop-i-preserved c = paired_more _ _ _ _ _ c.loop-i.invariant (omega arith) c.with_pair.ensures

pub returns : goal.returns
returns c =
    let size : length c.args.s.words ≡ n_words = search rules in
    paired_all _ _ _ _ c.loop-i.invariant size (omega arith) c.requires
