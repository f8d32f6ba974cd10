use Rattle.std.proofs.Common.{rules, arith, ◌≡◌, length}
use Rattle.nameset.specs.Names.{name_words}
use Rattle.nameset.proofs.Names.{given_none, given_more, given_all}
use Rattle.nameset.proofs.NameSet.with_name.Goals as goal

pub loop-i-init : goal.loop-i-init
loop-i-init c = given_none _ _ (search rules)

pub loop-i-preserved : goal.loop-i-preserved
loop-i-preserved c = given_more _ _ _ _ _ c.loop-i.invariant (omega arith) c.word_with.ensures

pub returns : goal.returns
returns c =
    let size : length c.args.self.words ≡ name_words = search rules in
    given_all _ _ _ _ c.loop-i.invariant size (omega arith)
