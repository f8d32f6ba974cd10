use mathlib.Core.Path.{◌≡◌}
use lib.ListN.{length}
use Rattle.litset.specs.Words.{n_words}
use Rattle.litset.proofs.Words.{member_room}
use Rattle.groups.proofs.Names.{marked_start, marked_more, marked_end}
use borrow.Author.Rules.{rules}
use Rattle.groups.proofs.facts_for.Goals as goal

pub loop-name-init : goal.loop-name-init
loop-name-init c = marked_start c.empty-literals.ensures

pub loop-name-preserved : goal.loop-name-preserved
loop-name-preserved c =
    marked_more c.loop-name.invariant c.loop-name-test.true c.first_literal-a.ensures.0 c.insert.ensures c.insert-literals.ensures

pub returns : goal.returns
returns c =
    let size : length c.args.facts.words ≡ n_words = search rules in
    marked_end c.loop-name.invariant c.loop-name-test.false (member_room _ size) c.difference.ensures c.difference-2.ensures
