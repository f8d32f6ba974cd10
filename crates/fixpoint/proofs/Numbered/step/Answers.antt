use Rattle.std.proofs.Common.{rules}
use Rattle.fixpoint.specs.Pass.{rules_by}
use mathlib.Core.Path.{◌≡◌}
use lib.ListN.{length}
use Rattle.litset.specs.Words.{n_words, set_of}
use Rattle.litset.proofs.Words.{member_room}
use Rattle.fixpoint.proofs.Settled.{facts_inside, step_settled}
use Rattle.fixpoint.proofs.Numbered.step.Goals as goal

pub settle-m-requires : goal.settle-m-requires
settle-m-requires c =
    let ws = c.union-known.result.words in
    let size : length ws ≡ n_words = search rules in
    facts_inside (rules_by c.args.self.now) (set_of ws) (member_room ws size) _

pub returns : goal.returns
returns c =
    let facts = c.args.facts.words in
    let before = c.args.before in
    let facts-size : length facts ≡ n_words = search rules in
    let truths-size : length before.truths.words ≡ n_words = search rules in
    let nonfalse-size : length before.nonfalse.words ≡ n_words = search rules in
    step_settled
    (rules_by c.args.self.now)
    (set_of facts)
    (member_room _ facts-size)
    before
    (member_room _ truths-size)
    (member_room _ nonfalse-size)
    c.union-known.ensures
    c.union-possible.ensures
    c.settle-m.result
    c.settle-m.ensures
