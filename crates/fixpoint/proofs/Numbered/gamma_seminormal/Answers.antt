use Rattle.std.proofs.Common.{rules}
use mathlib.Core.Path.{◌≡◌, ◌∙◌}
use lib.ListN.{length}
use Rattle.litset.specs.Words.{n_words, set_of}
use Rattle.litset.proofs.Words.{member_room}
use Rattle.fixpoint.proofs.Growth.{from_open}
use Rattle.fixpoint.proofs.Numbered.gamma_seminormal.Goals as goal

pub returns : goal.returns
returns c =
    let facts = c.args.facts.words in
    let facts-size : length facts ≡ n_words = search rules in
    let fewer : length c.difference-start.result.words ≡ n_words = search rules in
    c.least_closed.ensures
    ∙ from_open _ (set_of facts) (member_room facts facts-size) _ c.complements-shut.ensures c.difference-start.ensures (member_room c.difference-start.result.words fewer)
