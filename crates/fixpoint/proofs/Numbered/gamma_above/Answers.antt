use Rattle.std.proofs.Common.{rules}
use mathlib.Core.Path.{◌≡◌, ◌∙◌}
use lib.ListN.{length}
use Rattle.litset.specs.Words.{n_words, set_of}
use Rattle.litset.proofs.Words.{member_room}
use Rattle.fixpoint.proofs.Growth.{from_inside}
use Rattle.fixpoint.proofs.Numbered.gamma_above.Goals as goal

pub returns : goal.returns
returns c =
    let facts = c.args.facts.words in
    let facts-size : length facts ≡ n_words = search rules in
    let both : length c.union-start.result.words ≡ n_words = search rules in
    c.least_closed.ensures
    ∙ from_inside _ (set_of facts) (member_room facts facts-size) _ c.empty.ensures c.union-start.ensures (member_room c.union-start.result.words both) c.requires
