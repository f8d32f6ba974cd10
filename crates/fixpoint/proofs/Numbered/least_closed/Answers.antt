use Rattle.std.proofs.Common.{rules}
use mathlib.Core.Path.{◌≡◌, sym, ◌∙◌}
use mathlib.Core.Bool.{true≢false}
use lib.ListN.{length}
use Rattle.litset.specs.Words.{n_words, set_of}
use Rattle.litset.proofs.Words.{member_room}
use Rattle.fixpoint.proofs.Growth.{growing_start, growing_more, growing_falls, growing_still, growing_end}
use Rattle.fixpoint.proofs.Numbered.least_closed.Goals as goal

pub loop-shut-init : goal.loop-shut-init
loop-shut-init c = growing_start _ _ _ _

pub returns-then-equal : goal.returns-then-equal
returns-then-equal c =
    let start = c.args.start.words in
    let size : length start ≡ n_words = search rules in
    let same = c.equal.ensures.0 c.if-equal.true in
    let closed = growing_still _ _ _ _ c.add_heads-y.ensures same in
    sym same ∙ growing_end _ _ _ _ (member_room start size) c.loop-shut.invariant closed

pub loop-shut-smaller : goal.loop-shut-smaller
loop-shut-smaller c =
    let ws = c.add_heads-y.result.words in
    let size : length ws ≡ n_words = search rules in
    growing_falls _ _ _ (set_of c.loop-shut.x.words) c.add_heads-y.ensures (member_room ws size)
    (λ same. true≢false (sym (c.equal.ensures.1 same) ∙ c.if-equal.false))

pub loop-shut-preserved : goal.loop-shut-preserved
loop-shut-preserved c = growing_more _ _ _ _ c.add_heads-y.ensures c.loop-shut.invariant
