use borrow.Author.Rules.{rules}
use mathlib.Core.Path.{◌∙◌, ap}
use Rattle.wfsx.specs.Sets.{◌∖◌}
use Rattle.litset.specs.Words.{set_of}
use Rattle.std.specs.Prelude.{None}
use Rattle.litset.proofs.Words.{member_room}
use Rattle.reach.proofs.Names.{with_name_has, with_name_keeps, lowest_of, name_falls}
use Rattle.reach.proofs.Waiting.{releasing_start, releasing_more, releasing_end}
use Rattle.wfsx.specs.Sets.{Set}
use Rattle.reach.proofs.release.Goals as goal

pub loop-out-init : goal.loop-out-init
loop-out-init c = releasing_start _ _ _ c.empty-done.ensures

pub returns-in-None : goal.returns-in-None
returns-in-None c = releasing_end _ _ _ _ c.loop-out.invariant _ _ c.difference.ensures (lowest_of _ (member_room _ (search rules)) _ c.lowest_both.ensures None c.in-None.is)

pub row_at-requires : goal.row_at-requires
row_at-requires c = (lowest_of _ (member_room _ (search rules)) _ c.lowest_both.ensures _ c.in-Some.is).2

pub with_name-done-requires : goal.with_name-done-requires
with_name-done-requires c = (lowest_of _ (member_room _ (search rules)) _ c.lowest_both.ensures _ c.in-Some.is).2

pub loop-out-smaller : goal.loop-out-smaller
loop-out-smaller c =
    let name = c.in-Some.is in
    let group = set_of c.args.group.words in
    let done = set_of c.loop-out.done.words in
    name_falls c.in-Some.j group done _ _ c.difference.ensures (lowest_of _ (member_room _ (search rules)) _ c.lowest_both.ensures _ name).0 (λ A h. rw c.with_name-done.ensures (with_name_keeps c.in-Some.j done A h))
    (rw c.with_name-done.ensures (with_name_has c.in-Some.j done)) (member_room _ (search rules))

pub loop-out-preserved : goal.loop-out-preserved
loop-out-preserved c =
    let out = set_of c.loop-out.out.words in
    releasing_more _ _ _ _ c.loop-out.invariant _ _ _ c.with_name-done.ensures (c.difference-out.ensures ∙ ap (λ (S : Set). out ∖ S) c.row_at.ensures)
