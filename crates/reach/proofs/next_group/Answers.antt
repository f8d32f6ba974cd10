use borrow.Author.Rules.{rules}
use mathlib.Core.Path.{◌∙◌, ap}
use Prim.Native.Nat.{◌*◌}
use Rattle.truth.proofs.Truth.{or_l, or_r}
use Rattle.wfsx.specs.Sets.{Set, ◌∖◌}
use Rattle.litset.specs.Words.{set_of}
use Rattle.std.specs.Prelude.{None}
use Rattle.litset.proofs.Words.{member_room}
use Rattle.reach.proofs.Names.{lowest_of, name_falls}
use Rattle.reach.proofs.Waiting.{noted_none, noted_all, noted_next, noted_more}
use native.Mathlib.Omega.{arith}
use Prim.Native.Nat.{◌<◌}
use lib.ListN.{length}
use Rattle.wfsx.specs.Sets.{◌∪◌}
use Rattle.reach.proofs.Rows.{row_changed}
use Rattle.reach.proofs.next_group.Goals as goal

pub loop-k-init : goal.loop-k-init
loop-k-init c = noted_none _ _ _ _

pub returns-in-None : goal.returns-in-None
returns-in-None c = noted_all _ _ _ _ _ _ _ c.loop-k.invariant c.difference.ensures (lowest_of _ (member_room _ (search rules)) _ c.lowest_both.ensures None c.in-None.is) _ c.empty.ensures

pub row_at-row-requires : goal.row_at-row-requires
row_at-row-requires c = (lowest_of _ (member_room _ (search rules)) _ c.lowest_both.ensures _ c.in-Some.is).2

pub meet-met-requires : goal.meet-met-requires
meet-met-requires c = (lowest_of _ (member_room _ (search rules)) _ c.lowest_both.ensures _ c.in-Some.is).2

pub returns-in-None-lowest_both : goal.returns-in-None-lowest_both
returns-in-None-lowest_both c =
    let row = set_of c.row_at-row.result.words in
    noted_next _ _ _ _ _ _ _ c.loop-k.invariant c.difference.ensures _ (lowest_of _ (member_room _ (search rules)) _ c.lowest_both.ensures _ c.in-Some.is) row _ _ c.row_at-row.ensures
    (c.difference-among.ensures ∙ ap (λ (S : Set). row ∖ S) c.difference-in-Some.ensures) c.meet-met.ensures _ c.difference-in-Some-2.ensures (lowest_of _ (member_room _ (search rules)) _ c.lowest_both-in-Some.ensures None c.in-None-lowest_both.is)

pub row_at-requires : goal.row_at-requires
row_at-requires c = (lowest_of _ (member_room _ (search rules)) _ c.lowest_both-in-Some.ensures _ c.in-Some-lowest_both.is).2

pub offset_bounds-watch-j : goal.offset_bounds-watch-j
offset_bounds-watch-j c =
    let below = (lowest_of _ (member_room _ (search rules)) _ c.lowest_both-in-Some.ensures _ c.in-Some-lowest_both.is).2 in
    search rules

pub bounds-watch-j : goal.bounds-watch-j
bounds-watch-j c = (lowest_of _ (member_room _ (search rules)) _ c.lowest_both-in-Some.ensures _ c.in-Some-lowest_both.is).2

pub loop-k-preserved : goal.loop-k-preserved
loop-k-preserved c =
    let inside : c.in-Some-lowest_both.j < length c.loop-k.watch = omega (arith, c.loop-k.invariant.size, c.told-watch, (lowest_of _ (member_room _ (search rules)) _ c.lowest_both-in-Some.ensures _ c.in-Some-lowest_both.is).2) in
    let row = set_of c.row_at-row.result.words in
    noted_more _ _ _ _ _ _ _ c.loop-k.invariant c.difference.ensures _ (lowest_of _ (member_room _ (search rules)) _ c.lowest_both.ensures _ c.in-Some.is) row _ _ c.row_at-row.ensures
    (c.difference-among.ensures ∙ ap (λ (S : Set). row ∖ S) c.difference-in-Some.ensures) c.meet-met.ensures _ c.difference-in-Some-2.ensures _ (lowest_of _ (member_room _ (search rules)) _ c.lowest_both-in-Some.ensures _ c.in-Some-lowest_both.is)
    _ (row_changed _ _ _ _ inside (c.union.ensures ∙ ap (λ (S : Set). S ∪ set_of c.meet-met.result.words) c.row_at.ensures)) _ c.union-out.ensures

pub loop-k-smaller : goal.loop-k-smaller
loop-k-smaller c =
    let name = c.in-Some.is in
    let left = set_of c.args.left.words in
    let out = set_of c.loop-k.out.words in
    name_falls c.in-Some.k left out _ _ c.difference.ensures (lowest_of _ (member_room _ (search rules)) _ c.lowest_both.ensures _ name).0 (λ A h. rw c.union-out.ensures (or_l (out A) _ h))
    (rw c.union-out.ensures (or_r (out (2 * c.in-Some.k)) _ c.meet-met.ensures.has)) (member_room _ (search rules))
