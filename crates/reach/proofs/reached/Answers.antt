use borrow.Author.Rules.{rules}
use Rattle.litset.specs.Words.{set_of}
use Rattle.std.specs.Prelude.{None}
use Rattle.litset.proofs.Words.{member_room}
use Rattle.reach.proofs.Names.{lowest_of}
use Rattle.reach.proofs.Closure.{grown_start, grown_more, grown_end, settled_falls}
use Rattle.reach.proofs.reached.Goals as goal

pub loop-found-init : goal.loop-found-init
loop-found-init c = grown_start _ _ _ _ _ _ c.with_name-found.ensures c.empty.ensures c.empty-done.ensures

pub returns-in-None : goal.returns-in-None
returns-in-None c = grown_end _ _ _ _ _ _ c.loop-found.invariant c.difference.ensures (lowest_of _ (member_room _ (search rules)) _ c.lowest_both.ensures None c.in-None.is)

pub row_at-row-requires : goal.row_at-row-requires
row_at-row-requires c = (lowest_of _ (member_room _ (search rules)) _ c.lowest_both.ensures _ c.in-Some.is).2

pub settled-done-requires : goal.settled-done-requires
settled-done-requires c = (lowest_of _ (member_room _ (search rules)) _ c.lowest_both.ensures _ c.in-Some.is).2

pub loop-found-smaller : goal.loop-found-smaller
loop-found-smaller c =
    let name = c.in-Some.is in
    let found = set_of c.loop-found.found.words in
    settled_falls c.in-Some.j (set_of c.args.whole.words) (set_of c.row_at-row.result.words) found _ _ _ c.difference.ensures (lowest_of _ (member_room _ (search rules)) _ c.lowest_both.ensures _ name).0
    c.settled-done.ensures (member_room _ (search rules))

pub loop-found-preserved : goal.loop-found-preserved
loop-found-preserved c =
    let name = c.in-Some.is in
    grown_more _ _ _ _ _ _ c.loop-found.invariant c.difference.ensures _ (lowest_of _ (member_room _ (search rules)) _ c.lowest_both.ensures _ name).2 (lowest_of _ (member_room _ (search rules)) _ c.lowest_both.ensures _ name) _ _ _ c.row_at-row.ensures
    c.union-found.ensures c.settled-done.ensures
