use borrow.Author.Rules.{rules}
use mathlib.Core.Path.{sym, ◌∙◌, ap}
use Prim.Native.Nat.{◌*◌}
use Rattle.litset.specs.Words.{set_of}
use Rattle.std.specs.Prelude.{None}
use Rattle.litset.proofs.Words.{member_room}
use Rattle.reach.proofs.Names.{with_name_has, with_name_keeps, lowest_of, name_falls}
use Rattle.reach.proofs.Waiting.{gathered_start, gathered_all, gathered_stop, gathered_more}
use Rattle.wfsx.specs.Sets.{Set}
use Rattle.reach.proofs.meet.Goals as goal

pub loop-met-init : goal.loop-met-init
loop-met-init c = gathered_start _ _ _ _ _ c.with_name-met.ensures c.empty.ensures

pub returns-in-None : goal.returns-in-None
returns-in-None c = gathered_all _ _ _ _ _ c.loop-met.invariant c.difference.ensures (lowest_of _ (member_room _ (search rules)) _ c.lowest_both.ensures None c.in-None.is)

pub row_at-requires : goal.row_at-requires
row_at-requires c = (lowest_of _ (member_room _ (search rules)) _ c.lowest_both.ensures _ c.in-Some.is).2

pub returns-then-not-contains : goal.returns-then-not-contains
returns-then-not-contains c =
    gathered_stop _ _ _ _ _ c.loop-met.invariant c.difference.ensures _ (lowest_of _ (member_room _ (search rules)) _ c.lowest_both.ensures _ c.in-Some.is)
    (sym (c.contains.ensures ∙ ap (λ (S : Set). S (2 * c.args.k)) c.row_at.ensures) ∙ c.if-not-contains.true)

pub with_name-met-requires-in-Some : goal.with_name-met-requires-in-Some
with_name-met-requires-in-Some c = (lowest_of _ (member_room _ (search rules)) _ c.lowest_both.ensures _ c.in-Some.is).2

pub loop-met-smaller : goal.loop-met-smaller
loop-met-smaller c =
    let name = c.in-Some.is in
    let among = set_of c.args.among.words in
    let met = set_of c.loop-met.met.words in
    name_falls c.in-Some.j among met _ _ c.difference.ensures (lowest_of _ (member_room _ (search rules)) _ c.lowest_both.ensures _ name).0 (λ A h. rw c.with_name-met-in-Some.ensures (with_name_keeps c.in-Some.j met A h))
    (rw c.with_name-met-in-Some.ensures (with_name_has c.in-Some.j met)) (member_room _ (search rules))

pub loop-met-preserved : goal.loop-met-preserved
loop-met-preserved c =
    gathered_more _ _ _ _ _ c.loop-met.invariant c.difference.ensures _ (lowest_of _ (member_room _ (search rules)) _ c.lowest_both.ensures _ c.in-Some.is).0
    (sym (c.contains.ensures ∙ ap (λ (S : Set). S (2 * c.args.k)) c.row_at.ensures) ∙ c.if-not-contains.false) _ c.with_name-met-in-Some.ensures
