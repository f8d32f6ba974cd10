use Rattle.std.proofs.Common.{◌∙◌, sym, refl, rules}
use Rattle.maker.proofs.Loops.{putting_start, putting_skip, putting_room, putting_more, putting_end}
use Rattle.maker.proofs.Draft.put_members.Goals as goal

pub loop-l-init : goal.loop-l-init
loop-l-init c = (putting_start, refl, refl)

pub loop-l-preserved-then-not-contains : goal.loop-l-preserved-then-not-contains
loop-l-preserved-then-not-contains c =
    let inv = c.loop-l.invariant in
    (putting_skip inv.0 c.loop-l-test.true (sym c.contains.ensures ∙ c.if-not-contains.true), inv.1, inv.2)

pub overflow_add-self : goal.overflow_add-self
overflow_add-self c =
    let room = putting_room c.loop-l.invariant.0 c.loop-l-test.true (sym c.contains.ensures ∙ c.if-not-contains.false) c.requires.1 in
    search rules

pub loop-l-preserved : goal.loop-l-preserved
loop-l-preserved c =
    let inv = c.loop-l.invariant in
    let member = sym c.contains.ensures ∙ c.if-not-contains.false in
    (putting_more inv.0 c.loop-l-test.true member (putting_room inv.0 c.loop-l-test.true member c.requires.1) c.member_entry.ensures c.set_entry.ensures, inv.1, inv.2)

pub returns : goal.returns
returns c =
    let inv = c.loop-l.invariant in
    let end = putting_end inv.0 c.loop-l-test.false in
    record { count = end.0; entries = end.1; truths = inv.1; falses = inv.2; room = inv.0.as_long }
