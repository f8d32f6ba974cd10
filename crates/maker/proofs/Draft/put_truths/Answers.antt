use Rattle.std.proofs.Common.{◌∙◌, sym, refl}
use Rattle.maker.specs.Making.{none_yet}
use Rattle.maker.proofs.Rounds.{grew_room, grew_more, grew_fewer, grew_last}
use Rattle.maker.proofs.Draft.put_truths.Goals as goal

pub loop-self-init : goal.loop-self-init
loop-self-init c = (record { passes = none_yet; bounded = c.requires.2; as_long = c.requires.1 }, refl)

pub put_shown-requires : goal.put_shown-requires
put_shown-requires c = grew_room c.requires.0 c.loop-self.invariant.0

pub returns-then-self-before : goal.returns-then-self-before
returns-then-self-before c =
    let inv = c.loop-self.invariant in
    let s = c.put_shown.ensures in
    let last = grew_last c.requires.0 inv.0 _ s.count s.entries s.truths s.room c.if-self-before.true in
    record { passes = rw inv.1 at last.0; last = rw (← s.falses) at last.1; falses = s.falses ∙ inv.1; room = s.room ∙ inv.0.as_long ∙ sym c.requires.1 }

pub loop-self-smaller : goal.loop-self-smaller
loop-self-smaller c =
    let s = c.put_shown.ensures in
    grew_fewer c.requires.0 c.loop-self.invariant.0 _ s.count s.entries s.truths s.room c.if-self-before.false

pub loop-self-preserved : goal.loop-self-preserved
loop-self-preserved c =
    let inv = c.loop-self.invariant in
    let s = c.put_shown.ensures in
    (rw (← s.falses) at (grew_more c.requires.0 inv.0 _ s.count s.entries s.truths s.room), s.falses ∙ inv.1)
