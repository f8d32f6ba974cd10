use Rattle.std.proofs.Common.{arith, ◌∙◌, sym}
use Rattle.book.proofs.Bodies.{body_first, body_more, body_fails, body_over}
use Rattle.fixpoint.proofs.Numbered.body_holds.Goals as goal

pub loop-j-init : goal.loop-j-init
loop-j-init c = body_first c.body_start-start.ensures

pub returns-then-not-entry_holds : goal.returns-then-not-entry_holds
returns-then-not-entry_holds c =
    let end = c.body_end-end.ensures in
    sym (body_fails c.loop-j.invariant (omega arith) (rw (← c.entry_at.ensures) (sym c.entry_holds.ensures ∙ c.if-not-entry_holds.true)))

pub loop-j-preserved : goal.loop-j-preserved
loop-j-preserved c =
    let end = c.body_end-end.ensures in
    body_more c.loop-j.invariant (omega arith) (rw (← c.entry_at.ensures) (sym c.entry_holds.ensures ∙ c.if-not-entry_holds.false))

pub returns : goal.returns
returns c =
    let end = c.body_end-end.ensures in
    sym (body_over c.loop-j.invariant (omega arith))
