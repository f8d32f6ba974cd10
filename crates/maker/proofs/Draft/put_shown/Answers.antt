use Rattle.std.proofs.Common.{◌∙◌, sym, refl, arith}
use Rattle.maker.proofs.Loops.{passing_start, passing_skip, passing_room, passing_more, passing_end}
use Rattle.maker.proofs.Draft.put_shown.Goals as goal

pub loop-r-init : goal.loop-r-init
loop-r-init c = (passing_start, refl)

pub loop-r-preserved-then-not-rule_adds : goal.loop-r-preserved-then-not-rule_adds
loop-r-preserved-then-not-rule_adds c =
    let inv = c.loop-r.invariant in
    (passing_skip inv.0 (omega (arith, c.rule_count-r-end.ensures)) (sym c.rule_adds.ensures ∙ c.if-not-rule_adds.true), inv.1)

pub loop-r-preserved : goal.loop-r-preserved
loop-r-preserved c =
    let inv = c.loop-r.invariant in
    let adding = sym c.rule_adds.ensures ∙ c.if-not-rule_adds.false in
    (passing_more inv.0 (omega (arith, c.rule_count-r-end.ensures)) adding (passing_room inv.0 (omega (arith, c.rule_count-r-end.ensures)) adding (rw (← inv.1) at c.requires)) c.head_at-head.ensures c.set_entry.ensures c.insert-self.ensures, inv.1)

pub returns : goal.returns
returns c =
    let inv = c.loop-r.invariant in
    let end = passing_end (rw inv.1 at inv.0) (omega (arith, c.rule_count-r-end.ensures)) refl in
    record { count = end.0; entries = end.1; truths = end.2; falses = inv.1; room = inv.0.as_long }
