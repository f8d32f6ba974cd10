use Rattle.std.proofs.Common.{◌∙◌, sym, arith}
use Rattle.litset.proofs.Words.{member_room}
use Rattle.sheet.proofs.Tables.{passed_there, passed_fails, passed_adds, passed_open}
use Rattle.sheet.proofs.Check.left_open.Goals.{then-contains-via-then-contains, then-contains-via-else-contains+then-not-body_as}
use Rattle.sheet.proofs.Check.left_open.Goals as goal

pub loop-r-preserved-then-contains : goal.loop-r-preserved-then-contains
loop-r-preserved-then-contains c =
    elim c.then-contains.branch [
      | then-contains-via-then-contains w ↦ passed_there c.loop-r.invariant (omega (arith, c.rule_count-r-end.ensures)) c.head_at-head.ensures (sym c.contains.ensures ∙ w.if-contains.true)
      | then-contains-via-else-contains+then-not-body_as w ↦ passed_fails c.loop-r.invariant (omega (arith, c.rule_count-r-end.ensures)) (sym w.body_as.ensures ∙ w.if-not-body_as.true)
    ]

pub loop-r-preserved : goal.loop-r-preserved
loop-r-preserved c =
    passed_adds c.loop-r.invariant (omega (arith, c.rule_count-r-end.ensures)) c.head_at-head.ensures (sym c.body_as.ensures ∙ c.if-not-body_as.false) c.insert-done.ensures

pub returns : goal.returns
returns c =
    passed_open _ (member_room c.args.self.now.facts.words c.args.self.now.sized) c.complements-shut.ensures c.union-done.ensures c.loop-r.invariant (omega (arith, c.rule_count-r-end.ensures)) c.difference.ensures
