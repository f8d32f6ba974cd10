use Rattle.std.proofs.Common.{◌∙◌, sym}
use Rattle.fixpoint.proofs.Pass.{pass_there_shut}
use Rattle.fixpoint.proofs.Tables.{going_start, going_end, going_passed, going_fails, going_fires}
use Rattle.fixpoint.proofs.Numbered.add_heads.Goals as goal

pub loop-n-init : goal.loop-n-init
loop-n-init c = going_start _ c.union-done.ensures

pub loop-n-preserved-then-contains : goal.loop-n-preserved-then-contains
loop-n-preserved-then-contains c =
    going_passed c.loop-n.invariant c.loop-n-test.true c.from-r.ensures c.head_at-head.ensures (sym c.contains.ensures ∙ c.if-contains.true)

pub loop-n-preserved-then-not-body_holds : goal.loop-n-preserved-then-not-body_holds
loop-n-preserved-then-not-body_holds c =
    going_fails c.loop-n.invariant c.loop-n-test.true c.from-r.ensures (sym c.body_holds.ensures ∙ c.if-not-body_holds.true)

pub loop-n-preserved : goal.loop-n-preserved
loop-n-preserved c =
    going_fires c.loop-n.invariant c.loop-n-test.true c.from-r.ensures c.head_at-head.ensures (sym c.contains.ensures ∙ c.if-contains.false)
    (sym c.body_holds.ensures ∙ c.if-not-body_holds.false) c.insert-y.ensures c.insert-done.ensures

pub returns : goal.returns
returns c = going_end c.loop-n.invariant c.loop-n-test.false ∙ pass_there_shut _ _ _ _ _ _ c.union-done.ensures (λ A a. a)
