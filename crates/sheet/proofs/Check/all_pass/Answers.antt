use Rattle.sheet.proofs.Entries.{passing_all, passing_more, passing_fails}
use Rattle.sheet.proofs.Check.all_pass.Goals as goal

pub returns-then-not-passes : goal.returns-then-not-passes
returns-then-not-passes c = passing_fails c.loop-k.invariant c.loop-k-test.true c.entry_of-e.ensures c.from.ensures c.passes.ensures c.if-not-passes.true

pub loop-k-preserved : goal.loop-k-preserved
loop-k-preserved c = passing_more c.loop-k.invariant c.loop-k-test.true c.entry_of-e.ensures c.from.ensures c.passes.ensures c.if-not-passes.false

pub returns : goal.returns
returns c = passing_all c.loop-k.invariant c.loop-k-test.false
