use Rattle.std.proofs.Common.{rules, arith, ◌∙◌, ap₂}
use Rattle.wfsx.specs.Sets.{◌∖◌}
use Rattle.nameset.proofs.Names.{copied_none, copied_more, copied_below}
use Rattle.nameset.proofs.NameSet.below.Goals as goal

pub loop-i-init : goal.loop-i-init
loop-i-init c = copied_none _ _ (search rules)

pub loop-i-preserved : goal.loop-i-preserved
loop-i-preserved c = copied_more _ _ _ c.loop-i.invariant (omega arith)

pub returns : goal.returns
returns c = copied_below _ _ _ _ c.loop-i.invariant (omega arith) (c.difference-numbers.ensures ∙ ap₂ ◌∖◌ c.from.ensures c.from-2.ensures)
