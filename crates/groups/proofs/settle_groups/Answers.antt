use mathlib.Core.Path.{sym, ◌∙◌}
use native.Mathlib.Nat.{le_of_eq}
use native.Mathlib.Omega.{arith}
use Rattle.groups.proofs.Loop.{before_start, before_next, before_end, next_fit, next_done}
use borrow.Author.Rules.{rules}
use Rattle.groups.proofs.settle_groups.Goals as goal

pub loop-p-init : goal.loop-p-init
loop-p-init c = (search rules, λ t. before_start t _ c.empty.ensures c.empty-2.ensures)

pub slice_bounds-gather-count : goal.slice_bounds-gather-count
slice_bounds-gather-count c = let further = (before_next c.requires (c.loop-p.invariant.1 c.requires) c.loop-p-test.true c.group_end-end.ensures).turn.further in omega arith

pub slice_bounds-gather-start : goal.slice_bounds-gather-start
slice_bounds-gather-start c = let further = (before_next c.requires (c.loop-p.invariant.1 c.requires) c.loop-p-test.true c.group_end-end.ensures).turn.further in omega arith

pub slice_bounds-gather-end-in-loop-p-2 : goal.slice_bounds-gather-end-in-loop-p-2
slice_bounds-gather-end-in-loop-p-2 c = (before_next c.requires (c.loop-p.invariant.1 c.requires) c.loop-p-test.true c.group_end-end.ensures).turn.inside

pub gather-count-requires : goal.gather-count-requires
gather-count-requires c = (next_fit _ (before_next c.requires (c.loop-p.invariant.1 c.requires) c.loop-p-test.true c.group_end-end.ensures), le_of_eq (sym c.loop-p.invariant.0))

pub slice_bounds-facts_for-count : goal.slice_bounds-facts_for-count
slice_bounds-facts_for-count c = let further = (before_next c.requires (c.loop-p.invariant.1 c.requires) c.loop-p-test.true c.group_end-end.ensures).turn.further in omega arith

pub slice_bounds-facts_for-start : goal.slice_bounds-facts_for-start
slice_bounds-facts_for-start c = let further = (before_next c.requires (c.loop-p.invariant.1 c.requires) c.loop-p-test.true c.group_end-end.ensures).turn.further in omega arith

pub slice_bounds-facts_for-end : goal.slice_bounds-facts_for-end
slice_bounds-facts_for-end c = (before_next c.requires (c.loop-p.invariant.1 c.requires) c.loop-p-test.true c.group_end-end.ensures).turn.inside

pub slice_bounds-numbers-end : goal.slice_bounds-numbers-end
slice_bounds-numbers-end c = let got = c.gather-count.ensures in omega (arith, got.size, got.fits)

pub loop-p-smaller : goal.loop-p-smaller
loop-p-smaller c =
    let here = (before_next c.requires (c.loop-p.invariant.1 c.requires) c.loop-p-test.true c.group_end-end.ensures).turn in
    omega (arith, here.further, here.inside)

pub loop-p-preserved : goal.loop-p-preserved
loop-p-preserved c = (
  c.gather-count.ensures.size ∙ c.loop-p.invariant.0,
  λ t. next_done t (before_next t (c.loop-p.invariant.1 t) c.loop-p-test.true c.group_end-end.ensures) c.gather-count.ensures.whole c.facts_for-own.ensures c.settle_group-v.ensures,
)

pub returns : goal.returns
returns c = λ t. before_end t (c.loop-p.invariant.1 t) c.loop-p-test.false
