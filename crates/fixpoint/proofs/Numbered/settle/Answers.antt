use Rattle.std.proofs.Common.{rules, arith}
use mathlib.Core.Path.{◌≡◌, sym, ◌∙◌}
use mathlib.Core.Bool.{true≢false}
use lib.ListN.{length}
use Rattle.litset.specs.Words.{n_words}
use Rattle.litset.proofs.Words.{member_room}
use Rattle.fixpoint.proofs.Growth.{round_start, round_inside, round_more, round_falls, round_end}
use Rattle.fixpoint.proofs.Numbered.settle.Goals as goal

pub loop-facts-init : goal.loop-facts-init
loop-facts-init c = round_start _ _ _ c.requires

pub gamma_above-m-requires : goal.gamma_above-m-requires
gamma_above-m-requires c = round_inside _ _ _ c.loop-facts.invariant c.gamma_seminormal-n.ensures

pub returns-then-equal : goal.returns-then-equal
returns-then-equal c =
    let inv = c.loop-facts.invariant in
    let same = c.equal.ensures.0 c.if-equal.true in
    let found = round_end _ _ _ inv c.gamma_seminormal-n.ensures c.gamma_above-m.ensures same in
    record { reached = found.0; still = found.1; nonfalse = found.2; first = inv.first }

pub overflow_add-rounds : goal.overflow_add-rounds
overflow_add-rounds c =
    let within = c.loop-facts.invariant.within in
    omega arith

pub loop-facts-smaller : goal.loop-facts-smaller
loop-facts-smaller c =
    let ws = c.gamma_above-m.result.words in
    let size : length ws ≡ n_words = search rules in
    round_falls _ _ _ c.loop-facts.invariant c.gamma_seminormal-n.ensures c.gamma_above-m.ensures (member_room ws size)
    (λ same. true≢false (sym (c.equal.ensures.1 same) ∙ c.if-equal.false))

pub loop-facts-preserved : goal.loop-facts-preserved
loop-facts-preserved c =
    let ws = c.gamma_above-m.result.words in
    let size : length ws ≡ n_words = search rules in
    round_more _ _ _ c.loop-facts.invariant c.gamma_seminormal-n.ensures c.gamma_above-m.ensures (member_room ws size)
    (λ same. true≢false (sym (c.equal.ensures.1 same) ∙ c.if-equal.false))
