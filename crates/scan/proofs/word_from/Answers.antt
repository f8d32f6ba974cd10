use Rattle.std.proofs.Common.{ℕ, arith, ◌≡◌, ◌≤◌, ◌+◌, ◌-◌, ◌*◌, ◌∙◌, ap, sym, suc, length}
use native.Mathlib.Decide.{dec_le}
use Rattle.scan.specs.Keys.{in_word, word_from}
use Rattle.scan.proofs.Keys.{word_left, word_begins, word_step_lem, word_ends, word_past, packed_fits, packed_grow}
use Rattle.scan.proofs.word_from.Goals as goal

pub loop-k-init : goal.loop-k-init
loop-k-init c =
    let none : c.args.from - c.args.from ≡ 0 = omega arith in
    (rw none (omega arith), word_begins c.args.alphabet c.args.s.now c.args.from)

pub overflow_mul-w : goal.overflow_mul-w
overflow_mul-w c = omega (arith, packed_fits c.loop-k.w (c.loop-k.k - c.args.from) c.loop-k.invariant.0 (omega arith))

pub overflow_add-w : goal.overflow_add-w
overflow_add-w c = omega (arith, packed_fits c.loop-k.w (c.loop-k.k - c.args.from) c.loop-k.invariant.0 (omega arith))

pub loop-k-preserved : goal.loop-k-preserved
loop-k-preserved c =
    let a = c.args in
    let at = c.loop-k in
    let seen = c.from.ensures ∙ c.counts_as.ensures in
    let next : at.k + 1 - a.from ≡ suc (at.k - a.from) = omega arith in (
      rw next (packed_grow at.w c.from.result (at.k - a.from) at.invariant.0 (omega arith)),
      ap (λ (b : ℕ). word_left a.alphabet a.s.now (256 * at.w + b) (at.k + 1) (a.from + in_word)) seen
          ∙ sym (word_step_lem a.alphabet a.s.now at.w at.k (a.from + in_word) (omega arith) (omega arith)) ∙ at.invariant.1,
    )

pub returns : goal.returns
returns c = go (dec_le (length c.args.s.now) c.loop-k.k)
  where
    go : Dec (length c.args.s.now ≤ c.loop-k.k) → c.loop-k.w ≡ word_from c.args.alphabet c.args.from c.args.s.now
    go (yes h) = sym (word_past c.args.alphabet c.args.s.now c.loop-k.w c.loop-k.k (c.args.from + in_word) h) ∙ c.loop-k.invariant.1
    go (no n) = sym (word_ends c.args.alphabet c.args.s.now c.loop-k.w c.loop-k.k (c.args.from + in_word) (omega arith)) ∙ c.loop-k.invariant.1
