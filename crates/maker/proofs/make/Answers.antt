use Rattle.std.proofs.Common.{◌≡◌, ◌∙◌, sym, ap, length, arith, rules}
use Rattle.std.proofs.Math.ListN.{length-replicate}
use Rattle.litset.specs.Words.{n_words, set_of}
use Rattle.litset.specs.declared.LitSet.{LitSet}
use Rattle.sheet.specs.Sheet.{max_sheet}
use Rattle.sheet.specs.Flat.{zeros}
use Rattle.sheet.specs.declared.Sheet.{Sheet}
use Rattle.sheet.specs.declared.SheetEntry.{SheetEntry}
use Rattle.maker.proofs.Rounds.{facts_fit, round_start, a_round, round_few, round_room, round_bound, round_next, round_fewer, round_found, round_none}
use Rattle.maker.proofs.make.Goals as goal

pub put_members-requires : goal.put_members-requires
put_members-requires c =
    let size : length c.args.facts.words ≡ n_words = search rules in
    let fit = facts_fit c.args.book.now c.args.facts.words size c.name_count-known.ensures in
    let long = ap (λ (s : Sheet). length s.entries) c.blank.ensures ∙ length-replicate {A = SheetEntry} max_sheet zeros in
    (fit.0, omega (arith, fit.1, long))

pub loop-facts-init : goal.loop-facts-init
loop-facts-init c =
    let size : length c.args.facts.words ≡ n_words = search rules in
    let put = c.put_members.ensures in
    let long = ap (λ (s : Sheet). length s.entries) c.blank.ensures ∙ length-replicate {A = SheetEntry} max_sheet zeros in (
      put.room ∙ long,
      round_start c.args.book.now c.args.facts.words size c.name_count-known.ensures c.from-unknown.ensures (ap (λ (s : LitSet). set_of s.words) put.truths ∙ c.difference.ensures)
          (ap (λ (s : LitSet). set_of s.words) put.falses ∙ c.empty.ensures) _ c.put_members.new.self.sheet.entries c.put_members.new.self.count put.entries,
    )

pub overflow_cast-number : goal.overflow_cast-number
overflow_cast-number c =
    let size : length c.args.facts.words ≡ n_words = search rules in
    let round = a_round c.args.book.now c.args.facts.words size c.name_count-known.ensures c.loop-facts.invariant.1 c.from-all.ensures c.from-unknown.ensures c.union.ensures c.gamma_s-derived.ensures c.difference-in-loop-facts.ensures c.difference-group.ensures in
    omega (arith, round.few, round_few round)

pub put_members-requires-in-loop-facts : goal.put_members-requires-in-loop-facts
put_members-requires-in-loop-facts c =
    let size : length c.args.facts.words ≡ n_words = search rules in
    let round = a_round c.args.book.now c.args.facts.words size c.name_count-known.ensures c.loop-facts.invariant.1 c.from-all.ensures c.from-unknown.ensures c.union.ensures c.gamma_s-derived.ensures c.difference-in-loop-facts.ensures c.difference-group.ensures in
    round_room round c.loop-facts.invariant.0

pub put_truths-requires : goal.put_truths-requires
put_truths-requires c =
    let size : length c.args.facts.words ≡ n_words = search rules in
    let round = a_round c.args.book.now c.args.facts.words size c.name_count-known.ensures c.loop-facts.invariant.1 c.from-all.ensures c.from-unknown.ensures c.union.ensures c.gamma_s-derived.ensures c.difference-in-loop-facts.ensures c.difference-group.ensures in
    let put = c.put_members-in-loop-facts.ensures in
    let grouped = c.put_members-in-loop-facts.new.self in
    let joined = rw put.falses at c.union-d.ensures in
    rw put.truths (round_bound round joined grouped.sheet.entries grouped.count put.entries (put.room ∙ c.loop-facts.invariant.0))

pub returns-then-claims : goal.returns-then-claims
returns-then-claims c =
    let size : length c.args.facts.words ≡ n_words = search rules in
    let round = a_round c.args.book.now c.args.facts.words size c.name_count-known.ensures c.loop-facts.invariant.1 c.from-all.ensures c.from-unknown.ensures c.union.ensures c.gamma_s-derived.ensures c.difference-in-loop-facts.ensures c.difference-group.ensures in
    let put = c.put_members-in-loop-facts.ensures in
    let grouped = c.put_members-in-loop-facts.new.self in
    let joined = rw put.falses at c.union-d.ensures in
    let last = c.put_truths.new.self in
    let shown = rw put.truths at c.put_truths.ensures.passes in
    round_found round joined grouped.sheet.entries grouped.count put.entries last.sheet.entries last.count shown c.name_count-known.ensures _ _ (rw c.put_truths.ensures.falses at (sym c.claims.ensures ∙ c.if-claims.true))

pub returns-then-done : goal.returns-then-done
returns-then-done c =
    let size : length c.args.facts.words ≡ n_words = search rules in
    let round = a_round c.args.book.now c.args.facts.words size c.name_count-known.ensures c.loop-facts.invariant.1 c.from-all.ensures c.from-unknown.ensures c.union.ensures c.gamma_s-derived.ensures c.difference-in-loop-facts.ensures c.difference-group.ensures in
    let put = c.put_members-in-loop-facts.ensures in
    let grouped = c.put_members-in-loop-facts.new.self in
    let joined = rw put.falses at c.union-d.ensures in
    let last = c.put_truths.new.self in
    let shown = rw put.truths at c.put_truths.ensures.passes in
    round_none round joined grouped.sheet.entries grouped.count put.entries last.sheet.entries last.count shown c.name_count-known.ensures _ _ (omega (arith, c.if-done.true)) (rw c.put_truths.ensures.falses at c.put_truths.ensures.last) (rw c.put_truths.ensures.falses at (sym c.claims.ensures ∙ c.if-claims.false))

pub loop-facts-smaller : goal.loop-facts-smaller
loop-facts-smaller c =
    let size : length c.args.facts.words ≡ n_words = search rules in
    let round = a_round c.args.book.now c.args.facts.words size c.name_count-known.ensures c.loop-facts.invariant.1 c.from-all.ensures c.from-unknown.ensures c.union.ensures c.gamma_s-derived.ensures c.difference-in-loop-facts.ensures c.difference-group.ensures in
    let put = c.put_members-in-loop-facts.ensures in
    let grouped = c.put_members-in-loop-facts.new.self in
    let joined = rw put.falses at c.union-d.ensures in
    let last = c.put_truths.new.self in
    let shown = rw put.truths at c.put_truths.ensures.passes in
    round_fewer round joined grouped.sheet.entries grouped.count put.entries last.sheet.entries last.count shown (omega (arith, put.count)) c.if-done.false

pub loop-facts-preserved : goal.loop-facts-preserved
loop-facts-preserved c =
    let size : length c.args.facts.words ≡ n_words = search rules in
    let round = a_round c.args.book.now c.args.facts.words size c.name_count-known.ensures c.loop-facts.invariant.1 c.from-all.ensures c.from-unknown.ensures c.union.ensures c.gamma_s-derived.ensures c.difference-in-loop-facts.ensures c.difference-group.ensures in
    let put = c.put_members-in-loop-facts.ensures in
    let grouped = c.put_members-in-loop-facts.new.self in
    let joined = rw put.falses at c.union-d.ensures in
    let last = c.put_truths.new.self in
    let shown = rw put.truths at c.put_truths.ensures.passes in
    (c.put_truths.ensures.room ∙ put.room ∙ c.loop-facts.invariant.0, rw c.put_truths.ensures.falses (round_next round joined grouped.sheet.entries grouped.count put.entries last.sheet.entries last.count shown))
