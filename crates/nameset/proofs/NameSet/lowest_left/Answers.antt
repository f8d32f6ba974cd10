use Rattle.std.proofs.Common.{rules, arith, ◌≡◌, length, Fits, w64}
use mathlib.Core.Path.{sym, ◌∙◌}
use mathlib.Core.Bool.{true≢false}
use Rattle.truth.proofs.Truth.{refuted, and_l}
use Rattle.litset.proofs.Words.{member_below, left_word, left_bit}
use Rattle.nameset.specs.Names.{name_words}
use Rattle.nameset.proofs.Names.{none_here, lowest_here}
use Rattle.nameset.proofs.NameSet.lowest_left.Goals as goal

pub loop-i-init : goal.loop-i-init
loop-i-init c = λ k h. absurd (omega arith)

pub returns-then-left-ne0 : goal.returns-then-left-ne0
returns-then-left-ne0 c =
    let a = c.args.self.words in
    let b = c.args.other.words in
    let i = c.loop-i.i in
    let is : c.word_left-left.result ≡ left_word a b i = c.word_left-left.ensures in
    let fit : Fits w64 c.word_left-left.result = search rules in
    rw is (lowest_here _ (left_word a b) (left_bit a b) i c.loop-i.invariant (rw is at fit.fits) (λ z. c.if-left-ne0.true (is ∙ z)))

pub loop-i-preserved : goal.loop-i-preserved
loop-i-preserved c =
    let a = c.args.self.words in
    let b = c.args.other.words in
    none_here _ (left_word a b) (left_bit a b) c.loop-i.i c.loop-i.invariant (sym c.word_left-left.ensures ∙ c.if-left-ne0.false)

pub returns : goal.returns
returns c =
    let a = c.args.self.words in
    let size : length a ≡ name_words = search rules in
    λ k. refuted (λ m. absurd (true≢false (sym m ∙ c.loop-i.invariant k (omega (arith, member_below a k (and_l _ _ m), size)))))
