use Rattle.std.proofs.Common.{rules, arith, ℕ, ◌≡◌, ◌≤◌, ◌*◌, ◌∙◌, length, get_or, ap, take_all, Fits, w64}
use lib.Count.{ones, ones-le}
use Rattle.wfsx.specs.Sets.{members}
use Rattle.litset.specs.Words.{n_words, set_of}
use Rattle.litset.proofs.Ones.{ones_of, ones_of_more, ones_are_members}
use Rattle.litset.proofs.LitSet.count.Goals as goal

-- a word has at most 64 ones
few : (w : ℕ) → Fits w64 w → ones w ≤ 64
few w fit = ones-le 64 w fit.fits

pub loop-word-init : goal.loop-word-init
unfolding ones_of
loop-word-init c = search rules

pub overflow_add-n : goal.overflow_add-n
overflow_add-n c = omega (arith, few (get_or c.args.self.words c.loop-word.word-index 0) (search rules))

pub loop-word-preserved : goal.loop-word-preserved
loop-word-preserved c =
    let ws = c.args.self.words in
    let i = c.loop-word.word-index in
    let size : length ws ≡ n_words = search rules in
    (omega (arith, few (get_or ws i 0) (search rules)), omega (arith, ones_of_more ws i (omega arith)))

pub returns : goal.returns
returns c =
    let ws = c.args.self.words in
    let size : length ws ≡ n_words = search rules in
    let fit : (k : ℕ) → Fits w64 (get_or ws k 0) = λ k. search rules in
    c.loop-word.invariant.1 ∙ ap ones_of (take_all c.loop-word.word-index ws (omega arith)) ∙ ones_are_members ws (λ k. (fit k).fits)
    ∙ ap (λ (n : ℕ). length (members (64 * n) (set_of ws))) size
