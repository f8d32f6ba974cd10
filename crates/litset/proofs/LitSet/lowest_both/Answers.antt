use Rattle.std.proofs.Common.{rules, arith, ◌≡◌, ◌*◌, ◌+◌, ◌/◌, ◌∙◌, length, get_or, sym, Fits, w64, Some, None}
use lib.Count.{count_trailing_zeros}
use Rattle.litset.specs.Words.{n_words, set_of}
use Rattle.litset.specs.Steps.{pairs}
use Rattle.litset.proofs.Words.{member_room}
use Rattle.litset.proofs.Names.{none_here, lowest_here}
use Rattle.litset.proofs.Clashes.{clash_is}
use Rattle.litset.proofs.LitSet.lowest_both.Goals as goal

pub loop-i-init : goal.loop-i-init
loop-i-init c = λ n h b. omega arith

pub returns-then-pairs-ne0 : goal.returns-then-pairs-ne0
returns-then-pairs-ne0 c =
    let ws = c.args.self.words in
    let i = c.loop-i.i in
    let is : c.pairs_in-pairs.result ≡ pairs (get_or ws i 0) = c.pairs_in-pairs.ensures in
    let fit : Fits w64 (get_or ws i 0) = search rules in
    let size : length ws ≡ n_words = search rules in
    clash_is (set_of ws) (member_room ws size) (Some (32 * i + count_trailing_zeros 64 c.pairs_in-pairs.result / 2))
    (rw is (lowest_here ws i c.loop-i.invariant fit.fits (λ z. c.if-pairs-ne0.true (is ∙ z))))

pub loop-i-preserved : goal.loop-i-preserved
loop-i-preserved c = none_here c.args.self.words c.loop-i.i c.loop-i.invariant (sym c.pairs_in-pairs.ensures ∙ c.if-pairs-ne0.false)

pub returns : goal.returns
returns c =
    let ws = c.args.self.words in
    let size : length ws ≡ n_words = search rules in
    clash_is (set_of ws) (member_room ws size) None
    (λ n b. c.loop-i.invariant n (omega (arith, member_room ws size (2 * n) b.0)) b)
