-- `word_from`: what the bytes that are left make behind the number so far is the word; the number lies below 256 to the count of its bytes.
use Rattle.std.proofs.Common.{◌≡◌, ◌<◌, ◌+◌, ◌-◌, ◌^◌}
use Rattle.scan.specs.Keys.{in_word, word_from}
use Rattle.scan.proofs.Keys.{word_left}
use Rattle.scan.proofs.word_from.Given as goal

abbrev pub invariant-loop-k : goal.invariant-loop-k
invariant-loop-k l = (l.w < 256 ^ (l.k - l.from)) × (word_left l.alphabet l.s l.w l.k (l.from + in_word) ≡ word_from l.alphabet l.from l.s)
