-- No name before k has the key.
use Rattle.std.proofs.Common.{ℕ, ◌≡◌, ◌<◌, false}
use Rattle.scan.specs.Keys.{same_key}
use Rattle.keys.specs.Numbers.{key_in_numbers}
use Rattle.keys.proofs.numbers.first_with.Given as goal

abbrev pub invariant-loop-k : goal.invariant-loop-k
invariant-loop-k l = (i : ℕ) → i < l.k → same_key (key_in_numbers l.keys i) l.key ≡ false
