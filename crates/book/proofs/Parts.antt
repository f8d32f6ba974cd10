-- Laws of a part of a table, from place j to place t: what a loop over the body of a rule needs.
use mathlib.Core.Path.{◌≡◌}
use mathlib.Core.List.{List, [], ◌∷◌}
use Prim.Native.Nat.{ℕ, suc, ◌+◌, ◌-◌, ◌≤◌, ◌<◌, min}
use native.Mathlib.Decide.{dec_lt}
use native.Mathlib.Numerals.{add-one}
use native.Mathlib.Omega.{arith}
use lib.ListN.{length, take, drop, get_or, drop_of_length-le}
use lib.Seq.{take-nil, drop-cons}

module _ (l : List ℕ) (j t : ℕ) where
  pub part_step : j < t → j < length l → take (t - j) (drop j l) ≡ get_or l j 0 ∷ take (t - (j + 1)) (drop (j + 1) l)
  part_step h k =
      let more : t - j ≡ suc (t - (j + 1)) = omega arith in
      rw (more, drop-cons l j 0, add-one)

  pub part_end : min t (length l) ≤ j → take (t - j) (drop j l) ≡ []
  part_end h = go (dec_lt j t)
    where
      go : Dec (j < t) → take (t - j) (drop j l) ≡ []
      go (yes k) =
          let past : length l ≤ j = omega arith in
          rw (drop_of_length-le l past) (take-nil (t - j))
      go (no k) =
          let over : t - j ≡ 0 = omega arith in
          rw over
