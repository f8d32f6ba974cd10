-- A count that is read is at most its table's size, and is the count itself where it fits.
use mathlib.Core.Path.{◌≡◌}
use Prim.Native.Nat.{ℕ, ◌≤◌}
use native.Mathlib.Omega.{arith}
use Rattle.book.specs.Book.{clamp}

pub clamp_most : (most n : ℕ) → clamp most n ≤ most
clamp_most most n = omega arith

pub clamp_least : (most n : ℕ) → n ≤ most → clamp most n ≡ n
clamp_least most n h = omega arith
