-- Laws of tests over bytes, and of two lists with the same bytes.
use mathlib.Core.Path.{◌≡◌, refl, sym, ap}
use mathlib.Core.Bool.{Bool, true, ◌&&◌, true≢false}
use mathlib.Core.List.{List, [], ◌∷◌}
use Prim.Native.Nat.{ℕ}
use lib.Dec.{eqb}
use borrow.Author.Tests.{eq-eqb, eqb-true}
use Rattle.std.specs.List.{list_all}
use Rattle.truth.proofs.Truth.{and_l, and_r}
use Rattle.scan.specs.Text.{all_bytes, same_bytes}

-- ---- every byte

module _ (f : ℕ → Bool) where
  pub bytes_none : all_bytes f [] ≡ true
  unfolding all_bytes
  bytes_none = refl

  pub bytes_first : (x : ℕ) (xs : List ℕ) → all_bytes f (x ∷ xs) ≡ (f x && all_bytes f xs)
  unfolding all_bytes
  bytes_first x xs = refl

  -- the test of every byte is the library's of every element
  pub bytes_are : (xs : List ℕ) → list_all f xs ≡ all_bytes f xs
  unfolding all_bytes
  bytes_are [] = refl
  bytes_are (x ∷ xs) = ap (λ (b : Bool). f x && b) (bytes_are xs)

-- ---- the same bytes

pub same_refl : (a : List ℕ) → same_bytes a a ≡ true
unfolding same_bytes
same_refl [] = refl
same_refl (x ∷ xs) = rw (eq-eqb x x refl, same_refl xs)

pub same_equal : (a b : List ℕ) → same_bytes a b ≡ true → a ≡ b
unfolding same_bytes
same_equal [] [] e = refl
same_equal [] (y ∷ ys) e = absurd (true≢false (sym e))
same_equal (x ∷ xs) [] e = absurd (true≢false (sym e))
same_equal (x ∷ xs) (y ∷ ys) e =
    cc (eqb-true x y (and_l (eqb x y) (same_bytes xs ys) e), same_equal xs ys (and_r (eqb x y) (same_bytes xs ys) e))
