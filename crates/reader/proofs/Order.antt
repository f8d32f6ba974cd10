-- The first of several tests that is true gives the number of the first condition that is met, where each test decides its condition. A number that
-- stands in one row only is given exactly under that row's condition and none before it.
use mathlib.Core.Path.{◌≡◌, refl, sym, ◌∙◌}
use mathlib.Core.Logic.{inl, inr, ◌↔◌}
use mathlib.Core.Bool.{Bool, true, false, not, ◌&&◌}
use mathlib.Core.List.{List, [], ◌∷◌, ◌++◌}
use Prim.Native.Nat.{ℕ, ◌≤◌}
use native.Mathlib.Omega.{arith}
use lib.Dec.{eqb, leb}
use borrow.Author.Tests.{leb-true, eqb-false, not-true}
use Rattle.truth.proofs.Truth.{clash, and_l, and_r}
use Rattle.reader.specs.File.{◌when◌else◌}
use Rattle.reader.specs.Conditions.{Row, None, First, ◌unless◌}

-- m is 0 and no condition is met, or m is the number that the rows give
pub data Gives (m : ℕ) (rs : List Row) : Type 0 where
  no_row : m ≡ 0 → None rs → Gives m rs
  some_row : First m rs → Gives m rs

pub gives_row : (n m : ℕ) (b : Bool) {P : Type 0} {rs : List Row} → ((b ≡ true) ↔ P) → (b ≡ false → Gives m rs) → Gives (n when b else m) ((n, P) ∷ rs)
gives_row n m true d rest = some_row (inl (refl, d.0 refl))
gives_row n m false {P} {rs} d rest = go (rest refl)
  where
    not_met : P → ⊥
    not_met p = clash (d.1 p) refl

    go : Gives m rs → Gives m ((n, P) ∷ rs)
    go (no_row z r) = no_row z (not_met, r)
    go (some_row f) = some_row (inr (not_met, f))

pub not_both : (k : ℕ) (rs : List Row) → First k rs → None rs → ⊥
not_both k [] f n = f
not_both k (r ∷ rs) (inl f) n = n.0 f.1
not_both k (r ∷ rs) (inr f) n = not_both k rs f.1 n.1

pub first_one : (k m : ℕ) (rs : List Row) → First k rs → First m rs → k ≡ m
first_one k m [] f g = absurd f
first_one k m (r ∷ rs) (inl f) (inl g) = f.0 ∙ sym g.0
first_one k m (r ∷ rs) (inl f) (inr g) = absurd (g.0 f.1)
first_one k m (r ∷ rs) (inr f) (inl g) = absurd (f.0 g.1)
first_one k m (r ∷ rs) (inr f) (inr g) = first_one k m rs f.1 g.1

-- ---- the numbers of rows

-- all numbers are low to high
abbrev pub numbers_in : ℕ → ℕ → List Row → Bool
numbers_in low high [] = true
numbers_in low high (r ∷ rs) = leb low r.0 && leb r.0 high && numbers_in low high rs

pub first_between : (low high k : ℕ) (rs : List Row) → numbers_in low high rs ≡ true → First k rs → (low ≤ k) × (k ≤ high)
first_between low high k [] b f = absurd f
first_between low high k (r ∷ rs) b (inl f) =
    let here = and_l (leb low r.0 && leb r.0 high) (numbers_in low high rs) b in
    rw f.0 (leb-true low r.0 (and_l (leb low r.0) (leb r.0 high) here), leb-true r.0 high (and_r (leb low r.0) (leb r.0 high) here))
first_between low high k (r ∷ rs) b (inr f) =
    first_between low high k rs (and_r (leb low r.0 && leb r.0 high) (numbers_in low high rs) b) f.1

module _ (m : ℕ) (rs : List Row) (numbers : numbers_in 1 9 rs ≡ true) (g : Gives m rs) where
  pub gives_none : (m ≡ 0) ↔ None rs
  gives_none = (there g, back g)
    where
      there : Gives m rs → m ≡ 0 → None rs
      there (no_row z n) e = n
      there (some_row f) e = let h = (first_between 1 9 m rs numbers f).0 in absurd (omega arith)

      back : Gives m rs → None rs → m ≡ 0
      back (no_row z n) r = z
      back (some_row f) r = absurd (not_both m rs f r)

  pub gives_first : (k : ℕ) → First k rs → m ≡ k
  gives_first k f = go g
    where
      go : Gives m rs → m ≡ k
      go (no_row z n) = absurd (not_both k rs f n)
      go (some_row h) = first_one m k rs h f

  pub gives_some : (m ≡ 0 → ⊥) → First m rs
  gives_some h = go g
    where
      go : Gives m rs → First m rs
      go (no_row z n) = absurd (h z)
      go (some_row f) = f

-- no row has the number k
abbrev pub absent : ℕ → List Row → Bool
absent k [] = true
absent k (r ∷ rs) = not (eqb k r.0) && absent k rs

other_number : (k : ℕ) (r : Row) (rs : List Row) → absent k (r ∷ rs) ≡ true → k ≡ r.0 → ⊥
other_number k r rs b e = eqb-false k r.0 (not-true (eqb k r.0) (and_l (not (eqb k r.0)) (absent k rs) b)) e

absent_rest : (k : ℕ) (r : Row) (rs : List Row) → absent k (r ∷ rs) ≡ true → absent k rs ≡ true
absent_rest k r rs b = and_r (not (eqb k r.0)) (absent k rs) b

pub first_absent : (k : ℕ) (rs : List Row) → absent k rs ≡ true → First k rs → ⊥
first_absent k [] b f = f
first_absent k (r ∷ rs) b (inl f) = other_number k r rs b f.0
first_absent k (r ∷ rs) b (inr f) = first_absent k rs (absent_rest k r rs b) f.1

-- P, and none of the conditions of the rows
abbrev pub Unless : List Row → Type 0 → Type 0
Unless [] P = P
Unless (r ∷ rs) P = Unless rs P unless r.1

module _ (k : ℕ) (P : Type 0) (rest : List Row) (last : absent k rest ≡ true) where
  pub first_row : (earlier : List Row) → absent k earlier ≡ true → First k (earlier ++ (k, P) ∷ rest) ↔ Unless earlier P
  first_row [] b = (go, λ p. inl (refl, p))
    where
      go : First k ((k, P) ∷ rest) → P
      go (inl f) = f.1
      go (inr f) = absurd (first_absent k rest last f.1)
  first_row (r ∷ rs) b = (go (first_row rs (absent_rest k r rs b)), λ u. inr (u.0, (first_row rs (absent_rest k r rs b)).1 u.1))
    where
      go : (First k (rs ++ (k, P) ∷ rest) ↔ Unless rs P) → First k (r ∷ (rs ++ (k, P) ∷ rest)) → Unless (r ∷ rs) P
      go d (inl f) = absurd (other_number k r rs b f.0)
      go d (inr f) = (f.0, d.0 f.1)
