-- Laws of `rows`: the values one by one, how many there are, and what a loop over a table needs.
use mathlib.Core.Path.{◌≡◌, refl, ap, ◌∙◌}
use mathlib.Core.Logic.{◌↔◌}
use mathlib.Core.List.Memᴰ
use mathlib.Core.List.{[], ◌∷◌, ◌++◌, map}
use Prim.Native.Nat.{ℕ, zero, suc, ◌+◌, ◌-◌, ◌≤◌, ◌<◌}
use native.Mathlib.Decide.{ℕ_discrete}
use native.Mathlib.Omega.{arith}
use native.Mathlib.Numerals.{add-one}
use lib.ListN.{length, get_or}
use Rattle.wfsx.specs.Sets.{◌is_in◌}
use Rattle.book.specs.Book.{rows}

module _ {X : Type 0} (f : ℕ → X) where
  pub rows_none : (k : ℕ) → rows f k 0 ≡ []
  unfolding rows
  rows_none k = refl

  pub rows_first : (k n : ℕ) → rows f k (suc n) ≡ f k ∷ rows f (suc k) n
  unfolding rows
  rows_first k n = refl

  pub rows_length : (k n : ℕ) → length (rows f k n) ≡ n
  unfolding rows
  rows_length k zero = refl
  rows_length k (suc n) = ap suc (rows_length (suc k) n)

  pub row_at : (d : X) (k n i : ℕ) → i < n → get_or (rows f k n) i d ≡ f (k + i)
  unfolding rows
  row_at d k zero i h = absurd (omega arith)
  row_at d k (suc n) zero h = let e : k ≡ k + 0 = omega arith in ap f e
  row_at d k (suc n) (suc i) h =
      let e : suc k + i ≡ k + suc i = omega arith in
      row_at d (suc k) n i (omega arith) ∙ ap f e

module _ {X : Type 0} (f : ℕ → X) (k n : ℕ) where
  pub rows_step : k < n → rows f k (n - k) ≡ f k ∷ rows f (k + 1) (n - (k + 1))
  unfolding rows
  rows_step h =
      let more : n - k ≡ suc (n - (k + 1)) = omega arith in
      rw (more, add-one k)

  pub rows_end : n ≤ k → rows f k (n - k) ≡ []
  unfolding rows
  rows_end h =
      let none : n - k ≡ 0 = omega arith in
      rw none

-- values that are the same as far as they go
pub rows_same : {X : Type 0} (f g : ℕ → X) (k n : ℕ) → ((j : ℕ) → j < k + n → f j ≡ g j) → rows f k n ≡ rows g k n
unfolding rows
rows_same f g k zero h = refl
rows_same f g k (suc n) h = rw (h k (omega arith), rows_same f g (suc k) n (λ j l. h j (omega arith))) refl

-- one row more at the end
pub rows_last : {X : Type 0} (f : ℕ → X) (k n : ℕ) → rows f k (n + 1) ≡ rows f k n ++ (f (k + n) ∷ [])
unfolding rows
rows_last f k zero = let e : k ≡ k + 0 = omega arith in ap (λ (j : ℕ). f j ∷ []) e
rows_last f k (suc n) =
    let more : suc n + 1 ≡ suc (n + 1) = omega arith in
    let e : suc k + n ≡ k + suc n = omega arith in
    rw more (ap (λ l. f k ∷ l) (rows_last f (suc k) n ∙ ap (λ (j : ℕ). rows f (suc k) n ++ (f j ∷ [])) e))

-- ---- the numbers themselves in a row

pub rows_map : {X : Type 0} (f : ℕ → X) (k n : ℕ) → map f (rows (λ j. j) k n) ≡ rows f k n
unfolding rows
rows_map f k zero = refl
rows_map f k (suc n) = ap (λ l. f k ∷ l) (rows_map f (suc k) n)

in_row : (k n j : ℕ) → j is_in rows (λ i. i) k n → (k ≤ j) × (j < k + n)
unfolding rows
in_row k zero j m = absurd (Memᴰ.not-nil m)
in_row k (suc n) j (Memᴰ.head e) = (omega arith, omega arith)
in_row k (suc n) j (Memᴰ.tail m) = let w = in_row (suc k) n j m in (omega arith, omega arith)

row_has : (k n j : ℕ) → (k ≤ j) × (j < k + n) → j is_in rows (λ i. i) k n
unfolding rows
row_has k zero j w = absurd (omega arith)
row_has k (suc n) j w = go (ℕ_discrete j k) (row_has (suc k) n j)
  where
    go : Dec (j ≡ k) → ((suc k ≤ j) × (j < suc k + n) → j is_in rows (λ i. i) (suc k) n) → j is_in k ∷ rows (λ i. i) (suc k) n
    go (yes e) rest = Memᴰ.head e
    go (no e) rest = Memᴰ.tail (rest (omega arith, omega arith))

pub in_rows : (k n j : ℕ) → (j is_in rows (λ i. i) k n) ↔ ((k ≤ j) × (j < k + n))
in_rows k n j = (in_row k n j, row_has k n j)
