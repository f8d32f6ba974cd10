-- Laws of the look-up of a name. The same name is found at the same place; a name that is not found is found behind the names
-- once it has joined them.
use mathlib.Core.Path.{◌≡◌, refl, sym, ap, ◌∙◌}
use mathlib.Core.Bool.{Bool, true, false}
use mathlib.Core.List.{List, [], ◌∷◌, ◌++◌}
use Prim.Native.Nat.{ℕ, suc, ◌+◌, ◌-◌, ◌≤◌, ◌<◌}
use native.Mathlib.Omega.{arith}
use native.Mathlib.Nat.{add-zero}
use native.Mathlib.Numerals.{add-one}
use lib.ListN.{length}
use Rattle.scan.specs.Text.{SameName, same_name}
use Rattle.scan.specs.declared.Alphabet.{Alphabet}
use Rattle.scan.proofs.Names.{same_decides, same_self, same_test}
use Rattle.book.specs.Book.{rows, find_from}
use Rattle.std.specs.Prelude.{None, Some}
use Rattle.book.proofs.Rows.{rows_step, rows_end}

-- ---- a name among names

Some≢None : {i : ℕ} → Some i ≡ None → ⊥
Some≢None e = let z : ◌≡◌ {A = ℕ} 0 1 = cc in omega arith

module _ (α : Alphabet) where
  module _ (k : ℕ) (name : List ℕ) where
    pub find_none : find_from α k name [] ≡ None
    unfolding find_from
    find_none = refl

    module _ (m : List ℕ) (ms : List (List ℕ)) where
      pub find_first : same_name α m name ≡ true → find_from α k name (m ∷ ms) ≡ Some k
      unfolding find_from
      find_first e = rw e

      pub find_later : same_name α m name ≡ false → find_from α k name (m ∷ ms) ≡ find_from α (suc k) name ms
      unfolding find_from
      find_later e = rw e

  -- a name that is found has a number below the count of names
  pub found_below : (k : ℕ) (n : List ℕ) (names : List (List ℕ)) (i : ℕ) → find_from α k n names ≡ Some i → i < k + length names
  found_below k n [] i e = absurd (Some≢None (sym e ∙ find_none k n))
  found_below k n (m ∷ ms) i e = go (found_below (suc k) n ms i) (same_name α m n) refl e
    where
      go : (find_from α (suc k) n ms ≡ Some i → i < suc k + length ms) → (t : Bool) → same_name α m n ≡ t → find_from α k n (m ∷ ms) ≡ Some i → i < k + suc (length ms)
      go rest true p q =
          let here : Some k ≡ Some i = sym (find_first k n m ms p) ∙ q in
          let number : k ≡ i = cc in
          omega arith
      go rest false p q = let later = rest (sym (find_later k n m ms p) ∙ q) in omega arith

  module _ (n : List ℕ) where
    -- the same name is found at the same place
    pub find_same : (m : List ℕ) (k : ℕ) (names : List (List ℕ)) → SameName α n m → find_from α k n names ≡ find_from α k m names
    unfolding find_from
    find_same m k [] e = refl
    find_same m k (l ∷ ls) e = rw (same_test α l n m e, find_same m (suc k) ls e)

    -- a name that is found is found among more names
    pub find_kept : (k i : ℕ) (names more : List (List ℕ)) → find_from α k n names ≡ Some i → find_from α k n (names ++ more) ≡ Some i
    find_kept k i [] more e = absurd (Some≢None (sym e ∙ find_none k n))
    find_kept k i (m ∷ ms) more e = go (find_kept (suc k) i ms more) (same_name α m n) refl
      where
        go : (find_from α (suc k) n ms ≡ Some i → find_from α (suc k) n (ms ++ more) ≡ Some i) → (t : Bool) → same_name α m n ≡ t → find_from α k n (m ∷ ms ++ more) ≡ Some i
        go rest true p = find_first k n m (ms ++ more) p ∙ sym (find_first k n m ms p) ∙ e
        go rest false p = find_later k n m (ms ++ more) p ∙ rest (sym (find_later k n m ms p) ∙ e)

    -- a name that is not found is found behind the names where it has joined them
    pub find_joined : (k : ℕ) (names : List (List ℕ)) → find_from α k n names ≡ None → find_from α k n (names ++ (n ∷ [])) ≡ Some (k + length names)
    find_joined k [] e = find_first k n n [] ((same_decides α n n).1 (same_self α n)) ∙ ap Some (sym (add-zero k))
    find_joined k (m ∷ ms) e = go (find_joined (suc k) ms) (same_name α m n) refl
      where
        next : ℕ
        next = suc k + length ms

        go : (find_from α (suc k) n ms ≡ None → find_from α (suc k) n (ms ++ (n ∷ [])) ≡ Some next) → (t : Bool) → same_name α m n ≡ t
            → find_from α k n (m ∷ ms ++ (n ∷ [])) ≡ Some (k + suc (length ms))
        go rest true p = absurd (Some≢None (sym (find_first k n m ms p) ∙ e))
        go rest false p =
            let place : next ≡ k + suc (length ms) = omega arith in
            find_later k n m (ms ++ (n ∷ [])) p ∙ rest (sym (find_later k n m ms p) ∙ e) ∙ ap Some place

  -- for a loop over the names that has come to name k of n
  module _ (f : ℕ → List ℕ) (name : List ℕ) (k n : ℕ) where
    pub find_hit : k < n → same_name α (f k) name ≡ true → find_from α k name (rows f k (n - k)) ≡ Some k
    find_hit h e = rw (rows_step f k n h) (find_first k name _ _ e)

    pub find_miss : k < n → same_name α (f k) name ≡ false → find_from α k name (rows f k (n - k)) ≡ find_from α (k + 1) name (rows f (k + 1) (n - (k + 1)))
    find_miss h e = rw (rows_step f k n h, find_later k name _ _ e, add-one)

    pub find_end : n ≤ k → find_from α k name (rows f k (n - k)) ≡ None
    find_end h = rw (rows_end f k n h) (find_none k name)
