-- A list parted into pieces, by places: what stands from a place on.
use mathlib.Core.Path.{◌≡◌, refl, sym, ap, ◌∙◌}
use mathlib.Core.Bool.{Bool, true, false, cond}
use mathlib.Core.List.{List, [], ◌∷◌}
use Prim.Native.Nat.{ℕ, zero, suc, ◌+◌, ◌-◌, ◌≤◌, ◌<◌, zero-le, suc-le-suc}
use native.Mathlib.Nat.{not-suc-le-zero, le_of_suc-le-suc, zero-add, suc-add}
use native.Mathlib.Omega.{arith}
use native.Mathlib.Numerals.{add-one}
use lib.ListN.{length, get_or, take, drop, length-drop, drop_of_length-le}
use lib.Seq.{drop-cons, take_all}
use lib.Dec.{leb, eqb, leb-zero, leb-suc-suc}
use borrow.Author.Tests.{eq-eqb, ne_eqb, le-leb, lt-leb, leb-true}
use Rattle.scan.specs.Text.{onto, split, len_to, rest}

-- what is left at i is the element there and what is left at i + 1
pub left_at : (s : List ℕ) (i : ℕ) → i < length s → drop i s ≡ get_or s i 0 ∷ drop (i + 1) s
left_at s i h = rw (add-one, drop-cons s i 0)

-- ---- the end of a piece

module _ (stop : ℕ) (s : List ℕ) (i : ℕ) where
  pub len_to_here : i < length s → get_or s i 0 ≡ stop → len_to stop (drop i s) ≡ 0
  unfolding len_to
  len_to_here h e = simp (left_at s i h, eq-eqb (get_or s i 0) stop e)

  pub len_to_more : i < length s → (get_or s i 0 ≡ stop → ⊥) → len_to stop (drop i s) ≡ suc (len_to stop (drop (i + 1) s))
  unfolding len_to
  len_to_more h e = simp (left_at s i h, ne_eqb (get_or s i 0) stop e)

  pub len_to_end : length s ≤ i → len_to stop (drop i s) ≡ 0
  unfolding len_to
  len_to_end h = rw (drop_of_length-le s h)

-- ---- the pieces byte by byte

module _ (stop : ℕ) where
  pub split_none : split stop [] ≡ [] ∷ []
  unfolding split
  split_none = refl

  module _ (x : ℕ) (xs : List ℕ) where
    pub split_stop : eqb x stop ≡ true → split stop (x ∷ xs) ≡ [] ∷ split stop xs
    unfolding split
    split_stop e = rw e

    pub split_byte : eqb x stop ≡ false → split stop (x ∷ xs) ≡ onto x (split stop xs)
    unfolding split
    split_byte e = rw e

-- ---- how many pieces

length_onto : (x : ℕ) (l : List (List ℕ)) → 0 < length l → length (onto x l) ≡ length l
length_onto x [] h = absurd (not-suc-le-zero h)
length_onto x (p ∷ ps) h = refl

some_pick : (t : Bool) (x : ℕ) (l : List (List ℕ)) → 0 < length l → 0 < length (cond t ([] ∷ l) (onto x l))
some_pick true x l h = suc-le-suc zero-le
some_pick false x l h = omega (arith, length_onto x l h)

pub split_some : (stop : ℕ) (s : List ℕ) → 0 < length (split stop s)
unfolding split
split_some stop [] = suc-le-suc zero-le
split_some stop (x ∷ xs) = some_pick (eqb x stop) x (split stop xs) (split_some stop xs)

module _ (stop : ℕ) (s : List ℕ) (i : ℕ) where
  pub split_here : i < length s → get_or s i 0 ≡ stop → length (split stop (drop i s)) ≡ suc (length (split stop (drop (i + 1) s)))
  unfolding split
  split_here h e = simp (left_at s i h, eq-eqb (get_or s i 0) stop e)

  pub split_more : i < length s → (get_or s i 0 ≡ stop → ⊥) → length (split stop (drop i s)) ≡ length (split stop (drop (i + 1) s))
  unfolding split
  split_more h e =
      simp (left_at s i h, ne_eqb (get_or s i 0) stop e) (length_onto (get_or s i 0) (split stop (drop (i + 1) s)) (split_some stop (drop (i + 1) s)))

  pub split_end : length s ≤ i → length (split stop (drop i s)) ≡ 1
  unfolding split
  split_end h = rw (drop_of_length-le s h)

-- ---- the pieces one by one

pub rest_here : (stop : ℕ) (l : List ℕ) (p : ℕ) → p ≤ length l → rest stop l p ≡ split stop (drop p l)
rest_here stop l p h = rw (le-leb p (length l) h)

pub rest_none : (stop : ℕ) (l : List ℕ) (p : ℕ) → length l < p → rest stop l p ≡ []
rest_none stop l p h = rw (lt-leb p (length l) h)

rest_suc : (stop x : ℕ) (xs : List ℕ) (k : ℕ) → rest stop (x ∷ xs) (suc k) ≡ rest stop xs k
rest_suc stop x xs k = rw (leb-suc-suc k (length xs))

split_tail : (stop x : ℕ) (xs : List ℕ) (t : Bool) → eqb x stop ≡ t → split stop xs ≡ take (len_to stop xs) xs ∷ rest stop xs (suc (len_to stop xs))
    → split stop (x ∷ xs) ≡ take (len_to stop (x ∷ xs)) (x ∷ xs) ∷ rest stop (x ∷ xs) (suc (len_to stop (x ∷ xs)))
unfolding split len_to
split_tail stop x xs true e ih = simp (e, rest_suc stop x xs 0, leb-zero (length xs))
split_tail stop x xs false e ih = simp (e, ih, rest_suc stop x xs (suc (len_to stop xs)))

-- the pieces are what stands before the first stop, and the pieces from the place after it
pub split_first : (stop : ℕ) (l : List ℕ) → split stop l ≡ take (len_to stop l) l ∷ rest stop l (suc (len_to stop l))
unfolding split len_to
split_first stop [] = refl
split_first stop (x ∷ xs) = split_tail stop x xs (eqb x stop) refl (split_first stop xs)

rest_drop : (stop : ℕ) (l : List ℕ) (p q : ℕ) → p ≤ length l → rest stop (drop p l) q ≡ rest stop l (p + q)
rest_drop stop l zero q h = rw (zero-add q)
rest_drop stop [] (suc p) q h = absurd (omega arith)
rest_drop stop (x ∷ xs) (suc p) q h =
    rest_drop stop xs p q (le_of_suc-le-suc h) ∙ sym (rest_suc stop x xs (p + q)) ∙ ap (rest stop (x ∷ xs)) (sym (suc-add p q))

-- a loop over the pieces: at p begins a piece that ends at e, and the next one begins at e + 1
pub rest_step : (stop : ℕ) (l : List ℕ) (p e : ℕ) → p ≤ length l → e ≡ p + len_to stop (drop p l) → rest stop l p ≡ take (e - p) (drop p l) ∷ rest stop l (e + 1)
rest_step stop l p e h q =
    let k : e - p ≡ len_to stop (drop p l) = omega arith in
    let n : e + 1 ≡ p + suc (len_to stop (drop p l)) = omega arith in
    rest_here stop l p h ∙ split_first stop (drop p l) ∙ simp (k, n, rest_drop stop l p (suc (len_to stop (drop p l))) h)

within : (stop : ℕ) (l : List ℕ) (p : ℕ) (t : Bool) → leb p (length l) ≡ t → 0 < length (cond t (split stop (drop p l)) []) → p ≤ length l
within stop l p true e h = leb-true p (length l) e
within stop l p false e h = absurd (not-suc-le-zero h)

-- where there is a piece from p on, p is within the list
pub rest_within : (stop : ℕ) (l : List ℕ) (p : ℕ) → 0 < length (rest stop l p) → p ≤ length l
rest_within stop l p h = within stop l p (leb p (length l)) refl h

-- the pieces of what stands from p on are the pieces from p on
pub rest_part : (stop : ℕ) (l : List ℕ) (p : ℕ) → p ≤ length l → split stop (take (length l - p) (drop p l)) ≡ rest stop l p
rest_part stop l p h = ap (split stop) (take_all (length l - p) (drop p l) (omega (arith, length-drop p l))) ∙ sym (rest_here stop l p h)

-- one piece is the whole
pub split_one : (stop : ℕ) (s : List ℕ) → length (split stop s) ≡ 1 → split stop s ≡ s ∷ []
split_one stop [] h = split_none stop
split_one stop (x ∷ xs) h = go (split_one stop xs) (eqb x stop) refl
  where
    go : (length (split stop xs) ≡ 1 → split stop xs ≡ xs ∷ []) → (t : Bool) → eqb x stop ≡ t → split stop (x ∷ xs) ≡ (x ∷ xs) ∷ []
    go ih true e = absurd (omega (arith, ap length (split_stop stop x xs e), split_some stop xs))
    go ih false e =
        let grown = split_byte stop x xs e in
        grown ∙ ap (onto x) (ih (omega (arith, ap length grown, length_onto x (split stop xs) (split_some stop xs))))
