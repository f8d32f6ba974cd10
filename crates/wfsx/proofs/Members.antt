-- `members n S` lists the members of S below n and nothing else; its length adds up over parts.
use mathlib.Core.Path.{◌≡◌, refl, sym, ◌∙◌, ap, ap₂}
use mathlib.Core.Logic.{⊎_elim, ◌↔◌}
use mathlib.Core.Bool.{Bool, true, false, cond, ◌||◌}
use mathlib.Core.List.Memᴰ
use mathlib.Core.List.{List, [], ◌∷◌, ◌++◌}
use Prim.Native.Nat.{ℕ, zero, suc, ◌+◌, ◌≤◌, ◌<◌}
use native.Mathlib.Omega.{arith}
use native.Mathlib.Nat.{zero-lt-suc, zero-add, add-zero, suc-add}
use native.Mathlib.Decide.{ℕ_discrete}
use lib.Dec.{eqb}
use lib.ListN.{length, get_or}
use borrow.Author.Tests.{eq-eqb, eqb-true}
use Rattle.truth.proofs.Truth.{clash}
use Rattle.wfsx.specs.Sets.{Set, ◌∈◌, ◌∉◌, ◌∪◌, add, ◌is_in◌, members_from, members}
use Rattle.wfsx.proofs.Sets.{Apart}

-- ---- number by number

pub members_none : (S : Set) (b : ℕ) → members_from S b 0 ≡ []
unfolding members_from
members_none S b = refl

pub members_first : (S : Set) (b n : ℕ) → members_from S b (suc n) ≡ cond (S b) (b ∷ members_from S (suc b) n) (members_from S (suc b) n)
unfolding members_from
members_first S b n = refl

-- ---- what is listed

listed_only : (S : Set) (b n A : ℕ) → A is_in members_from S b n → (A ∈ S) × (b ≤ A) × (A < b + n)
unfolding members_from
listed_only S b zero A m = absurd (Memᴰ.not-nil m)
listed_only S b (suc n) A m = go (λ i. up (listed_only S (suc b) n A i)) (S b) refl m
  where
    up : (A ∈ S) × (suc b ≤ A) × (A < suc b + n) → (A ∈ S) × (b ≤ A) × (A < b + suc n)
    up r = let low = r.1 in let high = r.2 in (r.0, omega arith, omega arith)

    go : (A is_in members_from S (suc b) n → (A ∈ S) × (b ≤ A) × (A < b + suc n)) → (t : Bool) → S b ≡ t
        → A is_in cond t (b ∷ members_from S (suc b) n) (members_from S (suc b) n) → (A ∈ S) × (b ≤ A) × (A < b + suc n)
    go rest true e i = ⊎_elim (λ q. (ap S q ∙ e, omega arith, omega arith)) rest (Memᴰ.cases_cons i)
    go rest false e i = rest i

listed : (S : Set) (b n A : ℕ) → A ∈ S → b ≤ A → A < b + n → A is_in members_from S b n
unfolding members_from
listed S b zero A h low high = absurd (omega arith)
listed S b (suc n) A h low high = go (listed S (suc b) n A h) (ℕ_discrete A b)
  where
    later : (t : Bool) → A is_in members_from S (suc b) n → A is_in cond t (b ∷ members_from S (suc b) n) (members_from S (suc b) n)
    later true m = Memᴰ.tail m
    later false m = m

    go : (suc b ≤ A → A < suc b + n → A is_in members_from S (suc b) n) → Dec (A ≡ b)
        → A is_in cond (S b) (b ∷ members_from S (suc b) n) (members_from S (suc b) n)
    go rest (yes e) = rw (ap S (sym e) ∙ h) (Memᴰ.head e)
    go rest (no ne) = later (S b) (rest (omega arith) (omega arith))

pub members_are : (n : ℕ) (S : Set) (A : ℕ) → (A is_in members n S) ↔ ((A ∈ S) × (A < n))
members_are n S A =
    (λ m. let r = listed_only S 0 n A m in let high = r.2 in (r.0, omega arith), λ r. let high = r.1 in listed S 0 n A r.0 (omega arith) (omega arith))

-- each place of the list has a number in bounds
pub member_at : (S : Set) (b n i : ℕ) → i < length (members_from S b n) → get_or (members_from S b n) i 0 < b + n
unfolding members_from
member_at S b zero i h = absurd (omega arith)
member_at S b (suc n) i h = go (λ j k. let low = member_at S (suc b) n j k in omega arith) (S b) i h
  where
    go : ((j : ℕ) → j < length (members_from S (suc b) n) → get_or (members_from S (suc b) n) j 0 < b + suc n) → (t : Bool) (j : ℕ)
        → j < length (cond t (b ∷ members_from S (suc b) n) (members_from S (suc b) n))
        → get_or (cond t (b ∷ members_from S (suc b) n) (members_from S (suc b) n)) j 0 < b + suc n
    go rest true zero k = omega arith
    go rest true (suc j) k = rest j (omega arith)
    go rest false j k = rest j k

-- ---- how many are listed

pub length_none : (S : Set) (b : ℕ) → length (members_from S b 0) ≡ 0
unfolding members_from
length_none S b = refl

pub length_first : (S : Set) (b n : ℕ) → length (members_from S b (suc n)) ≡ cond (S b) 1 0 + length (members_from S (suc b) n)
unfolding members_from
length_first S b n = go (S b)
  where
    go : (t : Bool) → length (cond t (b ∷ members_from S (suc b) n) (members_from S (suc b) n)) ≡ cond t 1 0 + length (members_from S (suc b) n)
    go true = omega arith
    go false = omega arith

one_most : (t : Bool) → cond t 1 0 ≤ 1
one_most true = omega arith
one_most false = omega arith

pub length_most : (S : Set) (b n : ℕ) → length (members_from S b n) ≤ n
unfolding members_from
length_most S b zero = omega arith
length_most S b (suc n) = omega (arith, length_first S b n, one_most (S b), length_most S (suc b) n)

pub length_parts : (S : Set) (b m n : ℕ) → length (members_from S b (m + n)) ≡ length (members_from S b m) + length (members_from S (b + m) n)
unfolding members_from
length_parts S b zero n = simp (zero-add, add-zero)
length_parts S b (suc m) n =
    let turn : suc b + m ≡ b + suc m = omega arith in
    omega (
      arith,
      ap (λ (k : ℕ). length (members_from S b k)) (suc-add m n),
      length_first S b (m + n),
      length_parts S (suc b) m n,
      length_first S b m,
      ap (λ (k : ℕ). length (members_from S k n)) turn,
    )

-- the same tests from another start
pub length_moved : (S U : Set) (b c n : ℕ) → ((i : ℕ) → i < n → S (b + i) ≡ U (c + i)) → length (members_from S b n) ≡ length (members_from U c n)
unfolding members_from
length_moved S U b c zero e = refl
length_moved S U b c (suc n) e =
    let rest : (i : ℕ) → i < n → S (suc b + i) ≡ U (suc c + i) = λ i h. simp turn (e (suc i) (omega arith)) in
    length_first S b n ∙ ap₂ (λ (t : Bool) (k : ℕ). cond t 1 0 + k) (simp add-zero at (e 0 (zero-lt-suc n))) (length_moved S U (suc b) (suc c) n rest)
    ∙ sym (length_first U c n)
  where
    turn : (x i : ℕ) → suc x + i ≡ x + suc i
    turn x i = omega arith

-- ---- part by part

-- one number more at the end
pub members_last : (S : Set) (b n : ℕ) → members_from S b (n + 1) ≡ members_from S b n ++ cond (S (b + n)) ((b + n) ∷ []) []
unfolding members_from
members_last S b zero = let e : b + 0 ≡ b = omega arith in rw e refl
members_last S b (suc n) =
    let more : suc n + 1 ≡ suc (n + 1) = omega arith in
    let e : b + suc n ≡ suc b + n = omega arith in
    rw (more, e) (rw (members_last S (suc b) n) (there (members_from S (suc b) n) _ (S b)))
  where
    there : (l m : List ℕ) (t : Bool) → cond t (b ∷ (l ++ m)) (l ++ m) ≡ cond t (b ∷ l) l ++ m
    there l m true = refl
    there l m false = refl

-- ---- how many members of a set are below n: those of two sets apart add up, and one literal more makes one more

abbrev pub size_below : ℕ → Set → ℕ
size_below n S = length (members n S)

size_from : (S U : Set) → Apart U S → (b n : ℕ) → length (members_from (S ∪ U) b n) ≡ length (members_from S b n) + length (members_from U b n)
size_from S U d b zero = omega (arith, length_none (S ∪ U) b, length_none S b, length_none U b)
size_from S U d b (suc n) =
    omega (arith, length_first (S ∪ U) b n, length_first S b n, length_first U b n, size_from S U d (suc b) n, one (S b) (U b) (d b))
  where
    one : (s u : Bool) → (u ≡ true → s ≡ false) → cond (s || u) 1 0 ≡ cond s 1 0 + cond u 1 0
    one true true h = absurd (clash refl (h refl))
    one true false h = refl
    one false true h = refl
    one false false h = refl

pub size_apart : (n : ℕ) (S U : Set) → Apart U S → size_below n (S ∪ U) ≡ size_below n S + size_below n U
size_apart n S U d = size_from S U d 0 n

-- two sets that agree below n
members_same_from : (S U : Set) (b n : ℕ) → ((A : ℕ) → A < b + n → S A ≡ U A) → members_from S b n ≡ members_from U b n
unfolding members_from
members_same_from S U b zero h = refl
members_same_from S U b (suc n) h = rw (h b (omega arith), members_same_from S U (suc b) n (λ A l. h A (omega arith))) refl

pub members_same : (n : ℕ) (S U : Set) → ((A : ℕ) → A < n → S A ≡ U A) → members n S ≡ members n U
members_same n S U h = members_same_from S U 0 n (λ A l. h A (omega arith))

pub size_add : (n : ℕ) (S : Set) (A : ℕ) → A < n → A ∉ S → suc (size_below n S) ≤ size_below n (add A S)
size_add n S A h out =
    omega (arith, one_at_least (members n one) ((members_are n one A).1 (eq-eqb A A refl, h)), ap (size_below n) both, size_apart n one S (λ B b. other B b))
  where
    one : Set
    one B = eqb B A

    both : add A S ≡ one ∪ S
    both = refl

    other : (B : ℕ) → B ∈ S → eqb B A ≡ false
    other B b = go (eqb B A) refl
      where
        go : (t : Bool) → eqb B A ≡ t → t ≡ false
        go true e = absurd (clash b (ap S (eqb-true B A e) ∙ out))
        go false e = refl

    one_at_least : (l : List ℕ) → A is_in l → 1 ≤ length l
    one_at_least [] m = absurd (Memᴰ.not-nil m)
    one_at_least (x ∷ l) m = omega arith
