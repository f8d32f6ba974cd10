-- A number's digits are those of its tenth and one more, whatever bound they are counted within. Each is a byte from 48 to 57.
use mathlib.Core.Path.{◌≡◌, sym, ap, ◌∙◌}
use mathlib.Core.Bool.{true, false}
use mathlib.Core.Logic.{◌⊎◌, inl, inr, ⊎_elim}
use mathlib.Core.List.Memᴰ
use mathlib.Core.List.{List, [], ◌∷◌, ◌++◌}
use Prim.Native.Nat.{ℕ, zero, suc, ◌+◌, ◌/◌, ◌%◌, ◌^◌, ◌≤◌, ◌<◌}
use native.Mathlib.Nat.{pow-suc, div-lt_iff_lt-mul}
use native.Mathlib.Omega.{arith}
use lib.Dec.{ltb}
use lib.ListN.{length, length-append}
use borrow.Author.Tests.{ltb-true, ltb-false, lt-ltb, le-ltb}
use Rattle.wfsx.specs.Sets.{◌is_in◌}
use Rattle.truth.proofs.Truth.{decided}
use Rattle.lister.specs.Listing.{last_digits, digits}

module _ (k n : ℕ) where
  last_few : n < 10 → last_digits (suc k) n ≡ (48 + n) ∷ []
  unfolding last_digits
  last_few h = rw (lt-ltb n 10 h)

  last_more : 10 ≤ n → last_digits (suc k) n ≡ last_digits k (n / 10) ++ ((48 + n % 10) ∷ [])
  unfolding last_digits
  last_more h = rw (le-ltb n 10 h)

-- the bound adds nothing where it is above the number
enough : (k j n : ℕ) → n < k → n < j → last_digits k n ≡ last_digits j n
enough zero j n h l = absurd (omega arith)
enough (suc k) zero n h l = absurd (omega arith)
enough (suc k) (suc j) n h l = go (λ a b. enough k j (n / 10) a b) (decided (ltb n 10))
  where
    go : (n / 10 < k → n / 10 < j → last_digits k (n / 10) ≡ last_digits j (n / 10)) → (ltb n 10 ≡ true) ⊎ (ltb n 10 ≡ false) → last_digits (suc k) n ≡ last_digits (suc j) n
    go same (inl e) = let few = ltb-true n 10 e in last_few k n few ∙ sym (last_few j n few)
    go same (inr e) =
        let more = ltb-false n 10 e in
        last_more k n more ∙ ap (λ (ds : List ℕ). ds ++ ((48 + n % 10) ∷ [])) (same (omega arith) (omega arith)) ∙ sym (last_more j n more)

module _ (n : ℕ) where
  pub digits_few : n < 10 → digits n ≡ (48 + n) ∷ []
  unfolding digits
  digits_few h = last_few n n h

  pub digits_more : 10 ≤ n → digits n ≡ digits (n / 10) ++ ((48 + n % 10) ∷ [])
  unfolding digits
  digits_more h =
      last_more n n h ∙ ap (λ (ds : List ℕ). ds ++ ((48 + n % 10) ∷ [])) (enough n (suc (n / 10)) (n / 10) (omega arith) (omega arith))

  pub digits_one_more : 10 ≤ n → length (digits n) ≡ length (digits (n / 10)) + 1
  digits_one_more h = ap length (digits_more h) ∙ length-append (digits (n / 10)) ((48 + n % 10) ∷ [])

-- a number below a power of ten has no more digits than its exponent
pub digits_most : (k n : ℕ) → n < 10 ^ suc k → length (digits n) ≤ suc k
digits_most zero n h = rw (digits_few n h) (omega arith)
digits_most (suc k) n h = go (λ l. digits_most k (n / 10) l) (decided (ltb n 10))
  where
    go : (n / 10 < 10 ^ suc k → length (digits (n / 10)) ≤ suc k) → (ltb n 10 ≡ true) ⊎ (ltb n 10 ≡ false) → length (digits n) ≤ suc (suc k)
    go most (inl e) = rw (digits_few n (ltb-true n 10 e)) (omega arith)
    go most (inr e) =
        let shorter : n / 10 < 10 ^ suc k = (div-lt_iff_lt-mul {k = 10} {x = n} {y = 10 ^ suc k} (omega arith)).1 (rw (pow-suc 10 (suc k)) at h) in
        omega (arith, digits_one_more n (ltb-false n 10 e), most shorter)

last_bytes : (k n b : ℕ) → b is_in last_digits k n → (48 ≤ b) × (b ≤ 57)
unfolding last_digits
last_bytes zero n b m = absurd (Memᴰ.not-nil m)
last_bytes (suc k) n b m = go (last_bytes k (n / 10) b) (decided (ltb n 10))
  where
    go : (b is_in last_digits k (n / 10) → (48 ≤ b) × (b ≤ 57)) → (ltb n 10 ≡ true) ⊎ (ltb n 10 ≡ false) → (48 ≤ b) × (b ≤ 57)
    go before (inl e) =
        let few = ltb-true n 10 e in
        let one = Memᴰ.eq_of_singleton (rw (last_few k n few) at m) in
        (omega arith, omega arith)
    go before (inr e) =
        ⊎_elim before (λ i. let one = Memᴰ.eq_of_singleton i in (omega arith, omega arith))
        (Memᴰ.append_cases (last_digits k (n / 10)) (rw (last_more k n (ltb-false n 10 e)) at m))

pub digit_bytes : (n b : ℕ) → b is_in digits n → (48 ≤ b) × (b ≤ 57)
unfolding digits
digit_bytes n b m = last_bytes (suc n) n b m
