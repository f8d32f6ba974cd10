-- Laws of the bits of one number.
use mathlib.Core.Path.{◌≡◌, refl, sym, ap, ◌∙◌}
use mathlib.Core.Bool.{Bool, true, false, not, ◌&&◌, ◌||◌, true≢false, false≢true}
use Prim.Native.Nat.{ℕ, zero, suc, ◌+◌, ◌-◌, ◌*◌, ◌/◌, ◌%◌, ◌^◌, ◌≤◌, ◌<◌}
use native.Mathlib.Nat.{mod-lt, zero-lt-suc, zero-div, div-one, div_self, div-eq_of_lt, mul-mod_left, pow-suc, one-mul}
use native.Mathlib.Decide.{dec_lt}
use native.Mathlib.Numerals.{add-one}
use native.Mathlib.Omega.{arith}
use lib.Bits.{bit_and, bit_or, bit_xor, and_shr, and_mod, or_shr, or_mod, xor_shr, xor_mod}
use lib.Arith.{lt-one}
use lib.Pow.{pow_pos, pow-lt, pow-add, shl_exact, shl-shr, shr-shr, shr_lt}
use lib.Dec.{eqb}
use Rattle.litset.specs.Words.{bit}

-- 1 << k loses nothing in 64 bits
pub one_shl : (k : ℕ) → k < 64 → (1 * 2 ^ k) % 2 ^ 64 ≡ 2 ^ k
one_shl k h = shl_exact {a = 1} 1 k 64 (omega arith) (omega arith) ∙ one-mul (2 ^ k)

-- ---- an operation that goes digit by digit does so at each bit

module _ (op : ℕ → ℕ → ℕ) (f : Bool → Bool → Bool)
    (shr : (a b k : ℕ) → op a b / 2 ^ k ≡ op (a / 2 ^ k) (b / 2 ^ k))
    (low : (a b k : ℕ) → op a b % 2 ^ k ≡ op (a % 2 ^ k) (b % 2 ^ k))
    (digit : (x y : ℕ) → x < 2 → y < 2 → eqb (op x y) 1 ≡ f (eqb x 1) (eqb y 1)) where
  op_bit : (a b j : ℕ) → bit (op a b) j ≡ f (bit a j) (bit b j)
  op_bit a b j =
      ap (λ (x : ℕ). eqb (x % 2) 1) (shr a b j) ∙ ap (λ (x : ℕ). eqb x 1) (low (a / 2 ^ j) (b / 2 ^ j) 1)
      ∙ digit (a / 2 ^ j % 2) (b / 2 ^ j % 2) (mod-lt _ (zero-lt-suc 1)) (mod-lt _ (zero-lt-suc 1))

-- a statement of two digits holds where it holds of 0 and 1
digits : (Q : ℕ → ℕ → Type 0) → Q 0 0 → Q 0 1 → Q 1 0 → Q 1 1 → (x y : ℕ) → x < 2 → y < 2 → Q x y
digits Q a b c d zero zero h l = a
digits Q a b c d zero (suc zero) h l = b
digits Q a b c d zero (suc (suc y)) h l = absurd (omega arith)
digits Q a b c d (suc zero) zero h l = c
digits Q a b c d (suc zero) (suc zero) h l = d
digits Q a b c d (suc zero) (suc (suc y)) h l = absurd (omega arith)
digits Q a b c d (suc (suc x)) y h l = absurd (omega arith)

pub or_bit : (a b j : ℕ) → bit (bit_or a b) j ≡ (bit a j || bit b j)
or_bit = op_bit bit_or ◌||◌ or_shr or_mod (digits (λ x y. eqb (bit_or x y) 1 ≡ (eqb x 1 || eqb y 1)) refl refl refl refl)

pub and_bit : (a b j : ℕ) → bit (bit_and a b) j ≡ (bit a j && bit b j)
and_bit = op_bit bit_and ◌&&◌ and_shr and_mod (digits (λ x y. eqb (bit_and x y) 1 ≡ (eqb x 1 && eqb y 1)) refl refl refl refl)

-- w with the bits of m cleared
abbrev pub clear : ℕ → ℕ → ℕ
clear w m = bit_xor (bit_or w m) m

pub clear_bit : (a b j : ℕ) → bit (clear a b) j ≡ (bit a j && not (bit b j))
clear_bit =
    op_bit clear (λ p q. p && not q)
    (λ a b k. xor_shr (bit_or a b) b k ∙ ap (λ (x : ℕ). bit_xor x (b / 2 ^ k)) (or_shr a b k))
    (λ a b k. xor_mod (bit_or a b) b k ∙ ap (λ (x : ℕ). bit_xor x (b % 2 ^ k)) (or_mod a b k))
    (digits (λ x y. eqb (clear x y) 1 ≡ (eqb x 1 && not (eqb y 1))) refl refl refl refl)

-- ---- a power of two has one bit

pub bit_zero : (k : ℕ) → bit 0 k ≡ false
bit_zero k = ap (λ (x : ℕ). eqb (x % 2) 1) (zero-div (2 ^ k))

pub pow_same : (k : ℕ) → bit (2 ^ k) k ≡ true
pow_same k = ap (λ (x : ℕ). eqb (x % 2) 1) (div_self (pow_pos k))

pow_above : (m j : ℕ) → bit (2 ^ (suc m + j)) j ≡ false
pow_above m j =
    ap (λ (x : ℕ). eqb (x / 2 ^ j % 2) 1) (pow-add 2 (suc m) j) ∙ ap (λ (x : ℕ). eqb (x % 2) 1) (shl-shr (2 ^ suc m) j ∙ pow-suc 2 m)
    ∙ ap (λ (x : ℕ). eqb x 1) (mul-mod_left (2 ^ m) 2)

pub pow_other : (k j : ℕ) → (j ≡ k → ⊥) → bit (2 ^ k) j ≡ false
pow_other k j ne = go (dec_lt k j)
  where
    higher : (j ≡ k → ⊥) → j ≤ k → k ≡ suc (k - j - 1) + j
    higher q h = omega arith

    go : Dec (k < j) → bit (2 ^ k) j ≡ false
    go (yes h) = ap (λ (x : ℕ). eqb (x % 2) 1) (div-eq_of_lt (pow-lt h))
    go (no h) = ap (λ (n : ℕ). bit (2 ^ n) j) (higher ne (omega arith)) ∙ pow_above (k - j - 1) j

-- ---- two numbers with the same bits are equal

pub bit_half : (a j : ℕ) → bit (a / 2) j ≡ bit a (1 + j)
bit_half a j = ap (λ (x : ℕ). eqb (x % 2) 1) (shr-shr a 1 j)

same_digit : (x y : ℕ) → x < 2 → y < 2 → eqb x 1 ≡ eqb y 1 → x ≡ y
same_digit = digits (λ x y. eqb x 1 ≡ eqb y 1 → x ≡ y) (λ e. refl) (λ e. absurd (false≢true e)) (λ e. absurd (true≢false e)) (λ e. refl)

pub same_bits : (k a b : ℕ) → a < 2 ^ k → b < 2 ^ k → ((j : ℕ) → j < k → bit a j ≡ bit b j) → a ≡ b
same_bits zero a b ha hb e = lt-one ha ∙ sym (lt-one hb)
same_bits (suc k) a b ha hb e =
    let half : (n : ℕ) → n < 2 ^ suc k → n / 2 < 2 ^ k = λ n h. shr_lt k 1 (rw (add-one k) h) in
    let low : a % 2 ≡ b % 2 = same_digit (a % 2) (b % 2) (mod-lt _ (zero-lt-suc 1)) (mod-lt _ (zero-lt-suc 1)) (simp div-one at (e 0 (zero-lt-suc k))) in
    let high : a / 2 ≡ b / 2 = same_bits k (a / 2) (b / 2) (half a ha) (half b hb) (λ j h. bit_half a j ∙ e (1 + j) (omega arith) ∙ sym (bit_half b j)) in
    omega arith
