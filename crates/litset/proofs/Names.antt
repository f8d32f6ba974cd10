-- The two literals of a name stand at an even bit and the next. So a word with each such pair of bits exchanged is the word of the complements, and
-- the lowest even bit that is set in a word and in the word moved down by one is that of the lowest name with both literals.
use mathlib.Core.Path.{◌≡◌, refl, sym, ap, ap₂, ◌∙◌, fun_ext}
use mathlib.Core.Bool.{Bool, true, false, ◌&&◌, ◌||◌, and-false, and-true, or-false}
use mathlib.Core.List.{List}
use Prim.Native.Nat.{ℕ, zero, suc, ◌+◌, ◌-◌, ◌*◌, ◌/◌, ◌%◌, ◌^◌, ◌<◌}
use native.Mathlib.Nat.{div-one, mul-mod_left}
use native.Mathlib.Decide.{dec_lt, ℕ_discrete}
use native.Mathlib.Omega.{arith}
use lib.Bits.{bit_and, and_le_r}
use lib.Count.{count_trailing_zeros, under}
use lib.Dec.{eqb}
use lib.ListN.{get_or}
use lib.Pow.{shl_exact, shl-shr, shr-shr}
use borrow.Author.Tests.{eqb-true}
use Rattle.truth.proofs.Truth.{clash, and_l, and_r, and_intro}
use Rattle.wfsx.specs.Program.{compl, complements}
use Rattle.wfsx.specs.Model.{Both}
use Rattle.wfsx.proofs.Program.{compl_plain, compl_negated}
use Rattle.litset.specs.Words.{bit, set_of, LowestBoth}
use Rattle.litset.specs.Steps.{plain, exchange, pairs}
use Rattle.litset.proofs.Bit.{or_bit, and_bit, bit_zero, bit_half, same_bits}

-- ---- the bits of the names

-- a test that passes at each number below n, computed
unfoldable pub all_below : ℕ → (ℕ → Bool) → Bool
all_below zero f = true
all_below (suc n) f = f n && all_below n f

pub each_below : (n : ℕ) (f : ℕ → Bool) → all_below n f ≡ true → (k : ℕ) → k < n → f k ≡ true
unfolding all_below
each_below zero f e k h = absurd (omega arith)
each_below (suc n) f e k h = go (ℕ_discrete k n) (each_below n f (and_r (f n) (all_below n f) e) k)
  where
    go : Dec (k ≡ n) → (k < n → f k ≡ true) → f k ≡ true
    go (yes q) rest = ap f q ∙ and_l (f n) (all_below n f) e
    go (no q) rest = rest (omega arith)

plain_at : (j : ℕ) → j < 64 → plain / 2 ^ j % 2 ≡ (j + 1) % 2
unfolding all_below
plain_at j h = eqb-true (plain / 2 ^ j % 2) ((j + 1) % 2) (each_below 64 (λ k. eqb (plain / 2 ^ k % 2) ((k + 1) % 2)) refl j h)

plain_even : (j : ℕ) → j < 64 → j % 2 ≡ 0 → bit plain j ≡ true
plain_even j h e = let one : (j + 1) % 2 ≡ 1 = omega arith in ap (λ (x : ℕ). eqb x 1) (plain_at j h ∙ one)

plain_odd : (j : ℕ) → j < 64 → (j % 2 ≡ 0 → ⊥) → bit plain j ≡ false
plain_odd j h n = let none : (j + 1) % 2 ≡ 0 = omega arith in ap (λ (x : ℕ). eqb x 1) (plain_at j h ∙ none)

-- ---- the complements

-- a word moved up by one place
up_none : (x : ℕ) → bit (x * 2 ^ 1) 0 ≡ false
up_none x = ap (λ (y : ℕ). eqb (y % 2) 1) (div-one (x * 2 ^ 1)) ∙ ap (λ (y : ℕ). eqb y 1) (mul-mod_left x 2)

up_bit : (x j : ℕ) → bit (x * 2 ^ 1) (1 + j) ≡ bit x j
up_bit x j = ap (λ (y : ℕ). eqb (y % 2) 1) (sym (shr-shr (x * 2 ^ 1) 1 j) ∙ ap (λ (y : ℕ). y / 2 ^ j) (shl-shr x 1))

-- the plain bits moved up lose nothing in 64 bits
plain_up : (w : ℕ) → bit_and w plain * 2 ^ 1 % 2 ^ 64 ≡ bit_and w plain * 2 ^ 1
plain_up w = shl_exact 63 1 64 (omega (arith, and_le_r w plain)) (omega arith)

exchange_bit : (w j : ℕ) → j < 64 → bit (exchange w) j ≡ bit w (compl j)
exchange_bit w j h =
    or_bit (bit_and (w / 2 ^ 1) plain) (bit_and w plain * 2 ^ 1 % 2 ^ 64) j
    ∙ ap₂ ◌||◌ (and_bit (w / 2 ^ 1) plain j) (ap (λ (x : ℕ). bit x j) (plain_up w)) ∙ go (ℕ_discrete (j % 2) 0)
  where
    -- no plain bit moves up to an even place
    not_even : (i : ℕ) → i < 64 → i % 2 ≡ 0 → bit (bit_and w plain * 2 ^ 1) i ≡ false
    not_even zero l e = up_none (bit_and w plain)
    not_even (suc i) l e =
        let place : suc i ≡ 1 + i = omega arith in
        ap (bit (bit_and w plain * 2 ^ 1)) place ∙ up_bit (bit_and w plain) i ∙ and_bit w plain i ∙ rw (plain_odd i (omega arith) (λ q. omega arith)) (and-false (bit w i))

    from_below : (i : ℕ) → i < 64 → (i % 2 ≡ 0 → ⊥) → bit (bit_and w plain * 2 ^ 1) i ≡ bit w (i - 1)
    from_below zero l n = absurd (n refl)
    from_below (suc i) l n =
        let place : suc i ≡ 1 + i = omega arith in
        let back : suc i - 1 ≡ i = omega arith in
        ap (bit (bit_and w plain * 2 ^ 1)) place ∙ up_bit (bit_and w plain) i ∙ and_bit w plain i
        ∙ rw (plain_even i (omega arith) (omega arith), back) (and-true (bit w i))

    go : Dec (j % 2 ≡ 0) → ((bit (w / 2 ^ 1) j && bit plain j) || bit (bit_and w plain * 2 ^ 1) j) ≡ bit w (compl j)
    go (yes e) =
        let next : 1 + j ≡ j + 1 = omega arith in
        rw (not_even j h e, plain_even j h e, compl_plain j e) (or-false _ ∙ and-true _ ∙ bit_half w j ∙ ap (bit w) next)
    go (no n) = rw (from_below j h n, plain_odd j h n, compl_negated j n, and-false (bit (w / 2 ^ 1) j)) refl

pub set_complements : (ws vs : List ℕ) → ((k : ℕ) → get_or vs k 0 ≡ exchange (get_or ws k 0)) → set_of vs ≡ complements (set_of ws)
unfolding set_of
set_complements ws vs words =
    fun_ext (λ l.
    ap (λ (w : ℕ). bit w (l % 64)) (words (l / 64)) ∙ exchange_bit (get_or ws (l / 64) 0) (l % 64) (omega arith)
    ∙ ap₂ (λ (k j : ℕ). bit (get_or ws k 0) j) (sym (same_word l (ℕ_discrete (l % 2) 0))) (sym (same_place l (ℕ_discrete (l % 2) 0))))
  where
    same_word : (l : ℕ) → Dec (l % 2 ≡ 0) → compl l / 64 ≡ l / 64
    same_word l (yes e) = rw (compl_plain l e) (omega arith)
    same_word l (no n) = rw (compl_negated l n) (omega arith)

    same_place : (l : ℕ) → Dec (l % 2 ≡ 0) → compl l % 64 ≡ compl (l % 64)
    same_place l (yes e) = let even : l % 64 % 2 ≡ 0 = omega arith in rw (compl_plain l e, compl_plain (l % 64) even) (omega arith)
    same_place l (no n) = let odd : l % 64 % 2 ≡ 0 → ⊥ = λ e. omega arith in rw (compl_negated l n, compl_negated (l % 64) odd) (omega arith)

-- ---- the lowest bit

-- no bit below the trailing zeros is set
pub below_trailing : (k w j : ℕ) → j < count_trailing_zeros k w → bit w j ≡ false
unfolding count_trailing_zeros
below_trailing zero w j h = absurd (omega arith)
below_trailing (suc k) w j h = go (w % 2) refl (below_trailing k (w / 2)) j h
  where
    go : (d : ℕ) → w % 2 ≡ d → ((i : ℕ) → i < count_trailing_zeros k (w / 2) → bit (w / 2) i ≡ false) → (i : ℕ) → i < under d (count_trailing_zeros k (w / 2)) → bit w i ≡ false
    go zero e rest zero l = ap (λ (x : ℕ). eqb (x % 2) 1) (div-one w) ∙ ap (λ (x : ℕ). eqb x 1) e
    go zero e rest (suc i) l = let place : suc i ≡ 1 + i = omega arith in ap (bit w) place ∙ sym (bit_half w i) ∙ rest i (omega arith)
    go (suc d) e rest i l = absurd (omega arith)

-- and the next one is, if there is one
pub at_trailing : (k w : ℕ) → count_trailing_zeros k w < k → bit w (count_trailing_zeros k w) ≡ true
unfolding count_trailing_zeros
at_trailing zero w h = absurd (omega arith)
at_trailing (suc k) w h = go (w % 2) refl (at_trailing k (w / 2)) h
  where
    go : (d : ℕ) → w % 2 ≡ d → (count_trailing_zeros k (w / 2) < k → bit (w / 2) (count_trailing_zeros k (w / 2)) ≡ true) → under d (count_trailing_zeros k (w / 2)) < suc k
        → bit w (under d (count_trailing_zeros k (w / 2))) ≡ true
    go zero e rest l =
        let t = count_trailing_zeros k (w / 2) in
        let place : suc t ≡ 1 + t = omega arith in
        ap (bit w) place ∙ sym (bit_half w t) ∙ rest (omega arith)
    go (suc d) e rest l = let one : w % 2 ≡ 1 = omega arith in ap (λ (x : ℕ). eqb (x % 2) 1) (div-one w) ∙ ap (λ (x : ℕ). eqb x 1) one

pub some_bit : (k w : ℕ) → w < 2 ^ k → (w ≡ 0 → ⊥) → count_trailing_zeros k w < k
some_bit k w fits some = go (dec_lt (count_trailing_zeros k w) k)
  where
    go : Dec (count_trailing_zeros k w < k) → count_trailing_zeros k w < k
    go (yes h) = h
    go (no h) = absurd (some (same_bits k w 0 fits (omega (arith, fits)) (λ j l. below_trailing k w j (omega arith) ∙ sym (bit_zero j))))

-- ---- the lowest name with both literals

pairs_even : (w j : ℕ) → j < 64 → j % 2 ≡ 0 → bit (pairs w) j ≡ (bit w j && bit w (1 + j))
pairs_even w j h e = and_bit (bit_and w (w / 2 ^ 1)) plain j ∙ rw (plain_even j h e) (and-true _ ∙ and_bit w (w / 2 ^ 1) j ∙ ap (λ (b : Bool). bit w j && b) (bit_half w j))

pairs_odd : (w j : ℕ) → j < 64 → (j % 2 ≡ 0 → ⊥) → bit (pairs w) j ≡ false
pairs_odd w j h n = and_bit (bit_and w (w / 2 ^ 1)) plain j ∙ rw (plain_odd j h n) (and-false (bit (bit_and w (w / 2 ^ 1)) j))

module _ (ws : List ℕ) where
  -- both literals of the name at bit j of word i
  both_at : (n i j : ℕ) → 2 * n ≡ 64 * i + j → j < 64 → Both (set_of ws) n → bit (pairs (get_or ws i 0)) j ≡ true
  unfolding set_of
  both_at n i j e h b =
      let word : (2 * n) / 64 ≡ i = omega arith in
      let place : (2 * n) % 64 ≡ j = omega arith in
      let next_word : (2 * n + 1) / 64 ≡ i = omega arith in
      let next : (2 * n + 1) % 64 ≡ 1 + j = omega arith in
      pairs_even (get_or ws i 0) j h (omega arith) ∙ and_intro _ _ (simp (word, place) at b.0) (simp (next_word, next) at b.1)

  at_both : (n i j : ℕ) → 2 * n ≡ 64 * i + j → j < 64 → bit (pairs (get_or ws i 0)) j ≡ true → Both (set_of ws) n
  unfolding set_of
  at_both n i j e h b =
      let word : (2 * n) / 64 ≡ i = omega arith in
      let place : (2 * n) % 64 ≡ j = omega arith in
      let next_word : (2 * n + 1) / 64 ≡ i = omega arith in
      let next : (2 * n + 1) % 64 ≡ 1 + j = omega arith in
      let two = sym (pairs_even (get_or ws i 0) j h (omega arith)) ∙ b in
      (simp (word, place) (and_l (bit (get_or ws i 0) j) _ two), simp (next_word, next) (and_r (bit (get_or ws i 0) j) _ two))

  -- no name whose literals stand in the words before word i has both
  abbrev pub NoneBefore : ℕ → Type 0
  NoneBefore i = (n : ℕ) → n < 32 * i → Both (set_of ws) n → ⊥

  module _ (i : ℕ) (none : NoneBefore i) where
    pub none_here : pairs (get_or ws i 0) ≡ 0 → NoneBefore (i + 1)
    none_here z n h b = go (dec_lt n (32 * i))
      where
        go : Dec (n < 32 * i) → ⊥
        go (yes l) = none n l b
        go (no l) =
            let j = 2 * n - 64 * i in
            clash (both_at n i j (omega arith) (omega arith) b) (ap (λ (w : ℕ). bit w j) z ∙ bit_zero j)

    pub lowest_here : get_or ws i 0 < 2 ^ 64 → (pairs (get_or ws i 0) ≡ 0 → ⊥) → LowestBoth (set_of ws) (32 * i + count_trailing_zeros 64 (pairs (get_or ws i 0)) / 2)
    lowest_here fits some = (at_both n i t place low set, before)
      where
        t : ℕ
        t = count_trailing_zeros 64 (pairs (get_or ws i 0))

        n : ℕ
        n = 32 * i + t / 2

        low : t < 64
        low = some_bit 64 (pairs (get_or ws i 0)) (omega (arith, and_le_r (bit_and (get_or ws i 0) (get_or ws i 0 / 2 ^ 1)) plain)) some

        set : bit (pairs (get_or ws i 0)) t ≡ true
        set = at_trailing 64 (pairs (get_or ws i 0)) low

        even : t % 2 ≡ 0
        even = go (ℕ_discrete (t % 2) 0)
          where
            go : Dec (t % 2 ≡ 0) → t % 2 ≡ 0
            go (yes e) = e
            go (no q) = absurd (clash set (pairs_odd (get_or ws i 0) t low q))

        place : 2 * n ≡ 64 * i + t
        place = omega (arith, even)

        before : (k : ℕ) → k < n → Both (set_of ws) k → ⊥
        before k h b = go (dec_lt k (32 * i))
          where
            go : Dec (k < 32 * i) → ⊥
            go (yes l) = none k l b
            go (no l) =
                let j = 2 * k - 64 * i in
                let below : j < t = omega (arith, place) in
                clash (both_at k i j (omega arith) (omega (arith, low)) b) (below_trailing 64 (pairs (get_or ws i 0)) j below)
