-- The ones of all words are as many as the members.
use mathlib.Core.Path.{◌≡◌, refl, sym, ap, ap₂, ◌∙◌}
use mathlib.Core.Bool.{cond}
use mathlib.Core.List.{List, [], ◌∷◌}
use Prim.Native.Nat.{ℕ, zero, suc, ◌+◌, ◌*◌, ◌/◌, ◌%◌, ◌^◌, ◌<◌}
use native.Mathlib.Nat.{div-one, mod-lt, zero-lt-suc}
use native.Mathlib.Numerals.{add-one}
use native.Mathlib.Omega.{arith}
use lib.Arith.{lt-one}
use lib.Pow.{shr_lt}
use lib.Count.{ones, ones_step}
use lib.Dec.{eqb}
use lib.ListN.{length, get_or, take}
use Rattle.wfsx.specs.Sets.{members_from, members}
use Rattle.wfsx.proofs.Members.{length_first, length_parts, length_moved, length_none}
use Rattle.litset.specs.Words.{bit, set_of}
use Rattle.litset.proofs.Bit.{bit_half}

-- the ones of all words
unfoldable pub ones_of : List ℕ → ℕ
ones_of [] = 0
ones_of (w ∷ ws) = ones w + ones_of ws

-- the members that one word of k bits gives
word_ones : (k w : ℕ) → w < 2 ^ k → length (members_from (bit w) 0 k) ≡ ones w
unfolding ones
word_ones zero w h = length_none (bit w) 0 ∙ ap ones (sym (lt-one h))
word_ones (suc k) w h =
    length_first (bit w) 0 k
    ∙ ap₂ (λ (x y : ℕ). x + y) (simp div-one (digit (w % 2) (mod-lt _ (zero-lt-suc 1))))
    (length_moved (bit w) (bit (w / 2)) 1 0 k (λ i l. up i) ∙ word_ones k (w / 2) (shr_lt k 1 (rw (add-one k) h)))
    ∙ sym (ones_step w)
  where
    digit : (x : ℕ) → x < 2 → cond (eqb x 1) 1 0 ≡ x
    digit zero h = refl
    digit (suc zero) h = refl
    digit (suc (suc x)) h = absurd (omega arith)

    up : (i : ℕ) → bit w (1 + i) ≡ bit (w / 2) (0 + i)
    up i = sym (bit_half w i) ∙ ap (bit (w / 2)) (omega arith)

pub ones_are_members : (ws : List ℕ) → ((i : ℕ) → get_or ws i 0 < 2 ^ 64) → ones_of ws ≡ length (members (64 * length ws) (set_of ws))
unfolding ones_of set_of
ones_are_members [] h = sym (length_none (set_of []) 0)
ones_are_members (w ∷ ws) h =
    ap₂ (λ (x y : ℕ). x + y) (sym (word_ones 64 w (h 0)) ∙ sym first) (ones_are_members ws (λ i. h (suc i)) ∙ sym rest)
    ∙ sym (length_parts (set_of (w ∷ ws)) 0 64 (64 * length ws)) ∙ ap (λ (n : ℕ). length (members n (set_of (w ∷ ws)))) (size (length ws))
  where
    size : (n : ℕ) → 64 + 64 * n ≡ 64 * suc n
    size n = omega arith

    first : length (members_from (set_of (w ∷ ws)) 0 64) ≡ length (members_from (bit w) 0 64)
    first =
        length_moved (set_of (w ∷ ws)) (bit w) 0 0 64 (λ i l.
        let word : (0 + i) / 64 ≡ 0 = omega arith in
        let place : (0 + i) % 64 ≡ 0 + i = omega arith in
        simp (word, place))

    rest : length (members_from (set_of (w ∷ ws)) (0 + 64) (64 * length ws)) ≡ length (members_from (set_of ws) 0 (64 * length ws))
    rest =
        length_moved (set_of (w ∷ ws)) (set_of ws) 64 0 (64 * length ws) (λ i l.
        let word : (64 + i) / 64 ≡ suc ((0 + i) / 64) = omega arith in
        let place : (64 + i) % 64 ≡ (0 + i) % 64 = omega arith in
        simp (word, place))

-- one word more: what a loop over the words needs
pub ones_of_more : (ws : List ℕ) (i : ℕ) → i < length ws → ones_of (take i ws) + ones (get_or ws i 0) ≡ ones_of (take (i + 1) ws)
unfolding ones_of
ones_of_more ws i h = rw (add-one i) (go ws i h)
  where
    go : (ws : List ℕ) (i : ℕ) → i < length ws → ones_of (take i ws) + ones (get_or ws i 0) ≡ ones_of (take (suc i) ws)
    go [] i h = absurd (omega arith)
    go (w ∷ ws) zero h = omega arith
    go (w ∷ ws) (suc i) h = omega (arith, go ws i (omega arith))
