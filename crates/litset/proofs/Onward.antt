-- The literals from k on, word by word: a word that ends before k is 0, one that begins at k or behind it is full, and the one between them is the full word
-- moved up.
use mathlib.Core.Path.{◌≡◌, refl, sym, ap, ◌∙◌, fun_ext}
use mathlib.Core.Bool.{Bool, true, false, cond, ◌&&◌, and-true}
use mathlib.Core.List.{List}
use Prim.Native.Nat.{ℕ, ◌+◌, ◌-◌, ◌*◌, ◌/◌, ◌%◌, ◌^◌, ◌≤◌, ◌<◌}
use native.Mathlib.Decide.{dec_lt, ℕ_discrete}
use native.Mathlib.Omega.{arith}
use lib.Dec.{eqb, ltb, leb}
use lib.ListN.{length, get_or, set, replicate}
use lib.Seq.{get_or-set_same, get_or-set_other}
use borrow.Author.Tests.{eqb-true, lt-ltb, ltb-true, le-leb, lt-leb, leb-true}
use Rattle.truth.proofs.Truth.{same_test, refuted, and_r}
use Rattle.wfsx.specs.Sets.{Set}
use Rattle.litset.specs.Words.{n_words, capacity, bit, set_of, from_on}
use Rattle.litset.specs.Steps.{WordFrom}
use Rattle.litset.proofs.Bit.{bit_zero}
use Rattle.litset.proofs.Words.{set_zeros}
use Rattle.litset.proofs.Names.{all_below, each_below}

-- ---- one word

-- `FULL` in src/lib.rt is the same number
abbrev full : ℕ
full = 18446744073709551615

-- the digits of the full word moved up by s places, computed
digit : (s j : ℕ) → s < 64 → j < 64 → full * 2 ^ s % 2 ^ 64 / 2 ^ j % 2 ≡ cond (leb s j) 1 0
unfolding all_below
digit s j h i =
    let row = each_below 64 (λ r. all_below 64 (λ m. eqb (full * 2 ^ r % 2 ^ 64 / 2 ^ m % 2) (cond (leb r m) 1 0))) refl s h in
    eqb-true (full * 2 ^ s % 2 ^ 64 / 2 ^ j % 2) (cond (leb s j) 1 0) (each_below 64 (λ m. eqb (full * 2 ^ s % 2 ^ 64 / 2 ^ m % 2) (cond (leb s m) 1 0)) row j i)

moved : (s j : ℕ) → s < 64 → j < 64 → bit (full * 2 ^ s % 2 ^ 64) j ≡ leb s j
moved s j h i = ap (λ (x : ℕ). eqb x 1) (digit s j h i) ∙ go (leb s j)
  where
    go : (b : Bool) → eqb (cond b 1 0) 1 ≡ b
    go true = refl
    go false = refl

module _ (k i : ℕ) where
  pub word_full : k ≤ 64 * i → WordFrom k i full
  word_full h j l = moved 0 j (omega arith) l ∙ le-leb 0 j (omega arith) ∙ sym (le-leb k (64 * i + j) (omega arith))

  pub word_none : 64 * i + 64 ≤ k → WordFrom k i 0
  word_none h j l = bit_zero j ∙ sym (lt-leb k (64 * i + j) (omega arith))

  pub word_part : 64 * i < k → k < 64 * i + 64 → WordFrom k i (full * 2 ^ (k - 64 * i) % 2 ^ 64)
  word_part h g j l =
      moved (k - 64 * i) j (omega arith) l
      ∙ same_test (λ e. let w = leb-true (k - 64 * i) j e in le-leb k (64 * i + j) (omega arith)) (λ e. let w = leb-true k (64 * i + j) e in le-leb (k - 64 * i) j (omega arith))

-- ---- the words before place i

-- the literals from k on, below l
abbrev pub between : ℕ → ℕ → Set
between k l A = leb k A && ltb A l

module _ (k : ℕ) where
  pub words_none : set_of (replicate n_words 0) ≡ between k 0
  words_none = set_zeros n_words ∙ fun_ext (λ A. sym (refuted (λ m. let w = ltb-true A 0 (and_r (leb k A) _ m) in absurd (omega arith))))

  pub words_more : (ws : List ℕ) (i w : ℕ) → i < length ws → WordFrom k i w → set_of ws ≡ between k (64 * i) → set_of (set ws i w) ≡ between k (64 * (i + 1))
  unfolding set_of
  words_more ws i w h is e = fun_ext (λ A. go A (ℕ_discrete (A / 64) i))
    where
      below : (A : ℕ) → (A / 64 ≡ i → ⊥) → ltb A (64 * i) ≡ ltb A (64 * (i + 1))
      below A ne = same_test (λ q. let l = ltb-true A (64 * i) q in lt-ltb A (64 * (i + 1)) (omega arith)) (λ q. back (ltb-true A (64 * (i + 1)) q) (dec_lt A (64 * i)))
        where
          back : A < 64 * (i + 1) → Dec (A < 64 * i) → ltb A (64 * i) ≡ true
          back l (yes d) = lt-ltb A (64 * i) d
          back l (no d) = absurd (ne (omega arith))

      go : (A : ℕ) → Dec (A / 64 ≡ i) → set_of (set ws i w) A ≡ between k (64 * (i + 1)) A
      go A (yes q) =
          let whole : 64 * i + A % 64 ≡ A = omega arith in
          ap (λ (n : ℕ). bit (get_or (set ws i w) n 0) (A % 64)) q ∙ ap (λ (v : ℕ). bit v (A % 64)) (get_or-set_same ws i w 0 h)
          ∙ is (A % 64) (omega arith) ∙ ap (leb k) whole ∙ sym (ap (λ (b : Bool). leb k A && b) (lt-ltb A (64 * (i + 1)) (omega arith)) ∙ and-true (leb k A))
      go A (no q) =
          ap (λ (v : ℕ). bit v (A % 64)) (get_or-set_other ws i (A / 64) w 0 q) ∙ ap (λ (S : Set). S A) e
          ∙ ap (λ (b : Bool). leb k A && b) (below A q)

  pub words_all : (ws : List ℕ) (i : ℕ) → n_words ≤ i → i ≤ n_words → set_of ws ≡ between k (64 * i) → set_of ws ≡ from_on k
  words_all ws i h g e = let z : 64 * i ≡ capacity = omega arith in e ∙ ap (between k) z
