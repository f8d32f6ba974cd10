-- Every set of literals below the capacity is that of some words: they are made bit by bit.
use mathlib.Core.Path.{◌≡◌, refl, sym, ◌∙◌, ap}
use native.Mathlib.Decide.{dec_lt}
use lib.Bits.{bit_or}
use mathlib.Core.Bool.{true, false, ◌&&◌, true≢false}
use mathlib.Core.List.{List}
use mathlib.Core.Logic.{◌⊎◌, inl, inr, ⊎_elim}
use Prim.Native.Nat.{ℕ, zero, suc, ◌/◌, ◌≤◌, ◌<◌}
use native.Mathlib.Omega.{arith}
use lib.Dec.{eqb, ltb}
use lib.ListN.{length, replicate, length-set}
use borrow.Author.Tests.{ltb-true, lt-ltb, eqb-true, eq-eqb}
use Rattle.truth.proofs.Truth.{decided, and_l, and_r, and_intro, or_elim, or_l, or_r}
use Rattle.wfsx.specs.Sets.{Set, ◌∈◌, ◌⊆◌, add}
use Rattle.wfsx.proofs.Sets.{⊆_antisym}
use Rattle.litset.specs.Words.{n_words, capacity, room, set_of}
use Rattle.litset.specs.declared.LitSet.{LitSet}
use Rattle.litset.proofs.Words.{change, set_zeros, set_insert, with_room}

-- the members of S below n, as words
words_below : (S : Set) (n : ℕ) → n ≤ capacity → (ws : List ℕ) × (length ws ≡ n_words) × (set_of ws ≡ (λ A. S A && ltb A n))
words_below S zero h =
    (replicate n_words 0, refl, set_zeros n_words ∙ ⊆_antisym (λ A e. absurd (true≢false (sym e))) (λ A e. let i = ltb-true A 0 (and_r (S A) (ltb A 0) e) in absurd (omega arith)))
words_below S (suc n) h = go (words_below S n (omega arith)) (decided (S n))
  where
    here : (A : ℕ) → A ∈ S → A < suc n → (A ≡ n) ⊎ (A ∈ (λ B. S B && ltb B n))
    here A s i = dec (dec_lt A n)
      where
        dec : Dec (A < n) → (A ≡ n) ⊎ (A ∈ (λ B. S B && ltb B n))
        dec (yes j) = inr (and_intro (S A) (ltb A n) s (lt-ltb A n j))
        dec (no j) = inl (omega arith)

    wider : (A : ℕ) → A ∈ (λ B. S B && ltb B n) → A ∈ (λ B. S B && ltb B (suc n))
    wider A e =
        let i = ltb-true A n (and_r (S A) (ltb A n) e) in
        and_intro (S A) (ltb A (suc n)) (and_l (S A) (ltb A n) e) (lt-ltb A (suc n) (omega arith))

    narrower : (A : ℕ) → A ∈ (λ B. S B && ltb B (suc n)) → (A ≡ n) ⊎ (A ∈ (λ B. S B && ltb B n))
    narrower A e = here A (and_l (S A) (ltb A (suc n)) e) (ltb-true A (suc n) (and_r (S A) (ltb A (suc n)) e))

    grows : S n ≡ true → add n (λ A. S A && ltb A n) ≡ (λ A. S A && ltb A (suc n))
    grows s = ⊆_antisym more less
      where
        more : add n (λ A. S A && ltb A n) ⊆ (λ A. S A && ltb A (suc n))
        more A e =
            ⊎_elim (λ q. rw (eqb-true A n q) (and_intro (S n) (ltb n (suc n)) s (lt-ltb n (suc n) (omega arith)))) (wider A) (or_elim (eqb A n) (S A && ltb A n) e)

        less : (λ A. S A && ltb A (suc n)) ⊆ add n (λ A. S A && ltb A n)
        less A e = ⊎_elim (λ q. or_l (eqb A n) (S A && ltb A n) (eq-eqb A n q)) (or_r (eqb A n) (S A && ltb A n)) (narrower A e)

    go : (ws : List ℕ) × (length ws ≡ n_words) × (set_of ws ≡ (λ A. S A && ltb A n)) → (S n ≡ true) ⊎ (S n ≡ false)
        → (ws : List ℕ) × (length ws ≡ n_words) × (set_of ws ≡ (λ A. S A && ltb A (suc n)))
    go w (inl s) = (
      change bit_or w.0 n,
      length-set w.0 (n / 64) _ ∙ w.1,
      set_insert w.0 n w.1 (omega arith) ∙ with_room n (set_of w.0) (omega arith) ∙ ap (add n) w.2 ∙ grows s,
    )
    go w (inr s) =
        (w.0, w.1, w.2 ∙ ⊆_antisym wider (λ A e. ⊎_elim (λ q. absurd (true≢false (sym (rw q at (and_l (S A) (ltb A (suc n)) e)) ∙ s))) (λ i. i) (narrower A e)))

pub words_for : (S : Set) → S ⊆ room → (t : LitSet) × (length t.words ≡ n_words) × (set_of t.words ≡ S)
words_for S in-room =
    let w = words_below S capacity (omega arith) in
    (record { words = w.0 }, w.1, w.2 ∙ ⊆_antisym (λ A. and_l (S A) (ltb A capacity)) (λ A e. and_intro (S A) (ltb A capacity) e (in-room A e)))
