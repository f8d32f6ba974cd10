-- A name added to a set, word by word; and the lowest name of a set, which stands in its first word that is not 0.
use mathlib.Core.Path.{◌≡◌, refl, sym, ◌∙◌, ap, fun_ext}
use mathlib.Core.Bool.{and-false}
use mathlib.Core.List.{List}
use Prim.Native.Nat.{ℕ, ◌+◌, ◌*◌, ◌/◌, ◌%◌, ◌^◌, ◌≤◌, ◌<◌}
use native.Mathlib.Decide.{dec_lt, ℕ_discrete}
use native.Mathlib.Omega.{arith}
use lib.Bits.{bit_or}
use lib.Count.{count_trailing_zeros}
use lib.Dec.{ltb}
use lib.ListN.{length, get_or, set, length-set}
use lib.Seq.{ext_get_or, get_or-set_same, get_or-set_other}
use borrow.Author.Count.{below_none, below_more}
use borrow.Author.Tests.{eq-eqb, ne_eqb, lt-ltb, le-ltb, le-leb, lt-leb}
use Rattle.wfsx.specs.Sets.{Set, ◌∉◌, ◌∖◌}
use Rattle.litset.specs.Words.{capacity, bit, set_of, from_on, add_below}
use Rattle.litset.proofs.Bit.{bit_zero}
use Rattle.litset.proofs.Words.{none_past, change, below_insert, below_no_room}
use Rattle.litset.proofs.Names.{some_bit, at_trailing, below_trailing}
use Rattle.std.specs.Prelude.{Some}
use Rattle.nameset.specs.Names.{name_words, n_names, below, word_with, LowestOf}

-- ---- a name added

-- the words before place i have the name, and the others are as they were
pub record Given (before : List ℕ) (k : ℕ) (words : List ℕ) (i : ℕ) : Type 0 where
  pub size : length words ≡ name_words
  pub done : (q : ℕ) → q < i → get_or words q 0 ≡ word_with (get_or before q 0) q k
  pub rest : (q : ℕ) → i ≤ q → get_or words q 0 ≡ get_or before q 0

module _ (before : List ℕ) (k : ℕ) where
  pub given_none : length before ≡ name_words → Given before k before 0
  given_none e = record { size = e; done = below_none _; rest = λ q l. refl }

  pub given_more : (words : List ℕ) (i v : ℕ) → Given before k words i → i < name_words → v ≡ word_with (get_or words i 0) i k → Given before k (set words i v) (i + 1)
  given_more words i v t h e =
      record {
        size = length-set words i v ∙ t.size;
        done = below_more _ i (λ q l. get_or-set_other words i q v 0 (λ x. omega arith) ∙ t.done q l)
            (get_or-set_same words i v 0 (omega (arith, t.size)) ∙ e ∙ ap (λ (w : ℕ). word_with w i k) (t.rest i (omega arith)));
        rest = λ q l. get_or-set_other words i q v 0 (λ x. omega arith) ∙ t.rest q (omega arith);
      }

  pub given_all : (words : List ℕ) (i : ℕ) → Given before k words i → length before ≡ name_words → name_words ≤ i → set_of words ≡ add_below n_names k (set_of before)
  given_all words i t size all = go (dec_lt (k / 64) (length before))
    where
      room : (n : ℕ) → n ≡ name_words → add_below (64 * n) k (set_of before) ≡ add_below n_names k (set_of before)
      room n e = ap (λ (m : ℕ). add_below (64 * m) k (set_of before)) e

      same : (vs : List ℕ) → length vs ≡ name_words → ((q : ℕ) → q < name_words → word_with (get_or before q 0) q k ≡ get_or vs q 0) → words ≡ vs
      same vs len each = ext_get_or 0 words vs (t.size ∙ sym len) (λ q l. t.done q (omega (arith, t.size)) ∙ each q (omega (arith, t.size)))

      at : k / 64 < length before → (q : ℕ) → Dec (q ≡ k / 64) → word_with (get_or before q 0) q k ≡ get_or (change bit_or before k) q 0
      at h q (yes e) = rw e (rw (eq-eqb (k / 64) (k / 64) refl) (sym (get_or-set_same before (k / 64) _ 0 h)))
      at h q (no ne) = rw (ne_eqb q (k / 64) ne) (sym (get_or-set_other before (k / 64) q _ 0 ne))

      go : Dec (k / 64 < length before) → set_of words ≡ add_below n_names k (set_of before)
      go (yes h) =
          ap set_of (same (change bit_or before k) (length-set before (k / 64) _ ∙ size) (λ q l. at h q (ℕ_discrete q (k / 64)))) ∙ below_insert before k h
          ∙ room (length before) size
      go (no h) =
          ap set_of (same before size (λ q l. rw (ne_eqb q (k / 64) (λ e. omega (arith, size))) refl)) ∙ below_no_room before k (omega arith) ∙ room (length before) size

-- ---- the names below a number

-- the words before place i are copied
pub record Copied (from words : List ℕ) (i : ℕ) : Type 0 where
  pub size : length words ≡ name_words
  pub done : (q : ℕ) → q < i → get_or words q 0 ≡ get_or from q 0

pub copied_none : (from words : List ℕ) → length words ≡ name_words → Copied from words 0
copied_none from words e = record { size = e; done = below_none _ }

pub copied_more : (from words : List ℕ) (i : ℕ) → Copied from words i → i < name_words → Copied from (set words i (get_or from i 0)) (i + 1)
copied_more from words i t h =
    record {
      size = length-set words i _ ∙ t.size;
      done = below_more _ i (λ q l. get_or-set_other words i q _ 0 (λ x. omega arith) ∙ t.done q l) (get_or-set_same words i _ 0 (omega (arith, t.size)));
    }

-- the first words of the numbers below n
pub copied_below : (from words : List ℕ) (i n : ℕ) → Copied from words i → name_words ≤ i → set_of from ≡ from_on 0 ∖ from_on n → set_of words ≡ below n
unfolding set_of
copied_below from words i n t all e = fun_ext (λ k. go k (dec_lt k n_names) (dec_lt k n))
  where
    here : (k : ℕ) → k < n_names → set_of words k ≡ (from_on 0 ∖ from_on n) k
    here k h = ap (λ (w : ℕ). bit w (k % 64)) (t.done (k / 64) (omega arith)) ∙ ap (λ (S : Set). S k) e

    go : (k : ℕ) → Dec (k < n_names) → Dec (k < n) → set_of words k ≡ below n k
    go k (yes h) (yes l) = here k h ∙ rw (le-leb 0 k (omega arith), lt-ltb k capacity (omega arith), lt-leb n k l, lt-ltb k n l, lt-ltb k n_names h) refl
    go k (yes h) (no l) = here k h ∙ rw (le-leb 0 k (omega arith), lt-ltb k capacity (omega arith), le-leb n k (omega arith), le-ltb k n (omega arith)) refl
    go k (no h) d = none_past words k (omega (arith, t.size)) ∙ sym (rw (le-ltb k n_names (omega arith)) (and-false (ltb k n)))

-- ---- the lowest name

-- no name whose bit stands in the words before word i is a member
abbrev pub NoneBefore : Set → ℕ → Type 0
NoneBefore S i = (k : ℕ) → k < 64 * i → k ∉ S

-- a set whose bits stand in the words `word`
module _ (S : Set) (word : ℕ → ℕ) (is : (l : ℕ) → S l ≡ bit (word (l / 64)) (l % 64)) where
  at_bit : (i j k : ℕ) → k ≡ 64 * i + j → j < 64 → S k ≡ bit (word i) j
  at_bit i j k e h =
      let here : k / 64 ≡ i = omega arith in
      let place : k % 64 ≡ j = omega arith in
      is k ∙ ap (λ (q : ℕ). bit (word q) (k % 64)) here ∙ ap (bit (word i)) place

  module _ (i : ℕ) (none : NoneBefore S i) where
    pub none_here : word i ≡ 0 → NoneBefore S (i + 1)
    none_here z k h = go (dec_lt k (64 * i))
      where
        go : Dec (k < 64 * i) → k ∉ S
        go (yes l) = none k l
        go (no l) = let place : k ≡ 64 * i + k % 64 = omega arith in at_bit i (k % 64) k place (omega arith) ∙ ap (λ (w : ℕ). bit w (k % 64)) z ∙ bit_zero (k % 64)

    pub lowest_here : word i < 2 ^ 64 → (word i ≡ 0 → ⊥) → LowestOf S (Some (64 * i + count_trailing_zeros 64 (word i)))
    lowest_here fits some = (at_bit i t (64 * i + t) refl low ∙ at_trailing 64 (word i) low, before)
      where
        t : ℕ
        t = count_trailing_zeros 64 (word i)

        low : t < 64
        low = some_bit 64 (word i) fits some

        before : (j : ℕ) → j < 64 * i + t → j ∉ S
        before j h = go (dec_lt j (64 * i))
          where
            go : Dec (j < 64 * i) → j ∉ S
            go (yes l) = none j l
            go (no l) = let place : j ≡ 64 * i + j % 64 = omega (arith, low) in at_bit i (j % 64) j place (omega arith) ∙ below_trailing 64 (word i) (j % 64) (omega (arith, low))
