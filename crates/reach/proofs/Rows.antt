-- A table of rows, a set for each name, and a set with both literals of a name.
use mathlib.Core.Path.{◌≡◌, refl, sym, ◌∙◌, ap, subst}
use mathlib.Core.List.{List, []}
use Prim.Native.Nat.{ℕ, ◌+◌, ◌*◌, ◌/◌, ◌%◌, ◌^◌, ◌≤◌, ◌<◌}
use native.Mathlib.Decide.{ℕ_discrete}
use native.Mathlib.Omega.{arith}
use lib.ListN.{length, get_or, set, replicate, length-set, get_or-replicate}
use lib.Bits.{bit_or}
use lib.Seq.{ext_get_or, get_or-set_same, get_or-set_other, set-set}
use borrow.Author.Count.{below_none, below_more}
use borrow.Author.Tests.{eq-eqb, ne_eqb}
use Rattle.wfsx.specs.Sets.{Set, ∅}
use Rattle.litset.specs.Words.{n_words, set_of, with}
use Rattle.litset.proofs.Words.{set_insert}
use Rattle.litset.specs.declared.LitSet.{LitSet}
use Rattle.std.proofs.lemmas.List.{get_or_default}
use Rattle.reach.specs.Table.{n_names, row_set, paired_word, with_name, Put}
use Rattle.reach.proofs.Names.{with_name_is}

-- ---- rows

-- a row, by whatever is read past the end
pub row_is : (table : List LitSet) (k : ℕ) (d : LitSet) → k < length table → set_of (get_or table k d).words ≡ row_set table k
row_is table k d h = ap (λ (row : LitSet). set_of row.words) (get_or_default table k d (record { words = [] }) h)

pub rows_alike : (row : LitSet) → set_of row.words ≡ ∅ → (k : ℕ) → k < n_names → row_set (replicate n_names row) k ≡ ∅
rows_alike row e k h = ap (λ (r : LitSet). set_of r.words) (get_or-replicate {A = LitSet} n_names k row (record { words = [] }) h) ∙ e

-- a row put in changes no other
pub row_put : (table : List LitSet) (k : ℕ) (row : LitSet) → k < length table → Put table k (set_of row.words) (set table k row)
row_put table k row h =
    record {
      size = length-set table k row;
      here = ap (λ (r : LitSet). set_of r.words) (get_or-set_same table k row (record { words = [] }) h);
      others = λ i ne. ap (λ (r : LitSet). set_of r.words) (get_or-set_other table k i row (record { words = [] }) ne);
    }

-- a row that is made from the one that was there
pub row_changed : (table : List LitSet) (k : ℕ) (row : LitSet) (S : Set) → k < length table → set_of row.words ≡ S → Put table k S (set table k row)
row_changed table k row S h e = subst (λ (R : Set). Put table k R (set table k row)) e (row_put table k row h)

-- both literals of name j are in one word
pub pair_set : (ws : List ℕ) → length ws ≡ n_words → (j : ℕ) → j < n_names
    → set_of (set ws (j / 32) (bit_or (bit_or (get_or ws (j / 32) 0) (2 ^ (2 * (j % 32)))) (2 ^ (2 * (j % 32) + 1)))) ≡ with_name j (set_of ws)
pair_set ws len j h =
    ap set_of (sym (set-set ws q one _) ∙ ap (λ (w : ℕ). set (set ws q one) q (bit_or w (2 ^ (2 * (j % 32) + 1)))) (sym (get_or-set_same ws q one 0 (omega arith))))
    ∙ second ∙ ap (with (2 * j + 1)) first ∙ with_name_is j (set_of ws) h
  where
    q : ℕ
    q = j / 32

    one : ℕ
    one = bit_or (get_or ws q 0) (2 ^ (2 * (j % 32)))

    first : set_of (set ws q one) ≡ with (2 * j) (set_of ws)
    first =
        let word : (2 * j) / 64 ≡ j / 32 = omega arith in
        let place : (2 * j) % 64 ≡ 2 * (j % 32) = omega arith in
        simp (word, place) at (set_insert ws (2 * j) len (omega arith))

    second : set_of (set (set ws q one) q (bit_or (get_or (set ws q one) q 0) (2 ^ (2 * (j % 32) + 1)))) ≡ with (2 * j + 1) (set_of (set ws q one))
    second =
        let word : (2 * j + 1) / 64 ≡ j / 32 = omega arith in
        let place : (2 * j + 1) % 64 ≡ 2 * (j % 32) + 1 = omega arith in
        simp (word, place) at (set_insert (set ws q one) (2 * j + 1) (length-set ws q one ∙ len) (omega arith))

-- ---- a set with both literals of a name, word by word

-- the words before place i have those of name k
pub record Paired (before : List ℕ) (k : ℕ) (words : List ℕ) (i : ℕ) : Type 0 where
  pub size : length words ≡ n_words
  pub done : (q : ℕ) → q < i → get_or words q 0 ≡ paired_word (get_or before q 0) q k
  pub rest : (q : ℕ) → i ≤ q → get_or words q 0 ≡ get_or before q 0

module _ (before : List ℕ) (k : ℕ) where
  pub paired_none : length before ≡ n_words → Paired before k before 0
  paired_none e = record { size = e; done = below_none _; rest = λ q l. refl }

  pub paired_more : (words : List ℕ) (i v : ℕ) → Paired before k words i → i < n_words → v ≡ paired_word (get_or words i 0) i k → Paired before k (set words i v) (i + 1)
  paired_more words i v t h e =
      record {
        size = length-set words i v ∙ t.size;
        done = below_more _ i (λ q l. get_or-set_other words i q v 0 (λ x. omega arith) ∙ t.done q l)
            (get_or-set_same words i v 0 (omega (arith, t.size)) ∙ e ∙ ap (λ (w : ℕ). paired_word w i k) (t.rest i (omega arith)));
        rest = λ q l. get_or-set_other words i q v 0 (λ x. omega arith) ∙ t.rest q (omega arith);
      }

  pub paired_all : (words : List ℕ) (i : ℕ) → Paired before k words i → length before ≡ n_words → n_words ≤ i → k < n_names → set_of words ≡ with_name k (set_of before)
  paired_all words i t size all h = ap set_of (ext_get_or 0 words _ (t.size ∙ sym (length-set before (k / 32) _ ∙ size)) (λ q l. at q (omega (arith, t.size)) (ℕ_discrete q (k / 32)))) ∙ pair_set before size k h
    where
      at : (q : ℕ) → q < n_words → Dec (q ≡ k / 32)
          → get_or words q 0 ≡ get_or (set before (k / 32) (bit_or (bit_or (get_or before (k / 32) 0) (2 ^ (2 * (k % 32)))) (2 ^ (2 * (k % 32) + 1)))) q 0
      at q b (yes e) = rw e (t.done (k / 32) (omega arith) ∙ rw (eq-eqb (k / 32) (k / 32) refl) (sym (get_or-set_same before (k / 32) _ 0 (omega arith))))
      at q b (no ne) = t.done q (omega arith) ∙ rw (ne_eqb q (k / 32) ne) (sym (get_or-set_other before (k / 32) q _ 0 ne))
