-- The first field of a line is one of the three words or none of them, as `word_of` says: two lists with the same bytes are equal.
use mathlib.Core.Path.{◌≡◌, refl, sym, ap, ◌∙◌}
use mathlib.Core.Bool.{Bool, true, false, cond, true≢false}
use mathlib.Core.List.{List}
use Prim.Native.Nat.{ℕ}
use Rattle.truth.proofs.Truth.{refuted}
use Rattle.scan.specs.Text.{same_bytes, name_word, rule_word, end_word, word_of}
use Rattle.scan.specs.declared.Word.{Word}
use Rattle.scan.specs.declared.Word.TheVariants.{Name, Rule, End, Unknown}
use Rattle.scan.proofs.Bytes.{same_refl, same_equal}

-- ---- by the tests in their order

module _ (f : List ℕ) where
  pub word_name : same_bytes f name_word ≡ true → word_of f ≡ Name
  unfolding word_of
  word_name e = rw e

  pub word_rule : same_bytes f name_word ≡ false → same_bytes f rule_word ≡ true → word_of f ≡ Rule
  unfolding word_of
  word_rule a e = rw (a, e)

  pub word_end : same_bytes f name_word ≡ false → same_bytes f rule_word ≡ false → same_bytes f end_word ≡ true → word_of f ≡ End
  unfolding word_of
  word_end a b e = rw (a, b, e)

  pub word_unknown : same_bytes f name_word ≡ false → same_bytes f rule_word ≡ false → same_bytes f end_word ≡ false → word_of f ≡ Unknown
  unfolding word_of
  word_unknown a b e = rw (a, b, e)

-- ---- the word of some bytes

abbrev pub IsWord : Word → List ℕ → Type 0
IsWord Name f = f ≡ name_word
IsWord Rule f = f ≡ rule_word
IsWord End f = f ≡ end_word
IsWord Unknown f = (f ≡ name_word → ⊥) × (f ≡ rule_word → ⊥) × (f ≡ end_word → ⊥)

differs : (f g : List ℕ) → same_bytes f g ≡ false → f ≡ g → ⊥
differs f g p e = true≢false (sym (ap (λ (l : List ℕ). same_bytes l g) e ∙ same_refl g) ∙ p)

pub first_is : (f : List ℕ) → IsWord (word_of f) f
unfolding word_of
first_is f = go (same_bytes f name_word) (same_bytes f rule_word) (same_bytes f end_word) refl refl refl
  where
    go : (a b c : Bool) → same_bytes f name_word ≡ a → same_bytes f rule_word ≡ b → same_bytes f end_word ≡ c
        → IsWord (cond a Name (cond b Rule (cond c End Unknown))) f
    go true b c p q r = same_equal f name_word p
    go false true c p q r = same_equal f rule_word q
    go false false true p q r = same_equal f end_word r
    go false false false p q r = (differs f name_word p, differs f rule_word q, differs f end_word r)

pub word_is : (w : Word) (f : List ℕ) → IsWord w f → word_of f ≡ w
unfolding word_of same_bytes
word_is Name f e = rw e
word_is Rule f e = rw e
word_is End f e = rw e
word_is Unknown f n = word_unknown f (unlike name_word n.0) (unlike rule_word n.1) (unlike end_word n.2)
  where
    unlike : (g : List ℕ) → (f ≡ g → ⊥) → same_bytes f g ≡ false
    unlike g n = refuted (λ e. n (same_equal f g e))
