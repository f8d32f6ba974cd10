-- What a name is made of, by the tests in their order; and the test of the same name decides it, since two lists with the same bytes are equal.
use mathlib.Core.Path.{◌≡◌, refl, sym, ap, ap₂, ◌∙◌}
use mathlib.Core.Logic.{◌↔◌}
use mathlib.Core.Bool.{true, false, ◌&&◌, true≢false}
use mathlib.Core.List.{List, [], ◌∷◌}
use Prim.Native.Nat.{ℕ, suc, ◌-◌, ◌≤◌, ◌<◌}
use native.Mathlib.Omega.{arith}
use lib.ListN.{length, get_or, take, drop}
use lib.Seq.{take_all}
use lib.Dec.{leb}
use borrow.Author.Tests.{le-leb, leb-true}
use Rattle.truth.proofs.Truth.{refuted, and_l, and_r}
use Rattle.scan.specs.Text.{class_of, is_letter, in_name, all_bytes, max_length, is_name, same_bytes, folded, SameName, same_name}
use Rattle.scan.specs.declared.Alphabet.{Alphabet}
use Rattle.scan.specs.declared.Alphabet.TheVariants.{SmallOnly}
use Rattle.scan.proofs.Bytes.{same_refl, same_equal}

-- what a name is made of: 1 to 16 bytes, a letter and then bytes that a name may have
pub record NameParts (α : Alphabet) (s : List ℕ) : Type 0 where
  pub some : 1 ≤ length s
  pub few : length s ≤ max_length
  pub letter : is_letter α (class_of (get_or s 0 0)) ≡ true
  pub others : all_bytes (λ b. in_name α (class_of b)) (drop 1 s) ≡ true

module _ (α : Alphabet) where
  pub name_parts : (s : List ℕ) → is_name α s ≡ true → NameParts α s
  unfolding is_name
  name_parts [] e = absurd (true≢false (sym e))
  name_parts (x ∷ xs) e =
      let tail = all_bytes (λ b. in_name α (class_of b)) xs in
      let letter = is_letter α (class_of x) in
      let short = leb (suc (length xs)) max_length in
      let rest = and_r short (letter && tail) e in
      record { some = omega arith; few = leb-true (suc (length xs)) max_length (and_l short (letter && tail) e); letter = and_l letter tail rest; others = and_r letter tail rest }

  pub parts_name : (s : List ℕ) → NameParts α s → is_name α s ≡ true
  unfolding is_name
  parts_name [] p = let h = p.some in absurd (omega arith)
  parts_name (x ∷ xs) p = rw (le-leb (suc (length xs)) max_length p.few, p.letter, p.others)

  pub name_fits : (s : List ℕ) → is_name α s ≡ true → (1 ≤ length s) × (length s ≤ max_length)
  name_fits s e = let p = name_parts s e in (p.some, p.few)

  -- by the tests in their order
  module _ (s : List ℕ) where
    pub name_none : length s ≡ 0 → is_name α s ≡ false
    name_none h = refuted (λ e. omega (arith, (name_parts s e).some))

    pub name_long : max_length < length s → is_name α s ≡ false
    name_long h = refuted (λ e. omega (arith, (name_parts s e).few))

    pub name_first : is_letter α (class_of (get_or s 0 0)) ≡ false → is_name α s ≡ false
    name_first h = refuted (λ e. true≢false (sym (name_parts s e).letter ∙ h))

  pub name_rest : (s : List ℕ) → (length s ≡ 0 → ⊥) → length s ≤ max_length → is_letter α (class_of (get_or s 0 0)) ≡ true
      → is_name α s ≡ all_bytes (λ b. in_name α (class_of b)) (take (length s - 1) (drop 1 s))
  unfolding is_name
  name_rest [] n h e = absurd (n refl)
  name_rest (x ∷ xs) n h e = rw (le-leb (suc (length xs)) max_length h, e, take_all (suc (length xs) - 1) xs (omega arith))

  -- ---- the same name

  -- the test decides whether two names are the same
  pub same_decides : (a b : List ℕ) → (same_name α a b ≡ true) ↔ SameName α a b
  unfolding same_name SameName
  same_decides a b = (same_equal (folded α a) (folded α b), λ e. rw e (same_refl (folded α b)))

  pub same_self : (a : List ℕ) → SameName α a a
  unfolding SameName
  same_self a = refl

  -- the test answers for the same name as for the name
  pub same_test : (l a b : List ℕ) → SameName α a b → same_name α l a ≡ same_name α l b
  unfolding same_name SameName
  same_test l a b e = ap (same_bytes (folded α l)) e

-- with small letters alone each byte counts as itself
as_spelled : (s : List ℕ) → folded SmallOnly s ≡ s
as_spelled [] = refl
as_spelled (x ∷ xs) = ap (λ (l : List ℕ). x ∷ l) (as_spelled xs)

pub spelled_same : (a b : List ℕ) → same_name SmallOnly a b ≡ same_bytes a b
unfolding same_name
spelled_same a b = ap₂ same_bytes (as_spelled a) (as_spelled b)
