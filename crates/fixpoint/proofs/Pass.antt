-- Laws of a pass. It only adds; what it adds lies in every set that is closed under the rules; and where it adds nothing, the set is closed.
use mathlib.Core.Path.{◌≡◌, refl, sym, ◌∙◌, ap}
use mathlib.Core.Logic.{◌⊎◌, inl, inr}
use mathlib.Core.Bool.{Bool, true, false, not, cond, ◌&&◌, ◌||◌}
use mathlib.Core.List.Memᴰ
use mathlib.Core.List.{List, [], ◌∷◌}
use Prim.Native.Nat.{ℕ}
use lib.Dec.{eqb}
use borrow.Author.Tests.{eqb-true, not-true}
use Rattle.wfsx.specs.Sets.{Set, ◌∈◌, ◌∉◌, ◌⊆◌, ◌∪◌, add}
use Rattle.wfsx.specs.Program.{Rule}
use Rattle.wfsx.specs.Model.{holds, every, supported}
use Rattle.truth.proofs.Truth.{clash, decided, and_l, and_r, or_elim, or_r}
use Rattle.wfsx.proofs.Sets.{⊆_antisym, add_has, add_same, ⊆_add}
use Rattle.wfsx.proofs.Supported.{supported_map, holds_map, supported_intro, supported_none, supported_first}
use Rattle.fixpoint.specs.Pass.{fire, pass}

module _ (B S : Set) where
  -- U has what it supports, but for the heads in B
  abbrev pub Full : List Rule → Set → Type 0
  Full P U = (A : ℕ) → A ∉ B → A ∈ supported P (holds U S) → A ∈ U

  later : (r : Rule) (P : List Rule) (U : Set) → Full (r ∷ P) U → Full P U
  later r P U f A b h = f A b (supported_first r P (holds U S) A ∙ or_r (eqb r.head A && every (holds U S) r.body) (supported P (holds U S) A) h)

  -- ---- it only adds

  fire_grows : (r : Rule) (X : Set) → X ⊆ fire B S r X
  fire_grows r X = go (not (B r.head) && every (holds X S) r.body)
    where
      go : (b : Bool) → X ⊆ cond b (add r.head X) X
      go true = ⊆_add r.head X
      go false = λ A a. a

  pub pass_grows : (P : List Rule) (X : Set) → X ⊆ pass P B S X
  unfolding pass
  pass_grows [] X A a = a
  pass_grows (r ∷ P) X A a = pass_grows P (fire B S r X) A (fire_grows r X A a)

  -- ---- inside every closed set

  fire_inside : (r : Rule) (P : List Rule) (U X : Set) → Full (r ∷ P) U → X ⊆ U → fire B S r X ⊆ U
  fire_inside r P U X f h = go (decided (not (B r.head) && every (holds X S) r.body))
    where
      head_in_lem : not (B r.head) && every (holds X S) r.body ≡ true → r.head ∈ U
      head_in_lem e =
          f r.head (not-true (B r.head) (and_l (not (B r.head)) _ e))
          (supported_map (holds X S) (holds U S) (holds_map h (λ C c. c)) (r ∷ P) r.head
          (supported_intro (r ∷ P) (holds X S) r (Memᴰ.head refl) (and_r (not (B r.head)) _ e)))

      within : r.head ∈ U → (A : ℕ) → (eqb A r.head ≡ true) ⊎ (A ∈ X) → A ∈ U
      within m A (inl e) = ap U (eqb-true A r.head e) ∙ m
      within m A (inr a) = h A a

      go : (not (B r.head) && every (holds X S) r.body ≡ true) ⊎ (not (B r.head) && every (holds X S) r.body ≡ false) → fire B S r X ⊆ U
      go (inl e) = rw e (λ A a. within (head_in_lem e) A (or_elim (eqb A r.head) (X A) a))
      go (inr e) = rw e h

  pub pass_inside : (P : List Rule) (U X : Set) → Full P U → X ⊆ U → pass P B S X ⊆ U
  unfolding pass
  pass_inside [] U X f h A a = h A a
  pass_inside (r ∷ P) U X f h A a = pass_inside P U (fire B S r X) (later r P U f) (fire_inside r P U X f h) A a

  -- ---- closed where nothing is added

  fired : (r : Rule) (X : Set) → r.head ∉ B → every (holds X S) r.body ≡ true → r.head ∈ fire B S r X
  fired r X b e = rw (b, e) (add_has r.head X)

  pub pass_still : (P : List Rule) (X : Set) → pass P B S X ⊆ X → Full P X
  unfolding pass
  pass_still [] X h A b s = absurd (clash s (supported_none (holds X S) A))
  pass_still (r ∷ P) X h A b s =
      go (pass_still P X rest A b) (or_elim (eqb r.head A && every (holds X S) r.body) (supported P (holds X S) A) (sym (supported_first r P (holds X S) A) ∙ s))
    where
      kept : fire B S r X ⊆ X
      kept C c = h C (pass_grows P (fire B S r X) C c)

      rest : pass P B S X ⊆ X
      rest C c = h C (sym (ap (λ (U : Set). pass P B S U C) (⊆_antisym (fire_grows r X) kept)) ∙ c)

      go : (A ∈ supported P (holds X S) → A ∈ X) → (eqb r.head A && every (holds X S) r.body ≡ true) ⊎ (A ∈ supported P (holds X S)) → A ∈ X
      go others (inl e) =
          let is : r.head ≡ A = eqb-true r.head A (and_l (eqb r.head A) _ e) in
          ap X (sym is) ∙ kept r.head (fired r X (ap B is ∙ b) (and_r (eqb r.head A) _ e))
      go others (inr e) = others e

-- heads that are in the set already may as well be shut
pub pass_there_shut : (P : List Rule) (B S U X D : Set) → D ≡ U ∪ B → U ⊆ X → pass P D S X ≡ pass P B S X
unfolding pass
pass_there_shut [] B S U X D e h = refl
pass_there_shut (r ∷ P) B S U X D e h =
    ap (pass P D S) same ∙ pass_there_shut P B S U (fire B S r X) D e (λ A a. fire_grows B S r X A (h A a))
  where
    there : (b : Bool) → r.head ∈ X → X ≡ cond b (add r.head X) X
    there true x = sym (add_same r.head X x)
    there false x = refl

    go : (U r.head ≡ true) ⊎ (U r.head ≡ false) → cond (not (U r.head || B r.head) && every (holds X S) r.body) (add r.head X) X ≡ fire B S r X
    go (inl u) = rw u (there (not (B r.head) && every (holds X S) r.body) (h r.head u))
    go (inr u) = rw u refl

    same : fire D S r X ≡ fire B S r X
    same = ap (λ (C : Set). fire C S r X) e ∙ go (decided (U r.head))
