-- Γ and Γs by passes. From the start on, every set that the passes reach lies in Γ; where a pass adds nothing the set is closed, so Γ lies in it.
-- Rounds of the two from a set that the first round keeps: each set reached lies in the next. Each round before they stand still takes in a literal, so they
-- can be counted.
use mathlib.Core.Path.{◌≡◌, refl, sym, ◌∙◌, ap}
use mathlib.Core.Logic.{◌⊎◌, inl, inr}
use mathlib.Core.Bool.{Bool, true, false, not, ◌&&◌, ◌||◌, and-true, and-false, or_assoc}
use mathlib.Core.List.{List}
use Prim.Native.Nat.{ℕ, suc, ◌+◌, ◌≤◌, ◌<◌}
use native.Mathlib.Numerals.{add-one}
use native.Mathlib.Decide.{ℕ_discrete}
use native.Mathlib.Omega.{arith}
use borrow.Author.Tests.{not-true}
use Rattle.wfsx.specs.Sets.{Set, ◌∈◌, ◌⊆◌, ∅, ◌∪◌, ◌∖◌, iterate}
use Rattle.wfsx.specs.Program.{complements, Rule, Program, without_heads}
use Rattle.wfsx.specs.Model.{holds, supported, Γ, Γs}
use Rattle.wfsx.specs.Groups.{round_of}
use Rattle.truth.proofs.Truth.{not_intro, and_l, and_r, and_intro, or_elim, or_l, or_r}
use Rattle.wfsx.proofs.Sets.{⊆_antisym}
use Rattle.wfsx.proofs.Parts.{supported_without, Γ-with, Γ-same, Γs-without}
use Rattle.wfsx.proofs.Facts.{supported_facts}
use Rattle.wfsx.proofs.Operators.{Γ-fixed, Γ-inside}
use Rattle.wfsx.proofs.Steps.{round_monotone}
use Rattle.litset.specs.Words.{capacity}
use Rattle.litset.proofs.Room.{free, free_most, free_falls}
use Rattle.book.specs.Book.{program}
use Rattle.fixpoint.specs.Pass.{pass}
use Rattle.fixpoint.proofs.Pass.{Full, pass_grows, pass_inside, pass_still}

-- ---- passes over some rules, where the heads in B are shut and S decides the `not` entries

module _ (rules : List Rule) (B S : Set) where
  -- X has X₀, and lies in every closed set that has X₀
  pub record Growing (X₀ X : Set) : Type 0 where
    pub above : X₀ ⊆ X
    pub inside : (U : Set) → Full B S rules U → X₀ ⊆ U → X ⊆ U

  pub growing_start : (X₀ : Set) → Growing X₀ X₀
  growing_start X₀ = record { above = λ A a. a; inside = λ U f h. h }

  module _ (X : Set) {Y : Set} (step : Y ≡ pass rules B S X) where
    grows : X ⊆ Y
    grows A a = rw step (pass_grows B S rules X A a)

    pub growing_falls : ((A : ℕ) → A ∈ Y → A < capacity) → (X ≡ Y → ⊥) → free Y < free X
    growing_falls small ne = free_falls X Y grows small ne

    pub growing_more : {X₀ : Set} → Growing X₀ X → Growing X₀ Y
    growing_more g =
        record {
          above = λ A a. grows A (g.above A a);
          inside = λ U f h A a. pass_inside B S rules U X f (g.inside U f h) A (rw step at a);
        }

    pub growing_still : X ≡ Y → Full B S rules X
    growing_still e = pass_still B S rules X (λ A a. rw (e, step) a)

-- ---- the program that the passes run over: the rules that are not shut, and the start as facts

module _ (rules : List Rule) (B S X₀ : Set) (below : (A : ℕ) → A ∈ X₀ → A < capacity) where
  abbrev Goal : Set
  Goal = Γ (program (without_heads B rules) X₀) S

  goal_supported : (D : Set) (A : ℕ) → supported (program (without_heads B rules) X₀) (holds D S) A ≡ ((not (B A) && supported rules (holds D S) A) || X₀ A)
  goal_supported D A =
      supported_facts (without_heads B rules) capacity X₀ below (holds D S) A ∙ ap (λ (b : Bool). b || X₀ A) (supported_without B rules (holds D S) A)

  has : (A : ℕ) → (not (B A) && supported rules (holds Goal S) A) || X₀ A ≡ true → A ∈ Goal
  has A h = rw (Γ-fixed (program (without_heads B rules) X₀) S) (goal_supported Goal A ∙ h)

  pub growing_end : {X : Set} → Growing rules B S X₀ X → Full B S rules X → X ≡ Goal
  growing_end {X} g full = ⊆_antisym (g.inside Goal whole start) (Γ-inside (program (without_heads B rules) X₀) S X closed)
    where
      whole : Full B S rules Goal
      whole A b h = has A (or_l _ (X₀ A) (and_intro (not (B A)) _ (not_intro b) h))

      start : X₀ ⊆ Goal
      start A a = has A (or_r (not (B A) && supported rules (holds Goal S) A) (X₀ A) a)

      closed : supported (program (without_heads B rules) X₀) (holds X S) ⊆ X
      closed A h = go (or_elim (not (B A) && supported rules (holds X S) A) (X₀ A) (sym (goal_supported X A) ∙ h))
        where
          go : (not (B A) && supported rules (holds X S) A ≡ true) ⊎ (A ∈ X₀) → A ∈ X
          go (inl s) = full A (not-true (B A) (and_l (not (B A)) _ s)) (and_r (not (B A)) _ s)
          go (inr f) = g.above A f

-- ---- Γ and Γs by such a program

module _ (rules : List Rule) (F : Set) (below : (A : ℕ) → A ∈ F → A < capacity) (S : Set) where
  -- Γ(S), with nothing shut, from the facts and what is known to lie in it
  pub from_inside : {X X₀ B : Set} → B ≡ ∅ → X₀ ≡ F ∪ X → ((A : ℕ) → A ∈ X₀ → A < capacity) → X ⊆ Γ (program rules F) S
      → Γ (program (without_heads B rules) X₀) S ≡ Γ (program rules F) S
  from_inside {X} {X₀} {B} b x small inside =
      Γ-with (program rules F) (program (without_heads B rules) X₀) S X inside (λ D A.
      goal_supported rules B S X₀ small D A ∙ rw (b, x) (sym (or_assoc (supported rules (holds D S) A) (F A) (X A)))
      ∙ ap (λ (t : Bool). t || X A) (sym (supported_facts rules capacity F below (holds D S) A)))

  -- Γs(S), with the complements of S shut, from the facts that are not
  pub from_open : {X₀ B : Set} → B ≡ complements S → X₀ ≡ F ∖ B → ((A : ℕ) → A ∈ X₀ → A < capacity)
      → Γ (program (without_heads B rules) X₀) S ≡ Γs (program rules F) S
  from_open {X₀} {B} b x small =
      Γ-same (without_heads (complements S) (program rules F)) (program (without_heads B rules) X₀) S (λ D A.
      goal_supported rules B S X₀ small D A ∙ rw (x, b) (both (complements S A) (supported rules (holds D S) A) (F A))
      ∙ ap (λ (t : Bool). not (complements S A) && t) (sym (supported_facts rules capacity F below (holds D S) A))
      ∙ sym (supported_without (complements S) (program rules F) (holds D S) A))
      ∙ sym (Γs-without (program rules F) S)
    where
      both : (c r f : Bool) → ((not c && r) || (f && not c)) ≡ (not c && (r || f))
      both true r f = and-false f
      both false r f = ap (λ (t : Bool). r || t) (and-true f)

-- ---- rounds from X₀, with Γ over P and Γs over Q

module _ (P Q : Program) (X₀ : Set) where
  abbrev reached : ℕ → Set
  reached = iterate (round_of P Q) X₀

  -- X is reached after k rounds, and no round before added nothing; each took in a literal of those that a set has room for
  pub record Round (k : ℕ) (X : Set) : Type 0 where
    pub is : X ≡ reached k
    pub grown : X ⊆ round_of P Q X
    pub first : (j : ℕ) → reached j ≡ reached (suc j) → k ≤ j
    pub within : k + free X ≤ capacity

  pub round_start : X₀ ⊆ round_of P Q X₀ → Round 0 X₀
  round_start h = record { is = refl; grown = h; first = λ j s. omega arith; within = omega (arith, free_most X₀) }

  module _ {k : ℕ} {X U : Set} (g : Round k X) (u : U ≡ Γs Q X) where
    -- U is Γs(X): X lies in Γ(U)
    pub round_inside : X ⊆ Γ P U
    round_inside A a = rw u (g.grown A a)

    -- and Y is Γ(U)
    module _ {Y : Set} (y : Y ≡ Γ P U) where
      next : Y ≡ round_of P Q X
      next = y ∙ ap (Γ P) u

      next_is : Y ≡ reached (suc k)
      next_is = next ∙ ap (round_of P Q) g.is

      module _ (small : (A : ℕ) → A ∈ Y → A < capacity) (ne : X ≡ Y → ⊥) where
        pub round_falls : free Y < free X
        round_falls = free_falls X Y (λ A a. rw y (round_inside A a)) small ne

        pub round_more : Round (k + 1) Y
        round_more =
            record {
              is = next_is ∙ ap reached (sym (add-one k));
              grown = λ A a. rw next (round_monotone P Q X (round_of P Q X) g.grown A (rw next at a));
              first = later;
              within = let falls = round_falls in let before = g.within in omega arith;
            }
          where
            later : (j : ℕ) → reached j ≡ reached (suc j) → k + 1 ≤ j
            later j s = go (ℕ_discrete j k)
              where
                go : Dec (j ≡ k) → k + 1 ≤ j
                go (yes e) = absurd (ne (g.is ∙ rw e at s ∙ sym next_is))
                go (no e) = omega (arith, g.first j s)

      pub round_end : X ≡ Y → (Y ≡ reached k) × (Y ≡ round_of P Q Y) × (U ≡ Γs Q Y)
      round_end e = (sym e ∙ g.is, next ∙ ap (round_of P Q) e, u ∙ ap (Γs Q) e)
