-- Where the rounds stand still. From nothing, with the same facts for Γ and Γs, that is M. From what counts as facts in Γ it is the least fixpoint of a step too: every
-- round has those facts, so the rounds begin and stay inside every fixpoint. The step's program holds its facts twice over, which supports the same.
use mathlib.Core.Path.{◌≡◌, sym, ◌∙◌, ap}
use mathlib.Core.Logic.{⊎_elim}
use mathlib.Core.Bool.{Bool, ◌||◌, or_assoc}
use mathlib.Core.List.{List}
use Prim.Native.Nat.{ℕ, suc, ◌<◌}
use native.Mathlib.Nat.{le_of_eq}
use Rattle.truth.proofs.Truth.{or_elim, or_r}
use Rattle.wfsx.specs.Sets.{Set, ◌∈◌, ◌⊆◌, ∅, ◌∪◌}
use Rattle.wfsx.specs.Program.{Entry, Rule, Program}
use Rattle.wfsx.specs.Model.{holds, supported, Γ, Γs, M}
use Rattle.wfsx.specs.Rounds.{rounds}
use Rattle.wfsx.specs.Groups.{round_of, given, least_of}
use Rattle.wfsx.specs.Groups as groups
use Rattle.wfsx.proofs.Sets.{⊆_antisym}
use Rattle.wfsx.proofs.Chain.{chain_within}
use Rattle.wfsx.proofs.Parts.{Γ-same, Γs-same}
use Rattle.wfsx.proofs.Facts.{supported_facts}
use Rattle.wfsx.proofs.Operators.{Γ-fixed, N-is}
use Rattle.wfsx.proofs.Rounds.{rounds_only, M-from_rounds}
use Rattle.wfsx.proofs.Steps.{round_monotone, least_fixed, least_inside, I-rounds, step_is, least_same}
use Rattle.litset.specs.Words.{capacity, set_of}
use Rattle.book.specs.Book.{program}
use Rattle.fixpoint.specs.Pass.{SettledFrom}
use Rattle.fixpoint.specs.Result.{ModelOf, StepOf, values_of}
use Rattle.fixpoint.specs.declared.Model.{Model}
use Rattle.fixpoint.specs.declared.Values.{Values}

-- ---- the whole model

pub model_settled : (P : Program) (m : Model) → SettledFrom P P ∅ m → ModelOf P m
model_settled P m s = record { truths = truths; nonfalse = s.nonfalse ∙ ap (Γs P) truths ∙ sym (N-is P); rounds = least }
  where
    least : m.rounds ≡ rounds P
    least =
        rounds_only P m.rounds
        (record {
          still = I-rounds P m.rounds ∙ sym s.reached ∙ s.still ∙ ap (round_of P P) s.reached ∙ sym (I-rounds P (suc m.rounds));
          least = λ j h. s.first j (sym (I-rounds P j) ∙ h ∙ I-rounds P (suc j));
        })

    truths : set_of m.truths.words ≡ M P
    truths = s.reached ∙ sym (I-rounds P m.rounds) ∙ M-from_rounds P m.rounds (le_of_eq (sym least))

-- ---- facts

abbrev Small : Set → Type 0
Small S = (A : ℕ) → A ∈ S → A < capacity

module _ (rules : List Rule) (F : Set) (small : Small F) where
  -- every Γ has the facts
  pub facts_inside : (S : Set) → F ⊆ Γ (program rules F) S
  facts_inside S A a = rw (Γ-fixed (program rules F) S) (supported_facts rules capacity F small _ A ∙ or_r (supported rules _ A) (F A) a)

  -- more facts are given to a program with facts
  module _ (E : Set) (also : Small E) where
    joint_small : Small (F ∪ E)
    joint_small A h = ⊎_elim (small A) (also A) (or_elim (F A) (E A) h)

    given_supports : (f : Entry → Bool) (A : ℕ) → supported (given capacity E (program rules F)) f A ≡ supported (program rules (F ∪ E)) f A
    given_supports f A =
        supported_facts (program rules F) capacity E also f A ∙ ap (λ (b : Bool). b || E A) (supported_facts rules capacity F small f A)
        ∙ or_assoc (supported rules f A) (F A) (E A) ∙ sym (supported_facts rules capacity (F ∪ E) joint_small f A)

    given_Γ : (S : Set) → Γ (program rules (F ∪ E)) S ≡ Γ (given capacity E (program rules F)) S
    given_Γ S = sym (Γ-same (program rules (F ∪ E)) (given capacity E (program rules F)) S (λ D. given_supports (holds D S)))

    given_Γs : (S : Set) → Γs (program rules (F ∪ E)) S ≡ Γs (given capacity E (program rules F)) S
    given_Γs S = sym (Γs-same (program rules (F ∪ E)) (given capacity E (program rules F)) S (λ D. given_supports (holds D S)))

-- ---- a step

-- rounds that begin in the least fixpoint end there
least_settled : (P Q : Program) (S : Set) (m : Model) → S ⊆ least_of P Q → SettledFrom P Q S m → set_of m.truths.words ≡ least_of P Q
least_settled P Q S m low s =
    ⊆_antisym (λ A a. chain_within (round_of P Q) (round_monotone P Q) S (least_of P Q) low (λ B b. rw (least_fixed P Q) b) m.rounds A (rw s.reached at a))
    (least_inside P Q (set_of m.truths.words) (λ A a. rw s.still a))

module _ (rules : List Rule) (F : Set) (small : Small F) (v : Values) (m-small : Small (set_of v.truths.words)) (n-small : Small (set_of v.nonfalse.words)) where
  -- K counts as facts in Γ, O in Γs
  pub step_settled : {K O : Set} → K ≡ F ∪ set_of v.truths.words → O ≡ F ∪ set_of v.nonfalse.words → (m : Model)
      → SettledFrom (program rules K) (program rules O) K m → StepOf (program rules F) v (record { truths = m.truths; nonfalse = m.nonfalse })
  step_settled {K} {O} k o m s =
      let T = set_of v.truths.words in
      let U = set_of v.nonfalse.words in
      let P = program rules (F ∪ T) in
      let Q = program rules (F ∪ U) in
      let t : SettledFrom P Q (F ∪ T) m = rw (k, o) at s in
      let least : set_of m.truths.words ≡ least_of P Q =
      least_settled P Q (F ∪ T) m (λ A a. rw (least_fixed P Q) (facts_inside rules (F ∪ T) (joint_small rules F small T m-small) (Γs Q (least_of P Q)) A a)) t in
      let is = step_is capacity (program rules F) (values_of v) in
      let same : set_of m.truths.words ≡ least_of (given capacity T (program rules F)) (given capacity U (program rules F)) =
      least ∙ least_same P (given capacity T (program rules F)) Q (given capacity U (program rules F)) (given_Γ rules F small T m-small) (given_Γs rules F small U n-small) in
      record {
        truths = same ∙ ap (λ (w : groups.Values). w.truths) (sym is);
        nonfalse = t.nonfalse ∙ ap (Γs Q) same ∙ given_Γs rules F small U n-small _ ∙ ap (λ (w : groups.Values). w.nonfalse) (sym is);
      }
