-- Which groups follow, and why a sheet to which nothing can be added has all of M and all that lies outside N. Literals that are not known may count as
-- facts in Γs: then a group follows whatever the rules are, and where all literals are known it makes no difference.
use mathlib.Core.Path.{◌≡◌, refl, sym, ◌∙◌}
use mathlib.Core.Logic.{◌⊎◌, ⊎_elim}
use mathlib.Core.Bool.{true, not, ◌||◌}
use mathlib.Core.List.Memᴰ
use mathlib.Core.List.{List, [], ◌∷◌}
use Prim.Native.Nat.{ℕ, ◌<◌}
use borrow.Author.Tests.{not-true}
use Rattle.truth.proofs.Truth.{clash, decided, refuted, contra, not_intro, and_l, and_r, and_intro}
use Rattle.wfsx.specs.Sets.{Set, ◌∈◌, ◌∉◌, ◌⊆◌, ◌∪◌, ◌is_in◌}
use Rattle.wfsx.specs.Program.{compl, Entry, positive, default, Rule, Program, seminormal}
use Rattle.wfsx.specs.Model.{holds, every, supported, Γ, Γs, M, N}
use Rattle.wfsx.proofs.Supported.{supported_seminormal, every_intro, every_elim, supported_intro, supported_elim}
use Rattle.wfsx.proofs.Operators.{derived_seminormal, Γ-ind, Γ-inside, Γs-is, Γs-has, Γs-antitone, M-least, N-is}
use Rattle.sheet.specs.Sheet.{shown, answered, every_rule}
use Rattle.sheet.specs.Turns.{beyond, open_in}
use Rattle.sheet.proofs.Open.{not_open}
use Rattle.maker.specs.Result.{Within}

-- ---- a group follows where it has, with the literals already false, each positive body literal outside Γs(T). Q has the rules of P and perhaps others.

module _ (P Q : Program) (inside : (r : Rule) → r is_in P → r is_in Q) (T F G : Set)
    (covers : (r : Rule) → r is_in P → (B : ℕ) → positive B is_in r.body → B ∉ Γs Q T → F B || G B ≡ true) where
  pub group_follows : (A : ℕ) → A ∉ Γs Q T → every_rule (answered T F G) P A ≡ true
  group_follows A a = not_open T F G P A ∙ not_intro (refuted (λ o. clash (derived o) a))
    where
      -- an entry that holds over what is outside F and G holds over Γs(T)
      in_Γs : (r : Rule) → r is_in P → (e : Entry) → e is_in r.body → holds (beyond (F ∪ G)) T e ≡ true → holds (Γs Q T) T e ≡ true
      in_Γs r m (positive B) i h = ⊎_elim (λ y. y) (λ y. absurd (clash (covers r m B i y) (not-true (F B || G B) h))) (decided (Γs Q T B))
      in_Γs r m (default C) i h = h

      -- so a literal with a rule left open is in Γs(T)
      derived : A ∈ open_in P T (F ∪ G) → A ∈ Γs Q T
      derived o =
          let w = sym (supported_seminormal P (holds (beyond (F ∪ G)) T) A) ∙ o in
          let r = supported_elim P (holds (beyond (F ∪ G)) T) A (and_r (not (T (compl A))) _ w) in
          Γs-has Q T A (not-true (T (compl A)) (and_l (not (T (compl A))) _ w))
          (rw r.2 at (supported_intro Q (holds (Γs Q T) T) r.0 (inside r.0 r.1) (every_intro (holds (Γs Q T) T) r.0.body (λ e i. in_Γs r.0 r.1 e i (every_elim (holds (beyond (F ∪ G)) T) r.0.body r.3 e i)))))

-- ---- rules for unknown literals derive no known literal

module _ (P Q : Program) (n : ℕ) (within : Within n P) (others : (r : Rule) → r is_in Q → (r is_in P) ⊎ (r.head < n → ⊥)) (T : Set) where
  pub known_only : (A : ℕ) → A < n → A ∈ Γs Q T → A ∈ Γs P T
  known_only A l h =
      Γ-ind (seminormal Q) T (λ A. A < n → A ∈ Γs P T) derives A (rw (Γs-is Q T) at h) l
    where
      derives : (D : Set) → ((B : ℕ) → B ∈ D → B < n → B ∈ Γs P T) → (A : ℕ) → A ∈ Γ (seminormal Q) T → A ∈ supported (seminormal Q) (holds D T) → A < n → A ∈ Γs P T
      derives D d A _ s l =
          let w = sym (derived_seminormal Q T D A) ∙ s in
          let r = supported_elim Q (holds D T) A (and_r (not (T (compl A))) _ w) in
          ⊎_elim (λ m. Γs-has P T A (not-true (T (compl A)) (and_l (not (T (compl A))) _ w))
          (rw r.2 at (supported_intro P (holds (Γs P T) T) r.0 m (every_intro (holds (Γs P T) T) r.0.body (λ e i. in_model e i m (every_elim (holds D T) r.0.body r.3 e i))))))
          (λ o. absurd (o (rw r.2 l))) (others r.0 r.1)
        where
          in_model : {r : Rule} (e : Entry) → e is_in r.body → r is_in P → holds D T e ≡ true → holds (Γs P T) T e ≡ true
          in_model {r} (positive B) i m h = d B h (within.positive_below r m B i)
          in_model (default C) i m h = h

-- ---- where no rule adds a "true" entry, T has M, and F has the known literals outside N

module _ (P : Program) (n : ℕ) (within : Within n P) (T F : Set) (covers : (B : ℕ) → B < n → B ∉ Γs P T → B ∈ F) (full : supported P (shown T F) ⊆ T) where
  body_shown : (es : List Entry) → ((C : ℕ) → default C is_in es → C < n) → every (holds T (Γs P T)) es ≡ true → every (shown T F) es ≡ true
  unfolding every
  body_shown [] k h = refl
  body_shown (positive B ∷ es) k h = and_intro (T B) _ (and_l (T B) _ h) (body_shown es (λ C m. k C (Memᴰ.tail m)) (and_r (T B) _ h))
  body_shown (default C ∷ es) k h =
      and_intro (F C) _ (covers C (k C (Memᴰ.head refl)) (not-true (Γs P T C) (and_l (not (Γs P T C)) _ h)))
      (body_shown es (λ B m. k B (Memᴰ.tail m)) (and_r (not (Γs P T C)) _ h))

  pub all_true : M P ⊆ T
  all_true = M-least P T (Γ-inside P (Γs P T) T (λ A h.
      let w = supported_elim P (holds T (Γs P T)) A h in
      full A (rw w.2 at (supported_intro P (shown T F) w.0 w.1 (body_shown w.0.body (within.default_below w.0 w.1) w.3)))))

  pub all_false : (A : ℕ) → A < n → A ∉ N P → A ∈ F
  all_false A a o = covers A a (contra (λ h. rw (N-is P) (Γs-antitone P all_true A h)) o)
