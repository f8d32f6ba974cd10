-- The names that reach a name with both literals in a set. A whole row has both literals of each name that its name reaches, and of no other name. So its
-- name reaches one with both literals in the set exactly where some name has both literals in the row and in the set.
use mathlib.Core.Path.{◌≡◌, refl, sym, ◌∙◌, ap}
use mathlib.Core.Logic.{◌⊎◌, inl, inr, ⊎_elim, ◌↔◌}
use mathlib.Core.Bool.{false, ◌&&◌}
use mathlib.Core.List.{List}
use Prim.Native.Nat.{ℕ, ◌+◌, ◌*◌, ◌<◌}
use native.Mathlib.Decide.{ℕ_discrete}
use native.Mathlib.Omega.{arith}
use lib.Dec.{eqb}
use borrow.Author.Tests.{eqb-true, eq-eqb}
use Rattle.truth.proofs.Truth.{clash, and_l, and_r, and_intro, or_elim, or_l, or_r}
use Rattle.wfsx.specs.Sets.{Set, ◌∈◌, ∅, ◌∪◌, ◌∖◌}
use Rattle.wfsx.specs.Program.{Program}
use Rattle.wfsx.specs.Model.{Both}
use Rattle.wfsx.specs.Reach.{name_of, reach, literals_of}
use Rattle.wfsx.specs.ContradictoryNames.{ReachesBoth}
use Rattle.wfsx.proofs.Reach.{reach_is}
use Rattle.std.specs.Prelude.{Some, None}
use Rattle.litset.specs.declared.LitSet.{LitSet}
use Rattle.reach.specs.Table.{row_set, with_name, both_in, WholeRows, ShareBoth, WithReaching, RowsHaving}
use Rattle.reach.specs.Reaching.{ReachingBoth}
use Rattle.reach.proofs.Names.{common, both_names, LowestOf}

-- ---- one row

module _ (F more row S shared rest : Set) (rest_is : rest ≡ row ∖ S) (shared-is : shared ≡ row ∖ rest) where
  -- a literal of both sets
  in_both : (A : ℕ) → shared A ≡ (row A && S A)
  in_both A = ap (λ (U : Set). U A) (shared-is ∙ ap (λ (U : Set). row ∖ U) rest_is) ∙ common row S A

  both_shared : (k : ℕ) → (k ∈ both_in shared) ↔ (Both row k × Both S k)
  both_shared k = (there, back)
    where
      there : k ∈ both_in shared → Both row k × Both S k
      there h =
          let plain = sym (in_both (2 * k)) ∙ and_l (shared (2 * k)) _ h in
          let negated = sym (in_both (2 * k + 1)) ∙ and_r (shared (2 * k)) _ h in
          ((and_l (row (2 * k)) _ plain, and_l (row (2 * k + 1)) _ negated), (and_r (row (2 * k)) _ plain, and_r (row (2 * k + 1)) _ negated))

      back : Both row k × Both S k → k ∈ both_in shared
      back (r, s) = and_intro _ _ (in_both (2 * k) ∙ and_intro _ _ r.0 s.0) (in_both (2 * k + 1) ∙ and_intro _ _ r.1 s.1)

  pub shares_none : LowestOf (both_in shared) None → (R : Set) → R ≡ F → WithReaching F more row S R
  shares_none none R e =
      record {
        exactly = λ A. (λ h. inl (rw e at h), ⊎_elim (λ h. rw e h) (λ h. absurd (clash ((both_shared h.1.0).1 (h.1.1, h.1.2)) (none h.1.0))));
      }

  pub shares_some : (k : ℕ) → LowestOf (both_in shared) (Some k) → (R : Set) → R ≡ F ∪ more → WithReaching F more row S R
  shares_some k low R e =
      let b = (both_shared k).0 low.0 in
      record {
        exactly = λ A. (λ h. ⊎_elim inl (λ m. inr (m, (k, b.0, b.1))) (or_elim (F A) (more A) (rw e at h)), λ h. rw e (⊎_elim (or_l (F A) (more A)) (λ m. or_r (F A) (more A) m.0) h));
      }

-- ---- row by row

-- the name k alone
alone : (k : ℕ) (more none : Set) → more ≡ with_name k none → none ≡ ∅ → (A : ℕ) → (A ∈ more) ↔ (name_of A ≡ k)
alone k more none is empty A =
    (λ h. ⊎_elim (λ e. eqb-true (name_of A) k e) (λ f. absurd (clash f refl)) (or_elim (eqb (name_of A) k) false (rw (is, empty) at h)), λ e. rw is (or_l (eqb (name_of A) k) _ (eq-eqb (name_of A) k e)))

module _ (table : List LitSet) (S : Set) where
  pub having_none : (R : Set) → R ≡ ∅ → RowsHaving table 0 S R
  having_none R e = record { exactly = λ A. (λ h. absurd (clash h (ap (λ (U : Set). U A) e)), λ w. absurd (omega (arith, w.0))) }

  pub having_more : (k : ℕ) (R more none row R' : Set) → RowsHaving table k S R → more ≡ with_name k none → none ≡ ∅ → row ≡ row_set table k → WithReaching R more row S R' → RowsHaving table (k + 1) S R'
  having_more k R more none row R' g is empty row_is w = record { exactly = λ A. (λ h. there A ((w.exactly A).0 h), λ h. (w.exactly A).1 (back A (ℕ_discrete (name_of A) k) h)) }
    where
      own : (A : ℕ) → name_of A ≡ k → row ≡ row_set table (name_of A)
      own A e = row_is ∙ ap (row_set table) (sym e)

      there : (A : ℕ) → (A ∈ R) ⊎ ((A ∈ more) × ShareBoth row S) → (name_of A < k + 1) × ShareBoth (row_set table (name_of A)) S
      there A (inl h) = let b = (g.exactly A).0 h in (omega (arith, b.0), b.1)
      there A (inr h) = let e = (alone k more none is empty A).0 h.0 in (omega arith, rw (← own A e) h.1)

      back : (A : ℕ) → Dec (name_of A ≡ k) → (name_of A < k + 1) × ShareBoth (row_set table (name_of A)) S → (A ∈ R) ⊎ ((A ∈ more) × ShareBoth row S)
      back A (yes e) h = inr ((alone k more none is empty A).1 e, rw (own A e) h.1)
      back A (no ne) h = inl ((g.exactly A).1 (omega (arith, h.0), h.1))

-- ---- whole rows

whole_shares : (P : Program) (S row : Set) (i : ℕ) → row ≡ literals_of (reach P i) → ShareBoth row S ↔ ReachesBoth P S i
whole_shares P S row i is = (λ (k, b, s). (k, (reach_is P i k).0 (sym (named k) ∙ and_intro _ _ b.0 b.1), s), λ (k, r, s). (k, two k (named k ∙ (reach_is P i k).1 r), s))
  where
    named : (k : ℕ) → both_in row k ≡ reach P i k
    named k = ap (λ (U : Set). U k) (both_names (reach P i) is)

    two : (k : ℕ) → k ∈ both_in row → Both row k
    two k h = (and_l (row (2 * k)) _ h, and_r (row (2 * k)) _ h)

pub reaching_is : (P : Program) (n : ℕ) (table : List LitSet) (S R : Set) → WholeRows P n table → RowsHaving table n S R → ReachingBoth P n S R
reaching_is P n table S R rows g =
    record {
      exactly = λ A.
          (λ h. let w = (g.exactly A).0 h in (w.0, (same (name_of A) w.0).0 w.1), λ w. (g.exactly A).1 (w.0, (same (name_of A) w.0).1 w.1));
    }
  where
    same : (i : ℕ) → i < n → ShareBoth (row_set table i) S ↔ ReachesBoth P S i
    same i l = whole_shares P S (row_set table i) i (rows.whole i l)

-- a set that has both literals of no name is reached by none
pub reaching_none : (P : Program) (n : ℕ) (S R : Set) → LowestOf (both_in S) None → R ≡ ∅ → ReachingBoth P n S R
reaching_none P n S R none e =
    record {
      exactly = λ A. (λ h. absurd (clash h (ap (λ (U : Set). U A) e)), λ w. absurd (clash (and_intro _ _ w.1.2.0 w.1.2.1) (none w.1.0)));
    }
