-- The loops over the entries of a sheet: each looks at one entry after the other, and what it has come to is what the definition says of the entries it has
-- seen.
use mathlib.Core.Path.{◌≡◌, refl, sym, ◌∙◌, ap, fun_ext}
use mathlib.Core.Logic.{◌⊎◌, inl, inr}
use mathlib.Core.Bool.{Bool, true, false, cond, ◌&&◌, ◌||◌}
use mathlib.Core.List.{List, [], ◌∷◌, ◌++◌}
use Prim.Native.Nat.{ℕ, zero, suc, ◌+◌, ◌-◌, ◌≤◌, ◌<◌}
use native.Mathlib.Numerals.{add-one}
use native.Mathlib.Decide.{dec_lt, ℕ_discrete}
use native.Mathlib.Omega.{arith}
use lib.Dec.{eqb, ltb}
use borrow.Author.Tests.{eqb-true, lt-ltb, le-ltb}
use Rattle.std.specs.Prelude.{Ok, Err}
use Rattle.truth.proofs.Truth.{decided, or_r}
use Rattle.wfsx.specs.Sets.{Set, ∅, add}
use Rattle.litset.specs.Words.{capacity, with}
use Rattle.book.specs.Book.{rows}
use Rattle.book.proofs.Rows.{rows_none, rows_step, rows_end, rows_last}
use Rattle.sheet.specs.Sheet.{listed, Fault, at, first_failing, among}
use Rattle.sheet.specs.Turns.{numbered, literals, FirstFailing, same_group, in_room, RunTo}
use Rattle.sheet.specs.declared.SheetEntry.{SheetEntry}

-- ---- the numbers of earlier groups

-- a number that an entry before place k has is one that an entry before a later place has
numbered_kept : (e : ℕ → SheetEntry) (g i k : ℕ) → k ≤ i → numbered e k g ≡ true → numbered e i g ≡ true
unfolding numbered
numbered_kept e g zero k h y = let z : k ≡ 0 = omega arith in rw z at y
numbered_kept e g (suc i) k h y = at_last (ℕ_discrete k (suc i)) (λ l. numbered_kept e g i k l y)
  where
    at_last : Dec (k ≡ suc i) → (k ≤ i → numbered e i g ≡ true) → numbered e (suc i) g ≡ true
    at_last (yes z) earlier = rw z at y
    at_last (no z) earlier = or_r (eqb (e i).kind 0 && eqb g (e i).group) _ (earlier (omega arith))

module _ (e : ℕ → SheetEntry) (g : ℕ) where
  pub numbered_none : numbered e 0 g ≡ false
  unfolding numbered
  numbered_none = refl

  -- entry j tested, where none before it has the number
  module _ {j : ℕ} (so_far : numbered e j g ≡ false) {x : SheetEntry} (is : x ≡ e j) {b : Bool} (test : b ≡ (eqb x.kind 0 && eqb g x.group)) where
    there : numbered e (j + 1) g ≡ b
    unfolding numbered
    there = rw (add-one j, so_far, ← is, ← test) (or_false b)
      where
        or_false : (b : Bool) → (b || false) ≡ b
        or_false true = refl
        or_false false = refl

    pub numbered_other : b ≡ false → numbered e (j + 1) g ≡ false
    numbered_other y = there ∙ y

    pub numbered_found : {i : ℕ} → j < i → b ≡ true → true ≡ numbered e i g
    numbered_found {i} h y = sym (numbered_kept e g i (j + 1) (omega arith) (there ∙ y))

-- ---- the first entry whose literal fails a test

-- those before k pass
pub record Passing (f : ℕ → Bool) (e : ℕ → SheetEntry) (i j k : ℕ) : Type 0 where
  pub to_j : k ≤ j
  pub same : (after : Fault) → first_failing f i (literals e i j) after ≡ first_failing f k (literals e k j) after

module _ {f : ℕ → Bool} {e : ℕ → SheetEntry} {i j k : ℕ} (p : Passing f e i j k) where
  pub passing_all : j ≤ k → FirstFailing f e i j (Ok tt)
  unfolding first_failing
  passing_all h = record { within = tt; found = λ after. p.same after ∙ rw (rows_end (λ x. (e x).literal) k j h) refl }

  module _ (h : k < j) {x : SheetEntry} (is : x ≡ e k) {l : ℕ} (literal_is : l ≡ x.literal) {b : Bool} (test : b ≡ f l) where
    here : (after : Fault) → first_failing f i (literals e i j) after ≡ cond b (first_failing f (k + 1) (literals e (k + 1) j) after) (at k)
    unfolding first_failing
    here after = p.same after ∙ rw (rows_step (λ x. (e x).literal) k j h, add-one k, ← is, ← literal_is, ← test) refl

    pub passing_more : b ≡ true → Passing f e i j (k + 1)
    passing_more y = record { to_j = omega arith; same = λ after. here after ∙ rw y refl }

    pub passing_fails : b ≡ false → FirstFailing f e i j (Err k)
    passing_fails y = record { within = h; found = λ after. here after ∙ rw y refl }

-- ---- the claim among the entries

-- it is not among those before j
abbrev pub Unseen : (k A : ℕ) → (ℕ → SheetEntry) → (n j : ℕ) → Type 0
Unseen k A e n j = among k A (rows e 0 n) ≡ among k A (rows e j (n - j))

module _ (k A : ℕ) (e : ℕ → SheetEntry) (n : ℕ) where
  module _ {j : ℕ} (u : Unseen k A e n j) where
    pub unseen_all : n ≤ j → false ≡ among k A (rows e 0 n)
    unfolding among
    unseen_all h = sym (u ∙ rw (rows_end e j n h) refl)

    module _ (h : j < n) {x : SheetEntry} (is : x ≡ e j) {b : Bool} (test : b ≡ (eqb x.kind k && eqb A x.literal)) where
      next : among k A (rows e 0 n) ≡ (b || among k A (rows e (j + 1) (n - (j + 1))))
      unfolding among
      next = u ∙ rw (rows_step e j n h, ← is, ← test) refl

      pub unseen_found : b ≡ true → true ≡ among k A (rows e 0 n)
      unseen_found y = sym (next ∙ rw y refl)

      pub unseen_more : b ≡ false → Unseen k A e n (j + 1)
      unseen_more y = next ∙ rw y refl

-- ---- a group

listed_none : listed [] ≡ ∅
unfolding listed
listed_none = refl

listed_more : (As : List ℕ) (A : ℕ) → listed (As ++ (A ∷ [])) ≡ add A (listed As)
unfolding listed
listed_more [] A = refl
listed_more (C ∷ As) A = ap (add C) (listed_more As A) ∙ fun_ext (λ B. go (eqb B C) (eqb B A) (listed As B))
  where
    go : (c a l : Bool) → (c || (a || l)) ≡ (a || (c || l))
    go true true l = refl
    go true false l = refl
    go false a l = refl

-- a literal added as far as there is room
with_in_room : (l : ℕ) (S : Set) → with l (in_room S) ≡ in_room (add l S)
unfolding with
with_in_room l S = fun_ext (λ A. go A (dec_lt l capacity) (decided (eqb A l)))
  where
    go : (A : ℕ) → Dec (l < capacity) → (eqb A l ≡ true) ⊎ (eqb A l ≡ false) → cond (ltb l capacity) (add l (in_room S)) (in_room S) A ≡ (ltb A capacity && (eqb A l || S A))
    go A (yes h) (inl q) = rw (lt-ltb l capacity h, q, lt-ltb A capacity (omega (arith, eqb-true A l q))) refl
    go A (yes h) (inr q) = rw (lt-ltb l capacity h, q) refl
    go A (no h) (inl q) = rw (le-ltb l capacity (omega arith), le-ltb A capacity (omega (arith, eqb-true A l q))) refl
    go A (no h) (inr q) = rw (le-ltb l capacity (omega arith), q) refl

literals_more : (e : ℕ → SheetEntry) (i j : ℕ) → i ≤ j → listed (literals e i (j + 1)) ≡ add (e j).literal (listed (literals e i j))
literals_more e i j h =
    let more : j + 1 - i ≡ j - i + 1 = omega arith in
    let end : i + (j - i) ≡ j = omega arith in
    rw (more, rows_last (λ k. (e k).literal) i (j - i), end) (listed_more (literals e i j) (e j).literal)

module _ {e : ℕ → SheetEntry} {i n : ℕ} where
  pub run_first : i < n → {x : SheetEntry} → x ≡ e i → {l : ℕ} → l ≡ x.literal → {S : Set} → S ≡ with l ∅ → RunTo e i n (i + 1) S
  run_first h {x} is {l} literal_is s =
      record {
        above = omega arith;
        within = omega arith;
        runs = λ k a b. absurd (omega arith);
        members = s ∙ ap (with l) none_yet ∙ with_in_room l (listed (literals e i i)) ∙ ap in_room (rw (literal_is, is) (sym (literals_more e i i (omega arith))));
      }
    where
      none_yet : ∅ ≡ in_room (listed (literals e i i))
      none_yet = let none : i - i ≡ 0 = omega arith in rw (none, rows_none (λ k. (e k).literal) i, listed_none) (fun_ext (λ A. go (ltb A capacity)))
        where
          go : (b : Bool) → false ≡ (b && false)
          go true = refl
          go false = refl

  module _ {j : ℕ} {S : Set} (p : RunTo e i n j S) {x first : SheetEntry} (is : x ≡ e j) (first_is : first ≡ e i) {b : Bool}
      (test : b ≡ (eqb x.kind 0 && eqb first.group x.group)) where
    same_group_lem : b ≡ same_group e i j
    same_group_lem = test ∙ rw (is, first_is) refl

    pub run_more : j < n → b ≡ true → {l : ℕ} → l ≡ x.literal → {U : Set} → U ≡ with l S → RunTo e i n (j + 1) U
    run_more h y {l} literal_is u =
        let above = p.above in
        record {
          above = omega arith;
          within = omega arith;
          runs = λ k a b. next k a (omega arith) (ℕ_discrete k j);
          members = u ∙ ap (with l) p.members ∙ with_in_room l (listed (literals e i j)) ∙ ap in_room (rw (literal_is, is) (sym (literals_more e i j (omega arith))));
        }
      where
        next : (k : ℕ) → i < k → k ≤ j → Dec (k ≡ j) → same_group e i k ≡ true
        next k a b (yes q) = rw q (sym same_group_lem ∙ y)
        next k a b (no q) = p.runs k a (omega arith)
