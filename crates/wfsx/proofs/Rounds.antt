-- How many rounds a model takes. Each round before the I(k) stand still takes a literal of M in, which is a head, so they stand still after at most as many
-- rounds as there are distinct heads; from there on each of them is M.
use mathlib.Core.Path.{◌≡◌, refl, sym, ◌∙◌, ap}
use mathlib.Core.Logic.{◌⊎◌, inl, inr, ⊎_elim, ◌↔◌}
use mathlib.Core.Bool.{Bool, true, false, not, cond, ◌||◌}
use mathlib.Core.List.Memᴰ
use mathlib.Core.List.{List, [], ◌∷◌, map}
use Prim.Native.Nat.{ℕ, zero, suc, ◌+◌, ◌-◌, ◌*◌, ◌/◌, ◌≤◌, ◌<◌}
use native.Mathlib.Nat.{le_refl, le_trans, le_antisymm, le_of_eq}
use native.Mathlib.Numerals.{unary_clauses}
use native.Mathlib.Decide.{ℕ_discrete}
use native.Mathlib.Omega.{arith}
use lib.ListN.{length, length-map}
use borrow.Author.Tests.{not-true}
use Rattle.wfsx.specs.Sets.{Set, ◌∈◌, ◌is_in◌, members}
use Rattle.wfsx.specs.Program.{Program}
use Rattle.wfsx.specs.Model.{Γ, Γs, headed, head_count, I, M, Both}
use Rattle.wfsx.specs.Rounds.{Still, LeastStill, has_heads, first_still, rounds}
use Rattle.truth.proofs.Truth.{clash, decided, not_intro, and_l, and_r, and_intro, or_elim, or_l, or_r}
use Rattle.wfsx.proofs.Sets.{⊆_antisym}
use Rattle.wfsx.proofs.Members.{members_are, length_most}
use Rattle.wfsx.proofs.Chain.{chain_stops}
use Rattle.wfsx.proofs.Supported.{heads, heads_most}
use Rattle.wfsx.proofs.Operators.{Γ-head, ΓΓs, ΓΓs-monotone, I-next, I-grows, I⊆M, M-least, M-head, M-headed}

-- ---- the test of the heads

has_heads_lem : (P : Program) (S U : Set) → (has_heads P S U ≡ true) ↔ ((A : ℕ) → A is_in heads P → A ∈ U → A ∈ S)
unfolding has_heads
has_heads_lem [] S U = (λ e A m u. elim m [ ], λ f. refl)
has_heads_lem (r ∷ P) S U =
    let rest = has_heads_lem P S U in
    let here = S r.head || not (U r.head) in
    (λ e. each (and_l here _ e) (rest.0 (and_r here _ e)), λ f. and_intro here _ (go f (decided (U r.head))) (rest.1 (λ A m. f A (Memᴰ.tail m))))
  where
    each : S r.head || not (U r.head) ≡ true → ((A : ℕ) → A is_in heads P → A ∈ U → A ∈ S) → (A : ℕ) → A is_in heads (r ∷ P) → A ∈ U → A ∈ S
    each h rest A (Memᴰ.head e) u = rw e (⊎_elim (λ s. s) (λ n. absurd (clash (rw e at u) (not-true (U r.head) n))) (or_elim (S r.head) _ h))
    each h rest A (Memᴰ.tail m) u = rest A m u

    go : ((A : ℕ) → A is_in heads (r ∷ P) → A ∈ U → A ∈ S) → (r.head ∈ U) ⊎ (U r.head ≡ false) → S r.head || not (U r.head) ≡ true
    go f (inl u) = or_l (S r.head) _ (f r.head (Memᴰ.head refl) u)
    go f (inr u) = or_r (S r.head) _ (not_intro u)

-- the numbers below n
abbrev numbers : ℕ → List ℕ
numbers n = members n (λ _. true)

number_in : (n A : ℕ) → A < n → A is_in numbers n
number_in n A h = (members_are n (λ _. true) A).1 (refl, h)

module _ (P : Program) where
  -- ---- where I stands still

  still_test : (k : ℕ) → (has_heads P (I P k) (I P (suc k)) ≡ true) ↔ Still P k
  still_test k =
      let test = has_heads_lem P (I P k) (I P (suc k)) in
      (λ e. ⊆_antisym (I-grows P k) (λ A a. test.0 e A (Γ-head P (Γs P (I P k)) A (rw (I-next P k) at a)) a), λ s. test.1 (λ A m a. rw s a))

  still_next : (k : ℕ) → Still P k → Still P (suc k)
  still_next k s = I-next P k ∙ ap (λ (S : Set). Γ P (Γs P S)) s ∙ sym (I-next P (suc k))

  still_on : (k n : ℕ) → Still P k → Still P (k + n)
  still_on k zero s = simp unary_clauses s
  still_on k (suc n) s = simp unary_clauses (still_next (k + n) (still_on k n s))

  -- after as many rounds as a list that has all of M has entries
  still_within : (H : List ℕ) → ((A : ℕ) → A ∈ M P → A is_in H) → (n : ℕ) → length H ≤ n → Still P n
  unfolding I
  still_within H all n h = chain_stops (ΓΓs P) (ΓΓs-monotone P) H (λ k A a. all A (I⊆M P (suc k) A a)) n h

  still_is_M : (k : ℕ) → Still P k → I P k ≡ M P
  still_is_M k s = ⊆_antisym (I⊆M P k) (M-least P (I P k) (λ A a. rw (s, I-next P k) a))

  -- ---- the least such number

  -- where I stands still at the end of the n numbers from k on, b is the first of them at which it does
  abbrev FirstFrom : ℕ → ℕ → Type 0
  FirstFrom k b = Still P b × ((j : ℕ) → k ≤ j → Still P j → b ≤ j)

  first_still_lem : (k n : ℕ) → Still P (k + n) → FirstFrom k (first_still P k n)
  unfolding first_still
  first_still_lem k zero s = (simp unary_clauses at s, λ j h _. h)
  first_still_lem k (suc n) s =
      let turn : suc k + n ≡ k + suc n = omega arith in
      go (first_still_lem (suc k) n (rw turn s)) (has_heads P (I P k) (I P (suc k))) refl
    where
      go : FirstFrom (suc k) (first_still P (suc k) n) → (b : Bool) → has_heads P (I P k) (I P (suc k)) ≡ b → FirstFrom k (cond b k (first_still P (suc k) n))
      go rest true e = ((still_test k).0 e, λ j h _. h)
      go rest false e = (rest.0, λ j h s. rest.1 j (later j h (ℕ_discrete j k) s) s)
        where
          later : (j : ℕ) → k ≤ j → Dec (j ≡ k) → Still P j → suc k ≤ j
          later j h (yes q) s = absurd (clash ((still_test k).1 (rw q at s)) e)
          later j h (no ne) s = omega arith

  -- the number worked out is the least k with I(k) = I(k + 1), so there is one
  pub rounds_are : LeastStill P (rounds P)
  unfolding rounds
  rounds_are =
      let found = first_still_lem 0 (length P) (still_within (heads P) (M-head P) (0 + length P) (omega (arith, heads_most P))) in
      record { still = found.0; least = λ j s. found.1 j (omega arith) s }

  -- and the only one
  pub rounds_only : (k : ℕ) → LeastStill P k → k ≡ rounds P
  rounds_only k l = le_antisymm (l.least (rounds P) rounds_are.still) (rounds_are.least k l.still)

  rounds_within : (H : List ℕ) → ((A : ℕ) → A ∈ M P → A is_in H) → rounds P ≤ length H
  rounds_within H all = rounds_are.least (length H) (still_within H all (length H) (le_refl (length H)))

  -- where n is above every head: never above the count of distinct heads, and so not above n
  module _ (n : ℕ) (below : (A : ℕ) → A is_in heads P → A < n) where
    pub rounds_most : rounds P ≤ head_count n P
    unfolding head_count
    rounds_most = rounds_within (members n (headed P)) (λ A a. (members_are n (headed P) A).1 (M-headed P A a, below A (M-head P A a)))

    pub rounds_below : rounds P ≤ n
    unfolding head_count
    rounds_below = le_trans rounds_most (length_most (headed P) 0 n)

  -- where M has both literals of no name, never above the count of names: M has at most one literal of each
  pub rounds_by_names : (n : ℕ) → ((A : ℕ) → A is_in heads P → A < 2 * n) → ((i : ℕ) → Both (M P) i → ⊥) → rounds P ≤ n
  rounds_by_names n below one = le_trans (rounds_within (map its (numbers n)) all) (le_trans (le_of_eq (length-map (numbers n) its)) (length_most (λ _. true) 0 n))
    where
      -- the literal of a name that M may have
      its : ℕ → ℕ
      its i = cond (M P (2 * i)) (2 * i) (2 * i + 1)

      all : (A : ℕ) → A ∈ M P → A is_in map its (numbers n)
      all A a = rw (← go (M P (2 * (A / 2))) refl (ℕ_discrete A (2 * (A / 2)))) (Memᴰ.map its (number_in n (A / 2) (omega (arith, below A (M-head P A a)))))
        where
          go : (b : Bool) → M P (2 * (A / 2)) ≡ b → Dec (A ≡ 2 * (A / 2)) → cond b (2 * (A / 2)) (2 * (A / 2) + 1) ≡ A
          go true e (yes q) = sym q
          go true e (no ne) = absurd (one (A / 2) (e, let odd : A ≡ 2 * (A / 2) + 1 = omega arith in ap (M P) (sym odd) ∙ a))
          go false e (yes q) = absurd (clash (ap (M P) (sym q) ∙ a) e)
          go false e (no ne) = omega arith

  -- from there on I stands still, and is M
  pub M-from_rounds : (j : ℕ) → rounds P ≤ j → I P j ≡ M P
  M-from_rounds j h =
      let k = rounds P in
      let there : k + (j - k) ≡ j = omega arith in
      rw there at (still_is_M (k + (j - k)) (still_on k (j - k) rounds_are.still))
