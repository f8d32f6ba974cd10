-- The model group by group. Where M and N are known on U, and the rules for W outside of U speak of W alone, the step with these rules gives M and N on W: between the
-- rounds of the step and the I(k) of the whole program `carry` goes to and fro.
use mathlib.Core.Path.{◌≡◌, refl, sym, subst}
use mathlib.Core.Logic.{◌⊎◌, inl, inr}
use mathlib.Core.Bool.{not}
use mathlib.Core.List.Memᴰ
use mathlib.Core.List.{map}
use Prim.Native.Nat.{ℕ, zero, suc, ◌<◌}
use lib.ListN.{length}
use lib.Dec.{ltb}
use borrow.Author.Tests.{ltb-true}
use Rattle.wfsx.specs.Sets.{Set, ◌∈◌, ◌∉◌, ◌⊆◌, ∅, ◌is_in◌, iterate, members}
use Rattle.wfsx.specs.Program.{compl, Rule, Program, fact}
use Rattle.wfsx.specs.Model.{holds, every, supported, Γ, Γs, I, M, N, Heads⊆}
use Rattle.wfsx.specs.Reach.{name_of, name_for}
use Rattle.wfsx.specs.Groups.{Values, given, round_of, least_of, step}
use Rattle.truth.proofs.Truth.{clash, decided, contra}
use Rattle.wfsx.proofs.Sets.{⊆_antisym}
use Rattle.wfsx.proofs.Members.{members_are}
use Rattle.wfsx.proofs.Chain.{chain_inside, chain_stops}
use Rattle.wfsx.proofs.Supported.{heads, heads_most, every_none, supported_intro, supported_elim}
use Rattle.wfsx.proofs.Operators.{Γ-fixed, Γ-antitone, Γ-head, Γs-antitone, Γs-blocks, Γs-has, Γs⊆Γ, I⊆M, N-is, M-from_N, M-head, N-head}
use Rattle.wfsx.proofs.Contradiction.{heads_in}
use Rattle.wfsx.proofs.Relevance.{On, Speaks, carry, carry_s, Downward}

-- ---- the least fixpoint with Γ over P and Γs over Q

module _ (P Q : Program) where
  pub round_monotone : (S U : Set) → S ⊆ U → round_of P Q S ⊆ round_of P Q U
  round_monotone S U f = Γ-antitone P (Γs-antitone Q f)

  pub least_fixed : least_of P Q ≡ Γ P (Γs Q (least_of P Q))
  unfolding least_of
  least_fixed = chain_stops (round_of P Q) round_monotone (heads P) (λ n. Γ-head P (Γs Q (iterate (round_of P Q) ∅ n))) (length P) (heads_most P)

  pub least_inside : (U : Set) → Γ P (Γs Q U) ⊆ U → least_of P Q ⊆ U
  unfolding least_of
  least_inside U c = chain_inside (round_of P Q) round_monotone U c (length P)

  rounds_inside : (k : ℕ) → iterate (round_of P Q) ∅ k ⊆ least_of P Q
  rounds_inside = chain_inside (round_of P Q) round_monotone (least_of P Q) (λ A a. rw least_fixed a)

-- I(k) is where rounds of P with itself lead from nothing
pub I-rounds : (P : Program) (k : ℕ) → I P k ≡ iterate (round_of P P) ∅ k
unfolding I
I-rounds P k = refl

pub step_is : (b : ℕ) (G : Program) (v : Values) → step b G v
    ≡ record { truths = least_of (given b v.truths G) (given b v.nonfalse G); nonfalse = Γs (given b v.nonfalse G) (least_of (given b v.truths G) (given b v.nonfalse G)) }
unfolding step
step_is b G v = refl

-- the least fixpoint comes from what the two operators give, whatever the programs
pub least_same : (P P' Q Q' : Program) → ((S : Set) → Γ P S ≡ Γ P' S) → ((S : Set) → Γs Q S ≡ Γs Q' S) → least_of P Q ≡ least_of P' Q'
least_same P P' Q Q' p q = ⊆_antisym (one P P' Q Q' p q) (one P' P Q' Q (λ S. sym (p S)) (λ S. sym (q S)))
  where
    one : (P P' Q Q' : Program) → ((S : Set) → Γ P S ≡ Γ P' S) → ((S : Set) → Γs Q S ≡ Γs Q' S) → least_of P Q ⊆ least_of P' Q'
    one P P' Q Q' p q = least_inside P Q (least_of P' Q') (λ A a. rw (least_fixed P' Q') (rw (p (Γs Q (least_of P' Q')), q (least_of P' Q')) at a))

-- ---- facts

fact_in : (P : Program) (S : Set) (A : ℕ) → fact A is_in P → A ∈ Γ P S
fact_in P S A m = rw (Γ-fixed P S) (supported_intro P (holds (Γ P S) S) (fact A) m (every_none _))

fact_in_s : (P : Program) (S : Set) (A : ℕ) → fact A is_in P → compl A ∉ S → A ∈ Γs P S
fact_in_s P S A m c = Γs-has P S A c (supported_intro P (holds (Γs P S) S) (fact A) m (every_none _))

module _ (b : ℕ) (S : Set) (G : Program) where
  given_fact : (A : ℕ) → A ∈ S → A < b → fact A is_in given b S G
  given_fact A a l = Memᴰ.append_right G (Memᴰ.map fact ((members_are b S A).1 (a, l)))

  given_rule : (r : Rule) → r is_in G → r is_in given b S G
  given_rule r m = Memᴰ.append_left (map fact (members b S)) m

  given_cases : (r : Rule) → r is_in given b S G → (r is_in G) ⊎ (r.head ∈ S)
  given_cases r m = go (Memᴰ.append_cases G m)
    where
      go : (r is_in G) ⊎ (r is_in map fact (members b S)) → (r is_in G) ⊎ (r.head ∈ S)
      go (inl i) = inl i
      go (inr i) =
          let w = Memᴰ.of_map fact (members b S) i in
          inr (subst (λ (x : Rule). x.head ∈ S) w.2 ((members_are b S w.0).0 w.1).0)

-- ---- what is known

-- the values are those of P on the names of U, and hold nothing else that P does not
pub record Done (P : Program) (U : Set) (v : Values) : Type 0 where
  pub truths_in : v.truths ⊆ M P
  pub truths_has : On U (M P) v.truths
  pub nonfalse_in : v.nonfalse ⊆ N P
  pub nonfalse_has : On U (N P) v.nonfalse

-- G has the rules of P for the names of W outside of U, and only rules for W; those speak of W alone
pub record Group (P : Program) (U W : Set) (G : Program) : Type 0 where
  pub down : Downward P W
  pub mine : (r : Rule) → r is_in G → r is_in P × (name_for r ∈ W)
  pub all : (r : Rule) → r is_in P → name_for r ∈ W → name_for r ∉ U → r is_in G

module _ (b : ℕ) (P : Program) (small : Heads⊆ P (λ A. ltb A b)) (U W : Set) (G : Program) (g : Group P U W G) (v : Values) (done : Done P U v) where
  abbrev m : Set
  m = v.truths

  abbrev n : Set
  n = v.nonfalse

  M-small : (A : ℕ) → A ∈ M P → A < b
  M-small A h = ltb-true A b (heads_in P (λ A. ltb A b) small A (M-head P A h))

  N-small : (A : ℕ) → A ∈ N P → A < b
  N-small A h = ltb-true A b (heads_in P (λ A. ltb A b) small A (N-head P A h))

  -- Γs with the group's rules has N, over a set inside M
  N-low : (S : Set) → S ⊆ M P → On W (N P) (Γs (given b n G) S)
  unfolding N
  N-low S s = carry_s W P (given b n G) (λ A w h. s A h) (λ r i w h. go r i w h (decided (U (name_for r))))
    where
      go : (r : Rule) → r is_in P → name_for r ∈ W → r.head ∈ N P → (name_for r ∈ U) ⊎ (name_for r ∉ U)
          → (r.head ∈ Γs (given b n G) S) ⊎ (r is_in given b n G × Speaks W r)
      go r i w h (inl u) =
          inl (fact_in_s (given b n G) S r.head (given_fact b n G r.head (done.nonfalse_has r.head u h) (N-small r.head h))
          (contra (s (compl r.head)) (Γs-blocks P (M P) r.head h)))
      go r i w h (inr u) = inr (given_rule b n G r (g.all r i w u), g.down r i w)

  -- and lies in what P gives over a set X inside M
  N-high : (X S : Set) → X ⊆ M P → On W X S → On W (Γs (given b n G) S) (Γs P X)
  N-high X S x s = carry_s W (given b n G) P s (λ r i w h. go r w (given_cases b n G r i))
    where
      go : (r : Rule) → name_for r ∈ W → (r is_in G) ⊎ (r.head ∈ n) → (r.head ∈ Γs P X) ⊎ (r is_in P × Speaks W r)
      go r w (inl i) = inr ((g.mine r i).0, g.down r (g.mine r i).0 w)
      go r w (inr a) = inl (Γs-antitone P x r.head (rw (N-is P) at (done.nonfalse_in r.head a)))

  M-high : (T : Set) → On W (N P) T → On W (Γ (given b m G) T) (M P)
  M-high T t A w h = rw (M-from_N P) (carry W (given b m G) P t (λ r i w h. go r w (given_cases b m G r i)) A w h)
    where
      go : (r : Rule) → name_for r ∈ W → (r is_in G) ⊎ (r.head ∈ m) → (r.head ∈ Γ P (N P)) ⊎ (r is_in P × Speaks W r)
      go r w (inl i) = inr ((g.mine r i).0, g.down r (g.mine r i).0 w)
      go r w (inr a) = inl (rw (M-from_N P) at (done.truths_in r.head a))

  M-low : (S T : Set) → Γ P S ⊆ M P → On W T S → On W (Γ P S) (Γ (given b m G) T)
  M-low S T s t = carry W P (given b m G) t (λ r i w h. go r i w (s r.head h) (decided (U (name_for r))))
    where
      go : (r : Rule) → r is_in P → name_for r ∈ W → r.head ∈ M P → (name_for r ∈ U) ⊎ (name_for r ∉ U)
          → (r.head ∈ Γ (given b m G) T) ⊎ (r is_in given b m G × Speaks W r)
      go r i w h (inl u) = inl (fact_in (given b m G) T r.head (given_fact b m G r.head (done.truths_has r.head u h) (M-small r.head h)))
      go r i w h (inr u) = inr (given_rule b m G r (g.all r i w u), g.down r i w)

  -- what the group's program derives is in E or of W
  in_W : (E S X : Set) → E ⊆ X → On W (Γ (given b E G) S) X → Γ (given b E G) S ⊆ X
  in_W E S X e on A h =
      let w = supported_elim (given b E G) (holds (Γ (given b E G) S) S) A (rw (Γ-fixed (given b E G) S) at h) in
      go w.0 w.2 (given_cases b E G w.0 w.1)
    where
      go : (r : Rule) → r.head ≡ A → (r is_in G) ⊎ (r.head ∈ E) → A ∈ X
      go r q (inl i) = on A (rw q at (g.mine r i).1) h
      go r q (inr a) = e A (rw q at a)

  -- M with the group
  abbrev mine : Set
  mine = least_of (given b m G) (given b n G)

  abbrev J : ℕ → Set
  J k = iterate (round_of (given b m G) (given b n G)) ∅ k

  J-low : (k : ℕ) → On W (I P k) (J k)
  unfolding I
  J-low zero A w h = absurd (clash h refl)
  J-low (suc k) A w h = M-low (Γs P (I P k)) (Γs (given b n G) (J k)) (I⊆M P (suc k)) (N-high (I P k) (J k) (I⊆M P k) (J-low k)) A w h

  mine_in : mine ⊆ M P
  mine_in = least_inside (given b m G) (given b n G) (M P) (in_W m (Γs (given b n G) (M P)) (M P) done.truths_in (M-high (Γs (given b n G) (M P)) (N-low (M P) (λ A a. a))))

  mine_has : On W (M P) mine
  unfolding M
  mine_has A w h = rounds_inside (given b m G) (given b n G) (length P) A (J-low (length P) A w h)

  pub step_done : Done P W (step b G v)
  unfolding step
  step_done =
      record {
        truths_in = mine_in;
        truths_has = mine_has;
        nonfalse_in = N-in;
        nonfalse_has = N-low (mine) mine_in;
      }
    where
      on : On W (Γs (given b n G) (mine)) (N P)
      on A w h = rw (N-is P) (N-high (M P) (mine) (λ B k. k) mine_has A w h)

      N-in : Γs (given b n G) (mine) ⊆ N P
      N-in A h =
          let w = supported_elim (given b n G) _ A (Γs⊆Γ' A h) in
          go w.0 w.2 (given_cases b n G w.0 w.1)
        where
          Γs⊆Γ' : (A : ℕ) → A ∈ Γs (given b n G) (mine) → A ∈ supported (given b n G) (holds (Γ (given b n G) (mine)) (mine))
          Γs⊆Γ' A h = rw (Γ-fixed (given b n G) (mine)) at (Γs⊆Γ (given b n G) (mine) A h)

          go : (r : Rule) → r.head ≡ A → (r is_in G) ⊎ (r.head ∈ n) → A ∈ N P
          go r q (inl i) = on A (rw q at (g.mine r i).1) h
          go r q (inr a) = done.nonfalse_in A (rw q at a)

-- where every head's name is settled, the values are those of the program
pub done_all : (P : Program) (U : Set) (v : Values) → Done P U v → ((r : Rule) → r is_in P → name_for r ∈ U) → (v.truths ≡ M P) × (v.nonfalse ≡ N P)
done_all P U v d all = (⊆_antisym d.truths_in (λ A h. d.truths_has A (named A (M-head P A h)) h), ⊆_antisym d.nonfalse_in (λ A h. d.nonfalse_has A (named A (N-head P A h)) h))
  where
    named : (A : ℕ) → A is_in heads P → name_of A ∈ U
    named A i = heads_in P (λ A. U (name_of A)) all A i
