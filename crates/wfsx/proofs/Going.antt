-- The model group by group in working order. What holds on the way: the listed names are closed downward, and M and N are known on them. A step with the rules of the
-- next group keeps that; where a group has no rules there is nothing to do for it; and where every name is listed M and N are those of the whole program.
use mathlib.Core.Path.{◌≡◌, sym, ◌∙◌, refl}
use mathlib.Core.Logic.{◌⊎◌, inl, inr}
use mathlib.Core.Bool.{true, false, ◌||◌}
use mathlib.Core.List.Memᴰ
use mathlib.Core.List.{List}
use Prim.Native.Nat.{ℕ, ◌≤◌, ◌<◌}
use native.Mathlib.Decide.{dec_lt}
use native.Mathlib.Omega.{arith}
use lib.Dec.{leb, ltb}
use borrow.Author.Tests.{ltb-true, lt-ltb, le-leb, leb-true}
use Rattle.truth.proofs.Truth.{clash, and_l, or_elim, or_l, or_r}
use Rattle.wfsx.specs.Sets.{Set, ◌∈◌, ◌∉◌, ◌⊆◌, ∅, ◌∪◌, ◌is_in◌}
use Rattle.wfsx.specs.Program.{Rule, Program}
use Rattle.wfsx.specs.Model.{M, N, Heads⊆}
use Rattle.wfsx.specs.Reach.{name_of, name_for, name_in, Reaches, reach, group, rules_for}
use Rattle.wfsx.specs.Groups.{MayCome, InOrder, all_listed, comes_next, Values, no_values, step, settle_all, by_groups}
use Rattle.wfsx.proofs.Supported.{heads}
use Rattle.wfsx.proofs.Operators.{M-head, N-head}
use Rattle.wfsx.proofs.Contradiction.{heads_in}
use Rattle.wfsx.proofs.Reach.{reach_body, reach_is, group_at, group_is}
use Rattle.wfsx.proofs.Relevance.{Downward, for_intro, for_elim}
use Rattle.wfsx.proofs.Steps.{Done, Group, step_done, done_all}
use Rattle.wfsx.proofs.Order.{in_order}

-- G has the rules of P for the names in W, and no others
pub record RulesOf (P : Program) (W : Set) (G : Program) : Type 0 where
  pub mine : (r : Rule) → r is_in G → r is_in P × (name_for r ∈ W)
  pub all : (r : Rule) → r is_in P → name_for r ∈ W → r is_in G

pub rules_for_lem : (P : Program) (W : Set) → RulesOf P W (rules_for W P)
rules_for_lem P W = record { mine = for_elim W P; all = for_intro W P }

-- a program whose rules are for names below n
module _ (P : Program) (n : ℕ) (named : (r : Rule) → r is_in P → name_for r < n) where
  -- names from n on have no rules, so they count as settled
  pub settled : Set → Set
  settled listed j = leb n j || listed j

  settled_elim : (listed : Set) (r : Rule) → r is_in P → name_for r ∈ settled listed → name_for r ∈ listed
  unfolding settled
  settled_elim listed r m h = go (or_elim (leb n (name_for r)) (listed (name_for r)) h)
    where
      go : (leb n (name_for r) ≡ true) ⊎ (name_for r ∈ listed) → name_for r ∈ listed
      go (inl e) = absurd (omega (arith, leb-true n (name_for r) e, named r m))
      go (inr l) = l

  settled_more : (listed G : Set) → settled listed ⊆ settled (listed ∪ G)
  unfolding settled
  settled_more listed G j h = go (or_elim (leb n j) (listed j) h)
    where
      go : (leb n j ≡ true) ⊎ (j ∈ listed) → j ∈ settled (listed ∪ G)
      go (inl e) = or_l (leb n j) _ e
      go (inr l) = or_r (leb n j) _ (or_l (listed j) _ l)

  settled_here : (listed : Set) (j : ℕ) → (j < n → j ∈ listed) → j ∈ settled listed
  unfolding settled
  settled_here listed j f = go (dec_lt j n)
    where
      go : Dec (j < n) → leb n j || listed j ≡ true
      go (yes l) = or_r (leb n j) _ (f l)
      go (no l) = or_l (leb n j) _ (le-leb n j (omega arith))

  -- the values are those of P on the names that are listed, which are closed downward
  pub record Going (listed : Set) (v : Values) : Type 0 where
    pub down : Downward P (settled listed)
    pub done : Done P (settled listed) v

  module _ {listed : Set} {k : ℕ} (c : MayCome P n listed k) where
    next_down : Downward P (settled listed) → Downward P (settled (listed ∪ group P k))
    next_down down r m w e i = go (or_elim (listed (name_for r)) (group P k (name_for r)) (settled_elim (listed ∪ group P k) r m w))
      where
        go : (name_for r ∈ listed) ⊎ (name_for r ∈ group P k) → name_in e ∈ settled (listed ∪ group P k)
        go (inl l) = settled_more listed (group P k) (name_in e) (down r m (settled_here listed (name_for r) (λ _. l)) e i)
        go (inr g) =
            let to : name_in e ∈ reach P k = reach_body P k r e m (and_l (reach P k (name_for r)) _ (sym (group_at P k (name_for r)) ∙ g)) i in
            settled_here (listed ∪ group P k) (name_in e) (λ l. join ((reach_is P k (name_in e)).0 to) (c.others_listed (name_in e) l ((reach_is P k (name_in e)).0 to)))
          where
            join : Reaches P k (name_in e) → Reaches P (name_in e) k ⊎ (name_in e ∈ listed) → name_in e ∈ listed ∪ group P k
            join to (inl back) = or_r (listed (name_in e)) _ ((group_is P k (name_in e)).1 (to, back))
            join to (inr l) = or_l (listed (name_in e)) _ l

    -- the group's rules are those of the settled names that were not settled before
    next_group : (G : Program) → RulesOf P (group P k) G → Downward P (settled listed) → Group P (settled listed) (settled (listed ∪ group P k)) G
    next_group G g down =
        record {
          down = next_down down;
          mine = λ r m. ((g.mine r m).0, settled_here (listed ∪ group P k) (name_for r) (λ _. or_r (listed (name_for r)) _ (g.mine r m).1));
          all = λ r m w u. g.all r m (new r u (or_elim (listed (name_for r)) (group P k (name_for r)) (settled_elim (listed ∪ group P k) r m w)));
        }
      where
        new : (r : Rule) → name_for r ∉ settled listed → (name_for r ∈ listed) ⊎ (name_for r ∈ group P k) → name_for r ∈ group P k
        new r u (inl l) = absurd (clash (settled_here listed (name_for r) (λ _. l)) u)
        new r u (inr g) = g

    -- a step with the group's rules, in whatever order they stand
    pub going_more : (b : ℕ) → Heads⊆ P (λ A. ltb A b) → (G : Program) → RulesOf P (group P k) G → (v : Values) → Going listed v → Going (listed ∪ group P k) (step b G v)
    going_more b small G g v h =
        record {
          down = next_down h.down;
          done = step_done b P small (settled listed) (settled (listed ∪ group P k)) G (next_group G g h.down) v h.done;
        }

    -- a group without rules
    pub going_past : ((r : Rule) → r is_in P → name_for r ∈ group P k → ⊥) → (v : Values) → Going listed v → Going (listed ∪ group P k) v
    going_past none v h =
        record {
          down = next_down h.down;
          done =
              record {
                truths_in = h.done.truths_in;
                truths_has = λ A w m. h.done.truths_has A (known A w (M-head P A m)) m;
                nonfalse_in = h.done.nonfalse_in;
                nonfalse_has = λ A w m. h.done.nonfalse_has A (known A w (N-head P A m)) m;
              };
        }
      where
        -- the name of a head that is settled now was settled before
        known : (A : ℕ) → name_of A ∈ settled (listed ∪ group P k) → A is_in heads P → name_of A ∈ settled listed
        known A w i = go (Memᴰ.of_map (λ (r : Rule). r.head) P i)
          where
            go : (r : Rule) × r is_in P × (r.head ≡ A) → name_of A ∈ settled listed
            go (r, m, e) = settled_here listed (name_of A) (λ l. last (or_elim (listed (name_for r)) (group P k (name_for r)) (settled_elim (listed ∪ group P k) r m (rw e w))))
              where
                last : (name_for r ∈ listed) ⊎ (name_for r ∈ group P k) → name_of A ∈ listed
                last (inl l) = rw e at l
                last (inr g) = absurd (none r m g)

  none_settled : (j : ℕ) → j ∈ settled ∅ → n ≤ j
  unfolding settled
  none_settled j h = go (or_elim (leb n j) false h)
    where
      go : (leb n j ≡ true) ⊎ (false ≡ true) → n ≤ j
      go (inl e) = leb-true n j e
      go (inr e) = absurd (clash e refl)

  -- at the start nothing is known
  pub going_start : Going ∅ no_values
  going_start =
      record {
        down = λ r m w. absurd (clash (settled_elim ∅ r m w) refl);
        done =
            record {
              truths_in = λ A h. absurd (clash h refl);
              truths_has = λ A w h. absurd (past A w (M-head P A h));
              nonfalse_in = λ A h. absurd (clash h refl);
              nonfalse_has = λ A w h. absurd (past A w (N-head P A h));
            };
      }
    where
      past : (A : ℕ) → name_of A ∈ settled ∅ → A is_in heads P → ⊥
      past A w i = omega (arith, ltb-true (name_of A) n (heads_in P (λ B. ltb (name_of B) n) (λ r m. lt-ltb (name_for r) n (named r m)) A i), none_settled (name_of A) w)

  pub going_end : {listed : Set} (v : Values) → Going listed v → ((j : ℕ) → j < n → j ∈ listed) → (v.truths ≡ M P) × (v.nonfalse ≡ N P)
  going_end {listed} v h all = done_all P (settled listed) v h.done (λ r m. settled_here listed (name_for r) (all (name_for r)))

  -- ---- the definition's own steps

  module _ (b : ℕ) (small : Heads⊆ P (λ A. ltb A b)) where
    steps_done : {listed : Set} {ks : List ℕ} → InOrder P n listed ks → (v : Values) → Going listed v
        → ((settle_all b P v ks).truths ≡ M P) × ((settle_all b P v ks).nonfalse ≡ N P)
    unfolding settle_all
    steps_done (all_listed all) v h = going_end v h all
    steps_done (comes_next {k = k} c low rest) v h =
        steps_done rest (step b (rules_for (group P k) P) v) (going_more c b small (rules_for (group P k) P) (rules_for_lem P (group P k)) v h)

    -- M and N by steps in working order are those of the whole program, contradictory ones included
    pub groups_settle : ((by_groups b P n).truths ≡ M P) × ((by_groups b P n).nonfalse ≡ N P)
    unfolding by_groups
    groups_settle = steps_done (in_order P n) no_values going_start
