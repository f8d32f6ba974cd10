-- The working order of the groups, and the model worked out group by group in that order (document 02, A.5).
use Rattle.std.specs.Prelude.{◌⊎◌, Bool, true, false, not, ◌&&◌, List, [], ◌∷◌, map, ℕ, zero, suc, ◌<◌, length}
use Rattle.wfsx.specs.Sets.{Set, ◌∈◌, ◌∉◌, ∅, ◌∪◌, ◌∖◌, iterate, members}
use Rattle.wfsx.specs.Program.{Program, with_facts}
use Rattle.wfsx.specs.Model.{Γ, Γs}
use Rattle.wfsx.specs.Reach.{Reaches, reach, group_by, group, rules_for}

-- ---- the working order of the names below n

-- The group of k may come next: it is not listed, and whatever else it reaches is.
pub record MayCome (P : Program) (n : ℕ) (listed : Set) (k : ℕ) : Type 0 where
  pub below : k < n
  pub unlisted : k ∉ listed
  pub others_listed : (j : ℕ) → j < n → Reaches P k j → Reaches P j k ⊎ (j ∈ listed)

-- A list of names, one for each group that is left, in working order: of the groups that may come next the one with the lowest name number is taken, and
-- at the end every name is listed.
pub data InOrder (P : Program) (n : ℕ) : Set → List ℕ → Type 0 where
  all_listed : {listed : Set} → ((j : ℕ) → j < n → j ∈ listed) → InOrder P n listed []
  comes_next : {listed : Set} {k : ℕ} {ks : List ℕ} → MayCome P n listed k → ((j : ℕ) → j < k → MayCome P n listed j → ⊥)
      → InOrder P n (listed ∪ group P k) ks → InOrder P n listed (k ∷ ks)

-- ---- the same, worked out, where R says which names each name reaches

abbrev pub is_none : List ℕ → Bool
is_none [] = true
is_none (k ∷ ks) = false

-- whatever else the group of k reaches is listed
unfoldable pub is_ready : (ℕ → Set) → ℕ → Set → Set
is_ready R n listed k = is_none (members n (R k ∖ group_by R k ∖ listed))

-- the names whose group may come next
unfoldable pub may_come : (ℕ → Set) → ℕ → Set → Set
may_come R n listed k = not (listed k) && is_ready R n listed k

-- the first of a list, and what follows it
abbrev pub first_of : List ℕ → (ℕ → List ℕ) → List ℕ
first_of [] next = []
first_of (k ∷ ks) next = k ∷ next k

-- the lowest name of each group that is not listed, in working order: each turn lists a group, so as many turns as there are names are enough
unfoldable pub leaders_from : (ℕ → Set) → ℕ → Set → (turns : ℕ) → List ℕ
leaders_from R n listed zero = []
leaders_from R n listed (suc t) = first_of (members n (may_come R n listed)) (λ k. leaders_from R n (listed ∪ group_by R k) t)

-- the groups in working order, the names of each by number
unfoldable pub order_by : (ℕ → Set) → ℕ → List (List ℕ)
order_by R n = map (λ k. members n (group_by R k)) (leaders_from R n ∅ n)

unfoldable pub leaders : Program → ℕ → List ℕ
leaders P n = leaders_from (reach P) n ∅ n

unfoldable pub working_order : Program → ℕ → List (List ℕ)
working_order P n = order_by (reach P) n

-- ---- the model group by group

-- M and N, of the whole program or of some of its groups
pub record Values : Type 0 where
  pub truths : Set
  pub nonfalse : Set

-- nothing is settled
abbrev pub no_values : Values
no_values = record { truths = ∅; nonfalse = ∅ }

-- the rules of a group, and the literals of S below b as facts
abbrev pub given : ℕ → Set → Program → Program
given b S G = with_facts G (members b S)

-- one round, with Γ over P and Γs over Q
abbrev pub round_of : Program → Program → Set → Set
round_of P Q S = Γ P (Γs Q S)

-- the least set that a round keeps, worked out as M is
unfoldable pub least_of : Program → Program → Set
least_of P Q = iterate (round_of P Q) ∅ (length P)

-- The step: from the group's rules G, facts too, and M and N of the groups before, to M and N with the group. M of the groups before counts as facts in Γ, and N
-- of the groups before as facts in Γs. All literals are below b.
unfoldable pub step : ℕ → Program → Values → Values
step b G before =
    let P = given b before.truths G in
    let Q = given b before.nonfalse G in
    record { truths = least_of P Q; nonfalse = Γs Q (least_of P Q) }

-- one step for each group, by a name of it
unfoldable pub settle_all : ℕ → Program → Values → List ℕ → Values
settle_all b P before [] = before
settle_all b P before (k ∷ ks) = settle_all b P (step b (rules_for (group P k) P) before) ks

-- the model of P by steps in working order, for the names below n
unfoldable pub by_groups : ℕ → Program → ℕ → Values
by_groups b P n = settle_all b P no_values (leaders P n)
