-- The rules that a step is given are the program's rules for the group: the runs of the group's names have the table's rules for them, and the facts kept are those for
-- them. Where a name has neither, no rule of the program is for it.
use mathlib.Core.Path.{◌≡◌, refl, sym, ◌∙◌, ap, subst}
use mathlib.Core.Logic.{◌⊎◌, inl, inr}
use mathlib.Core.Bool.{not, ◌||◌}
use mathlib.Core.List.Memᴰ
use mathlib.Core.List.{List, [], ◌∷◌, map}
use Prim.Native.Nat.{ℕ, ◌+◌, ◌-◌, ◌*◌, ◌/◌, ◌≤◌, ◌<◌}
use native.Mathlib.Decide.{ℕ_discrete, dec_lt}
use native.Mathlib.Omega.{arith}
use lib.ListN.{length, take, drop}
use borrow.Author.Tests.{eqb-true, not-false, lt-ltb}
use lib.Dec.{eqb}
use Rattle.truth.proofs.Truth.{clash, and_l, and_r, and_intro, neither}
use Rattle.wfsx.specs.Sets.{Set, ◌∈◌, ◌∉◌, ∅, ◌is_in◌, members}
use Rattle.wfsx.specs.Program.{Rule, Program, fact}
use Rattle.wfsx.specs.Model.{Heads⊆}
use Rattle.wfsx.specs.Reach.{name_of, name_for}
use Rattle.wfsx.proofs.Members.{members_are}
use Rattle.wfsx.proofs.Going.{RulesOf}
use Rattle.litset.specs.Words.{capacity, room}
use Rattle.book.specs.Limits.{max_names, max_rules}
use Rattle.book.specs.Book.{rows, head_at, rule_at, rules_in, rules_numbered, program}
use Rattle.book.proofs.Rows.{rows_map, in_rows}
use Rattle.book.proofs.Heads.{head_below}
use Rattle.index.specs.Index.{head_starts, head_rules}
use Rattle.index.proofs.Indexed.{start_of}
use Rattle.groups.specs.Parts.{run_of, runs_of, facts_for, used_in, UsedBelow}
use Rattle.groups.proofs.Runs.{runs_elim, runs_intro, run_has}
use Rattle.groups.proofs.Names.{among_is}

-- ---- which rules a program has

fact_there : (F : Set) (A : ℕ) → A ∈ F → A < capacity → fact A is_in map fact (members capacity F)
fact_there F A a l = Memᴰ.map fact ((members_are capacity F A).1 (a, l))

fact_cases : (F : Set) (r : Rule) → r is_in map fact (members capacity F) → (A : ℕ) × (A ∈ F) × (A < capacity) × (fact A ≡ r)
fact_cases F r m =
    let w = Memᴰ.of_map fact (members capacity F) m in
    let v = (members_are capacity F w.0).0 w.1 in
    (w.0, v.0, v.1, w.2)

module _ (heads starts entries : List ℕ) where
  table_has : (count j : ℕ) → j < count → rule_at heads starts entries j is_in rules_in heads starts entries count
  table_has count j h = rw (← rows_map (rule_at heads starts entries) 0 count) (Memᴰ.map (rule_at heads starts entries) ((in_rows 0 count j).1 (omega arith, omega arith)))

  table_cases : (count : ℕ) (r : Rule) → r is_in rules_in heads starts entries count → (j : ℕ) × (j < count) × (rule_at heads starts entries j ≡ r)
  table_cases count r m =
      let w = Memᴰ.of_map (rule_at heads starts entries) {b = r} (rows (λ k. k) 0 count) (rw (rows_map (rule_at heads starts entries) 0 count) m) in
      let v = (in_rows 0 count w.0).0 w.1 in
      (w.0, omega arith, w.2)

  -- no numbers and no facts make no rules
  pub no_rules : (l : List ℕ) {F : Set} → length l ≡ 0 → F ≡ ∅ → (r : Rule) → r is_in program (rules_numbered heads starts entries l) F → ⊥
  no_rules [] {F} e f r m = let w = fact_cases F r m in clash w.1 (ap (λ (S : Set). S w.0) f)
  no_rules (x ∷ l) e f r m = omega arith

  -- ---- the rules for a group

  module _ (count : ℕ) (few : count ≤ max_rules) (F : Set) (n : ℕ) (most : n ≤ max_names) where
    abbrev P : Program
    P = program (rules_in heads starts entries count) F

    module _ (W : Set) where
      abbrev names : List ℕ
      names = members n W

      abbrev numbers : List ℕ
      numbers = runs_of (head_starts heads count) (head_rules heads count) names

      abbrev G : Program
      G = program (rules_numbered heads starts entries numbers) (facts_for names F)

      number_is : (j : ℕ) → j is_in numbers → (j < count) × (head_at heads j / 2 ∈ W)
      number_is j m =
          let w = runs_elim (head_starts heads count) (head_rules heads count) names j m in
          let v = (members_are n W w.0).0 w.1 in
          let u = (run_has heads count few w.0 (omega (arith, v.1)) j).0 w.2 in
          (u.1, rw u.0 v.0)

      mine : (r : Rule) → r is_in G → r is_in P × (name_for r ∈ W)
      mine r m = go (Memᴰ.append_cases (rules_numbered heads starts entries numbers) m)
        where
          go : (r is_in rules_numbered heads starts entries numbers) ⊎ (r is_in map fact (members capacity (facts_for names F))) → r is_in P × (name_for r ∈ W)
          go (inl i) =
              let w = Memᴰ.of_map (rule_at heads starts entries) numbers i in
              let v = number_is w.0 w.1 in
              (Memᴰ.append_left (map fact (members capacity F)) (Memᴰ.cast (sym w.2) (table_has count w.0 v.0)), subst (λ (x : Rule). name_for x ∈ W) w.2 v.1)
          go (inr i) =
              let w = fact_cases (facts_for names F) r i in
              let named = (among_is names (name_of w.0)).0 (and_r (F w.0) _ w.1) in (
                Memᴰ.append_right (rules_in heads starts entries count) (Memᴰ.cast (sym w.3) (fact_there F w.0 (and_l (F w.0) _ w.1) w.2)),
                subst (λ (x : Rule). name_for x ∈ W) w.3 ((members_are n W (name_of w.0)).0 named).0,
              )

      all : (r : Rule) → r is_in P → name_for r < n → name_for r ∈ W → r is_in G
      all r m l w = go (Memᴰ.append_cases (rules_in heads starts entries count) m)
        where
          listed : name_for r is_in names
          listed = (members_are n W (name_for r)).1 (w, l)

          go : (r is_in rules_in heads starts entries count) ⊎ (r is_in map fact (members capacity F)) → r is_in G
          go (inl i) =
              let v = table_cases count r i in
              let name : head_at heads v.0 / 2 ≡ name_for r = ap name_for v.2 in
              Memᴰ.append_left (map fact (members capacity (facts_for names F)))
              (Memᴰ.cast (sym v.2) (Memᴰ.map (rule_at heads starts entries) (runs_intro (head_starts heads count) (head_rules heads count) names (name_for r) v.0 listed ((run_has heads count few (name_for r) (omega arith) v.0).1 (name, v.1)))))
          go (inr i) =
              let v = fact_cases F r i in
              let name : name_for r ≡ name_of v.0 = sym (ap name_for v.3) in
              Memᴰ.append_right (rules_numbered heads starts entries numbers)
              (Memᴰ.cast (sym v.3) (fact_there (facts_for names F) v.0 (and_intro (F v.0) _ v.1 ((among_is names (name_of v.0)).1 (rw name at listed))) v.2))

    -- the numbers that were gathered and the facts that were kept, as the code has them
    pub group_rules : ((r : Rule) → r is_in P → name_for r < n) → (W : Set) {l : List ℕ} {own : Set} → l ≡ runs_of (head_starts heads count) (head_rules heads count) (members n W)
        → own ≡ facts_for (members n W) F → RulesOf P W (program (rules_numbered heads starts entries l) own)
    group_rules named W e f = rw (e, f) (record { mine = mine W; all = λ r m w. all W r m (named r m) w })

    -- ---- a name with neither rule nor fact

    unused : (k : ℕ) → k ∉ used_in (head_starts heads count) F → (r : Rule) → r is_in P → name_for r ≡ k → k < max_names → ⊥
    unused k u r m e l = go (Memᴰ.append_cases (rules_in heads starts entries count) m)
      where
        out : (start_of heads count (2 * k) ≡ start_of heads count (2 * k + 2)) × (2 * k ∉ F) × (2 * k + 1 ∉ F)
        out =
            let w = neither (not (eqb (start_of heads count (2 * k)) (start_of heads count (2 * k + 2)))) (F (2 * k) || F (2 * k + 1)) u in
            let v = neither (F (2 * k)) (F (2 * k + 1)) w.1 in
            (eqb-true _ _ (not-false (eqb (start_of heads count (2 * k)) (start_of heads count (2 * k + 2))) w.0), v.0, v.1)

        none : run_of (head_starts heads count) (head_rules heads count) k ≡ []
        none =
            let zero : start_of heads count (2 * k + 2) - start_of heads count (2 * k) ≡ 0 = omega (arith, out.0) in
            ap (λ (x : ℕ). take x (drop (start_of heads count (2 * k)) (head_rules heads count))) zero

        no_fact : (A : ℕ) → A ∈ F → name_of A ≡ k → Dec (A ≡ 2 * k) → ⊥
        no_fact A a q (yes i) = clash (rw i at a) out.1
        no_fact A a q (no i) = let odd : A ≡ 2 * k + 1 = omega arith in clash (rw odd at a) out.2

        go : (r is_in rules_in heads starts entries count) ⊎ (r is_in map fact (members capacity F)) → ⊥
        go (inl i) =
            let v = table_cases count r i in
            let name : head_at heads v.0 / 2 ≡ k = ap name_for v.2 ∙ e in
            Memᴰ.not-nil (rw none at ((run_has heads count few k l v.0).1 (name, v.1)))
        go (inr i) = let v = fact_cases F r i in no_fact v.0 v.1 (ap name_for v.3 ∙ e) (ℕ_discrete v.0 (2 * k))

    head_small : (r : Rule) → r is_in P → r.head < capacity
    head_small r m = go (Memᴰ.append_cases (rules_in heads starts entries count) m)
      where
        go : (r is_in rules_in heads starts entries count) ⊎ (r is_in map fact (members capacity F)) → r.head < capacity
        go (inl i) = let v = table_cases count r i in subst (λ (x : Rule). x.head < capacity) v.2 (head_below heads v.0)
        go (inr i) = let v = fact_cases F r i in subst (λ (x : Rule). x.head < capacity) v.3 v.2

    pub heads_small : Heads⊆ P room
    heads_small r m = lt-ltb r.head capacity (head_small r m)

    head_name : (r : Rule) → r is_in P → name_for r < max_names
    head_name r m = omega (arith, head_small r m)

    pub all_named : UsedBelow (head_starts heads count) F n → (r : Rule) → r is_in P → name_for r < n
    all_named used r m = go (dec_lt (name_for r) n)
      where
        go : Dec (name_for r < n) → name_for r < n
        go (yes l) = l
        go (no l) = absurd (unused (name_for r) (used.none (name_for r) (omega arith) (head_name r m)) r m refl (head_name r m))
