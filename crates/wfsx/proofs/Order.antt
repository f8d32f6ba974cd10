-- The working order. While a name is not listed some group may come next: of the names that are left, one that reaches fewest. So every name is listed, each
-- once, whatever else a group reaches comes before it, and at each place the lowest name stands that may. There is one such list.
use mathlib.Core.Path.{◌≡◌, refl, sym, ◌∙◌, ap, fun_ext}
use mathlib.Core.Logic.{◌⊎◌, inl, inr, ◌↔◌}
use mathlib.Core.Bool.{Bool, true, false, not, cond, ◌&&◌, ◌||◌}
use mathlib.Core.List.Memᴰ
use mathlib.Core.List.{List, [], ◌∷◌, ◌++◌, map}
use Prim.Native.Nat.{ℕ, zero, suc, ◌+◌, ◌≤◌, ◌<◌}
use native.Mathlib.Decide.{dec_lt, ℕ_discrete}
use native.Mathlib.Omega.{arith}
use lib.ListN.{length}
use borrow.Author.Tests.{not-true, not-false}
use Rattle.truth.proofs.Truth.{clash, decided, refuted, not_intro, and_l, and_r, and_intro, or_elim, or_l, or_r}
use Rattle.wfsx.specs.Sets.{Set, ◌∈◌, ◌∉◌, ∅, ◌∪◌, ◌∖◌, ◌is_in◌, members_from, members}
use Rattle.wfsx.specs.Program.{Rule, Program, with_facts}
use Rattle.wfsx.specs.Reach.{Reaches, reach, group_by, group}
use Rattle.wfsx.specs.Groups.{MayCome, InOrder, all_listed, comes_next, is_none, is_ready, may_come, first_of, leaders_from, leaders, order_by, working_order}
use Rattle.wfsx.proofs.Sets.{outside, outside_most, outside_falls}
use Rattle.wfsx.proofs.Members.{members_are, length_none, length_first, length_most}
use Rattle.wfsx.proofs.Reach.{reach_itself, reach_trans, reach_is, group_at, group_is, reach_facts}

-- ---- lists of members

none_has : (l : List ℕ) (x : ℕ) → is_none l ≡ true → x is_in l → ⊥
none_has [] x e m = Memᴰ.not-nil m
none_has (y ∷ l) x e m = clash e refl

some_has : (l : List ℕ) → is_none l ≡ false → (x : ℕ) × x is_in l
some_has [] e = absurd (clash refl e)
some_has (y ∷ l) e = (y, Memᴰ.head refl)

none_below : (n : ℕ) (S : Set) → (is_none (members n S) ≡ true) ↔ ((j : ℕ) → j < n → j ∉ S)
none_below n S = (λ e j l. refuted (λ h. none_has (members n S) j e ((members_are n S j).1 (h, l))), back)
  where
    back : ((j : ℕ) → j < n → j ∉ S) → is_none (members n S) ≡ true
    back f = not-false (is_none (members n S)) (refuted (λ h.
        let w = some_has (members n S) (not-true (is_none (members n S)) h) in
        let v = (members_are n S w.0).0 w.1 in
        clash v.0 (f w.0 v.1)))

-- a list of members begins with the lowest
first_lowest : (S : Set) (b n k : ℕ) (ks : List ℕ) → members_from S b n ≡ k ∷ ks → (j : ℕ) → b ≤ j → j < k → j ∉ S
unfolding members_from
first_lowest S b zero k ks e j l h = let z : ◌≡◌ {A = ℕ} 0 1 = cc in absurd (omega arith)
first_lowest S b (suc n) k ks e j l h = go (first_lowest S (suc b) n k ks) (S b) refl e (ℕ_discrete b j)
  where
    go : (members_from S (suc b) n ≡ k ∷ ks → (j : ℕ) → suc b ≤ j → j < k → j ∉ S) → (t : Bool) → S b ≡ t
        → cond t (b ∷ members_from S (suc b) n) (members_from S (suc b) n) ≡ k ∷ ks → Dec (b ≡ j) → j ∉ S
    go rest true q e d = let same : b ≡ k = cc in absurd (omega arith)
    go rest false q e (yes i) = rw (← i) q
    go rest false q e (no i) = rest e j (omega arith) h

-- without names there are no groups
pub order_empty : (P : Program) → working_order P 0 ≡ []
unfolding working_order order_by leaders_from
order_empty P = refl

-- facts alter no order
pub order_facts : (rules : List Rule) (l : List ℕ) (n : ℕ) → working_order (with_facts rules l) n ≡ working_order rules n
unfolding working_order
order_facts rules l n = ap (λ (R : ℕ → Set). order_by R n) (fun_ext (reach_facts rules l))

module _ (P : Program) where
  pub group_itself : (k : ℕ) → k ∈ group P k
  group_itself k = group_at P k k ∙ and_intro _ _ (reach_itself P k) (reach_itself P k)

  same_group_lem : (i k j : ℕ) → j ∈ group P i → j ∈ group P k → i ∈ group P k
  same_group_lem i k j a b =
      let x = sym (group_at P i j) ∙ a in
      let y = sym (group_at P k j) ∙ b in
      group_at P k i
      ∙ and_intro _ _ (reach_trans P k j i (and_l (reach P k j) _ y) (and_r (reach P i j) _ x)) (reach_trans P i j k (and_l (reach P i j) _ x) (and_r (reach P k j) _ y))

module _ (P : Program) (n : ℕ) where
  -- ---- which groups may come next

  -- the names that k reaches, but for its group and those listed
  abbrev waits : Set → ℕ → Set
  waits listed k = reach P k ∖ group_by (reach P) k ∖ listed

  waits_elim : (listed : Set) (k j : ℕ) → j ∈ waits listed k → (j ∈ reach P k) × (k ∉ reach P j) × (j ∉ listed)
  waits_elim listed k j h =
      let a = and_l (reach P k j && not (group_by (reach P) k j)) _ h in
      let in_reach = and_l (reach P k j) _ a in
      let apart = not-true (group_by (reach P) k j) (and_r (reach P k j) _ a) in
      (in_reach, refuted (λ r. clash (and_intro _ _ in_reach r) apart), not-true (listed j) (and_r (reach P k j && not (group_by (reach P) k j)) _ h))

  come_elim : (listed : Set) (k : ℕ) → k < n → k ∈ may_come (reach P) n listed → MayCome P n listed k
  unfolding may_come is_ready
  come_elim listed k l h =
      record {
        below = l;
        unlisted = not-true (listed k) (and_l (not (listed k)) _ h);
        others_listed = λ j b r. go j (decided (reach P j k)) (decided (listed j)) ((reach_is P k j).1 r) ((none_below n (waits listed k)).0 (and_r (not (listed k)) _ h) j b);
      }
    where
      go : (j : ℕ) → (k ∈ reach P j) ⊎ (k ∉ reach P j) → (j ∈ listed) ⊎ (j ∉ listed) → j ∈ reach P k → j ∉ waits listed k → Reaches P j k ⊎ (j ∈ listed)
      go j (inl g) s r e = inl ((reach_is P j k).0 g)
      go j (inr g) (inl s) r e = inr s
      go j (inr g) (inr s) r e = absurd (clash (and_intro (reach P k j && not (group_by (reach P) k j)) _ (and_intro _ _ r (not_intro (refuted (λ x. clash (and_r (reach P k j) _ x) g)))) (not_intro s)) e)

  come_intro : (listed : Set) (k : ℕ) → MayCome P n listed k → k ∈ may_come (reach P) n listed
  unfolding may_come is_ready
  come_intro listed k c = and_intro _ _ (not_intro c.unlisted) ((none_below n (waits listed k)).1 (λ j l. refuted (λ h. go j l (waits_elim listed k j h))))
    where
      go : (j : ℕ) → j < n → (j ∈ reach P k) × (k ∉ reach P j) × (j ∉ listed) → ⊥
      go j l (a, b, d) = last (c.others_listed j l ((reach_is P k j).0 a))
        where
          last : Reaches P j k ⊎ (j ∈ listed) → ⊥
          last (inl r) = clash ((reach_is P j k).1 r) b
          last (inr s) = clash s d

  names : List ℕ
  names = members n (λ _. true)

  in_names : (k : ℕ) → k < n → k is_in names
  unfolding names
  in_names k l = (members_are n (λ _. true) k).1 (refl, l)

  -- a name that is not listed reaches one whose group may come next
  comes : (f : ℕ) (listed : Set) (k : ℕ) → k < n → k ∉ listed → length names ≤ f + outside (reach P k) names → (j : ℕ) × MayCome P n listed j
  unfolding may_come is_ready
  comes zero listed k l u h =
      absurd (omega (arith, outside_falls ∅ (reach P k) (λ A a. absurd (clash a refl)) k refl (reach_itself P k) (in_names k l), outside_most ∅ names))
  comes (suc f) listed k l u h = go (comes f listed) (decided (may_come (reach P) n listed k))
    where
      go : ((j : ℕ) → j < n → j ∉ listed → length names ≤ f + outside (reach P j) names → (i : ℕ) × MayCome P n listed i)
          → (k ∈ may_come (reach P) n listed) ⊎ (k ∉ may_come (reach P) n listed) → (j : ℕ) × MayCome P n listed j
      go rest (inl c) = (k, come_elim listed k l c)
      go rest (inr c) = next (some_has (members n (waits listed k)) (waiting c))
        where
          waiting : k ∉ may_come (reach P) n listed → is_none (members n (waits listed k)) ≡ false
          waiting c = refuted (λ e. clash (and_intro _ _ (not_intro u) e) c)

          next : (j : ℕ) × j is_in members n (waits listed k) → (j : ℕ) × MayCome P n listed j
          next (j, m) =
              let v = (members_are n (waits listed k) j).0 m in
              let w = waits_elim listed k j v.0 in
              rest j v.1 w.2 (omega (arith, outside_falls (reach P j) (reach P k) (λ i q. reach_trans P k j i w.0 q) k w.1 (reach_itself P k) (in_names k l)))

  some_comes : (listed : Set) (k : ℕ) → k < n → k ∉ listed → (j : ℕ) × MayCome P n listed j
  some_comes listed k l u = comes (length names) listed k l u (omega arith)

  -- where none may come every name is listed
  pub none_comes : (listed : Set) → ((k : ℕ) → MayCome P n listed k → ⊥) → (j : ℕ) → j < n → j ∈ listed
  none_comes listed f j l = not-false (listed j) (refuted (λ o. let w = some_comes listed j l (not-true (listed j) o) in f w.0 w.1))

  -- ---- the list

  in_order_from : (t : ℕ) (listed : Set) → outside listed names ≤ t → InOrder P n listed (leaders_from (reach P) n listed t)
  unfolding leaders_from group
  in_order_from zero listed h = all_listed (λ j l. not-false (listed j) (refuted (λ o.
      absurd (omega (arith, outside_falls listed (λ _. true) (λ A a. refl) j (not-true (listed j) o) refl (in_names j l))))))
  in_order_from (suc t) listed h = go (members n (may_come (reach P) n listed)) refl (λ k. in_order_from t (listed ∪ group P k))
    where
      go : (l : List ℕ) → members n (may_come (reach P) n listed) ≡ l
          → ((k : ℕ) → outside (listed ∪ group P k) names ≤ t → InOrder P n (listed ∪ group P k) (leaders_from (reach P) n (listed ∪ group P k) t))
          → InOrder P n listed (first_of l (λ k. leaders_from (reach P) n (listed ∪ group P k) t))
      go [] e rest = all_listed (none_comes listed (λ k c. Memᴰ.not-nil (rw e at ((members_are n (may_come (reach P) n listed) k).1 (come_intro listed k c, c.below)))))
      go (k ∷ ks) e rest =
          let w = (members_are n (may_come (reach P) n listed) k).0 (rw e (Memᴰ.head refl)) in
          let c = come_elim listed k w.1 w.0 in
          comes_next c (λ j l d. clash (come_intro listed j d) (first_lowest (may_come (reach P) n listed) 0 n k ks e j (omega arith) l))
          (rest k (omega (arith, outside_falls listed (listed ∪ group P k) (λ j m. or_l _ _ m) k c.unlisted (or_r (listed k) _ (group_itself P k)) (in_names k w.1))))

  -- the list that is worked out is in order
  pub in_order : InOrder P n ∅ (leaders P n)
  unfolding leaders names
  in_order = in_order_from n ∅ (omega (arith, outside_most ∅ names, length_most (λ _. true) 0 n))

  -- and it is the only one
  pub in_order_only : {listed : Set} {ks js : List ℕ} → InOrder P n listed ks → InOrder P n listed js → ks ≡ js
  in_order_only (all_listed f) (all_listed g) = refl
  in_order_only {listed} (all_listed f) (comes_next c low r) = absurd (clash (f _ c.below) c.unlisted)
  in_order_only {listed} (comes_next c low r) (all_listed g) = absurd (clash (g _ c.below) c.unlisted)
  in_order_only {listed} (comes_next {k = k} c low r) (comes_next {k = i} d also q) =
      let e : i ≡ k = same (dec_lt i k) (dec_lt k i) in
      rw e (ap (λ (l : List ℕ). k ∷ l) (in_order_only r (rw e at q)))
    where
      same : Dec (i < k) → Dec (k < i) → i ≡ k
      same (yes h) f = absurd (low i h d)
      same (no h) (yes l) = absurd (also k l c)
      same (no h) (no l) = omega arith

  pub order_is : working_order P n ≡ map (λ k. members n (group P k)) (leaders P n)
  unfolding working_order order_by leaders group
  order_is = refl

  -- ---- every name once, each group in its place

  -- what is listed after some groups
  pub listed_by : Set → List ℕ → Set
  listed_by listed [] = listed
  listed_by listed (k ∷ ks) = listed_by (listed ∪ group P k) ks

  listed_all : {listed : Set} {ks : List ℕ} → InOrder P n listed ks → (j : ℕ) → j < n → j ∈ listed_by listed ks
  unfolding listed_by
  listed_all (all_listed f) j l = f j l
  listed_all (comes_next c low r) j l = listed_all r j l

  listed_from : (ks : List ℕ) (listed : Set) (j : ℕ) → j ∈ listed_by listed ks → (j ∈ listed) ⊎ ((k : ℕ) × k is_in ks × j ∈ group P k)
  unfolding listed_by
  listed_from [] listed j h = inl h
  listed_from (k ∷ ks) listed j h = go (listed_from ks (listed ∪ group P k) j h)
    where
      here : (j ∈ listed) ⊎ (j ∈ group P k) → (j ∈ listed) ⊎ ((i : ℕ) × i is_in k ∷ ks × j ∈ group P i)
      here (inl l) = inl l
      here (inr g) = inr (k, Memᴰ.head refl, g)

      go : (j ∈ listed ∪ group P k) ⊎ ((i : ℕ) × i is_in ks × j ∈ group P i) → (j ∈ listed) ⊎ ((i : ℕ) × i is_in k ∷ ks × j ∈ group P i)
      go (inl l) = here (or_elim (listed j) (group P k j) l)
      go (inr w) = inr (w.0, Memᴰ.tail w.1, w.2)

  listed_before : (ks : List ℕ) (j : ℕ) → j ∈ listed_by ∅ ks → (k : ℕ) × k is_in ks × j ∈ group P k
  listed_before ks j h = go (listed_from ks ∅ j h)
    where
      go : (j ∈ ∅) ⊎ ((k : ℕ) × k is_in ks × j ∈ group P k) → (k : ℕ) × k is_in ks × j ∈ group P k
      go (inl e) = absurd (clash e refl)
      go (inr w) = w

  listed_keeps : (ks : List ℕ) (listed : Set) (j : ℕ) → j ∈ listed → j ∈ listed_by listed ks
  unfolding listed_by
  listed_keeps [] listed j h = h
  listed_keeps (k ∷ ks) listed j h = listed_keeps ks (listed ∪ group P k) j (or_l (listed j) _ h)

  listed_has : (ks : List ℕ) (listed : Set) (i : ℕ) → i is_in ks → (j : ℕ) → j ∈ group P i → j ∈ listed_by listed ks
  unfolding listed_by
  listed_has [] listed i x'' j h = elim x'' [ ]
  listed_has (k ∷ ks) listed i (Memᴰ.head e) j h = listed_keeps ks (listed ∪ group P k) j (or_r (listed j) _ (rw e at h))
  listed_has (k ∷ ks) listed i (Memᴰ.tail m) j h = listed_has ks (listed ∪ group P k) i m j h

  -- every name is in a group of the list
  pub each_listed : (j : ℕ) → j < n → (k : ℕ) × k is_in leaders P n × j ∈ group P k
  each_listed j l = listed_before (leaders P n) j (listed_all in_order j l)

  place : (ks js : List ℕ) (k : ℕ) (listed : Set) → InOrder P n listed (ks ++ (k ∷ js))
      → MayCome P n (listed_by listed ks) k × ((j : ℕ) → j < k → MayCome P n (listed_by listed ks) j → ⊥)
  unfolding listed_by
  place [] js k listed (comes_next c low r) = (c, low)
  place (i ∷ ks) js k listed (comes_next c low r) = place ks js k (listed ∪ group P i) r

  module _ (ks js : List ℕ) (k : ℕ) (split : leaders P n ≡ ks ++ (k ∷ js)) where
    -- at each place the lowest name stands whose group may come after the groups before
    pub in_place : MayCome P n (listed_by ∅ ks) k × ((j : ℕ) → j < k → MayCome P n (listed_by ∅ ks) j → ⊥)
    in_place = place ks js k ∅ (rw split at in_order)

    -- whatever else the group reaches comes earlier
    pub comes_earlier : (j : ℕ) → j < n → Reaches P k j → (j ∈ group P k) ⊎ ((i : ℕ) × i is_in ks × j ∈ group P i)
    comes_earlier j l r = go (in_place.0.others_listed j l r)
      where
        go : Reaches P j k ⊎ (j ∈ listed_by ∅ ks) → (j ∈ group P k) ⊎ ((i : ℕ) × i is_in ks × j ∈ group P i)
        go (inl q) = inl ((group_is P k j).1 (r, q))
        go (inr h) = inr (listed_before ks j h)

    -- and no name of an earlier group is in it
    pub listed_once : (i : ℕ) → i is_in ks → (j : ℕ) → j ∈ group P i → j ∈ group P k → ⊥
    listed_once i m j a b = clash (listed_has ks ∅ i m k (same_group_lem P k i j b a)) in_place.0.unlisted

-- ---- how many names are listed

-- the members of two sets that have none in common are as many as those of both
length_apart : (S G : Set) → ((j : ℕ) → j ∈ S → j ∉ G) → (b n : ℕ) → length (members_from (S ∪ G) b n) ≡ length (members_from S b n) + length (members_from G b n)
length_apart S G apart b zero = omega (arith, length_none (S ∪ G) b, length_none S b, length_none G b)
length_apart S G apart b (suc n) =
    omega (arith, length_first (S ∪ G) b n, length_first S b n, length_first G b n, length_apart S G apart (suc b) n, go (decided (S b)) (decided (G b)))
  where
    go : (b ∈ S) ⊎ (b ∉ S) → (b ∈ G) ⊎ (b ∉ G) → cond (S b || G b) 1 0 ≡ cond (S b) 1 0 + cond (G b) 1 0
    go (inl s) (inl g) = absurd (clash g (apart b s))
    go (inl s) (inr g) = rw (s, g) refl
    go (inr s) (inl g) = rw (s, g) refl
    go (inr s) (inr g) = rw (s, g) refl

length_all : (S : Set) (b n : ℕ) → ((j : ℕ) → j < b + n → j ∈ S) → length (members_from S b n) ≡ n
length_all S b zero all = length_none S b
length_all S b (suc n) all =
    let here : ◌≡◌ {A = ℕ} (cond (S b) 1 0) 1 = rw (all b (omega arith)) refl in
    omega (arith, length_first S b n, length_all S (suc b) n (λ j h. all j (omega arith)), here)

length_∅ : (b n : ℕ) → length (members_from ∅ b n) ≡ 0
length_∅ b zero = length_none ∅ b
length_∅ b (suc n) = omega (arith, length_first ∅ b n, length_∅ (suc b) n)

module _ (P : Program) (n : ℕ) where
  -- how many names the groups of a list have
  unfoldable pub names_listed : List ℕ → ℕ
  names_listed [] = 0
  names_listed (k ∷ ks) = length (members n (group P k)) + names_listed ks

  -- what is listed is made of whole groups
  abbrev pub Whole : Set → Type 0
  Whole listed = (i j : ℕ) → j ∈ listed → j ∈ group P i → i ∈ listed

  pub whole_none : Whole ∅
  whole_none i j h = absurd (clash h refl)

  pub whole_more : (listed : Set) (k : ℕ) → Whole listed → Whole (listed ∪ group P k)
  whole_more listed k w i j h g = go (or_elim (listed j) (group P k j) h)
    where
      go : (j ∈ listed) ⊎ (j ∈ group P k) → i ∈ listed ∪ group P k
      go (inl l) = or_l (listed i) _ (w i j l g)
      go (inr q) = or_r (listed i) _ (same_group_lem P i k j g q)

  count_from_lem : {listed : Set} {ks : List ℕ} → InOrder P n listed ks → Whole listed → length (members n listed) + names_listed ks ≡ n
  unfolding names_listed
  count_from_lem {listed} (all_listed all) w = omega (arith, length_all listed 0 n (λ j h. all j (omega arith)))
  count_from_lem {listed} (comes_next {k = k} {ks = ks} c low rest) w =
      let apart : (j : ℕ) → j ∈ listed → j ∉ group P k = λ j l. refuted (λ g. clash (w k j l g) c.unlisted) in
      omega (arith, length_apart listed (group P k) apart 0 n, count_from_lem rest (whole_more listed k w))

  -- the groups in working order have as many names as there are
  pub all_counted : names_listed (leaders P n) ≡ n
  all_counted = omega (arith, count_from_lem (in_order P n) whole_none, length_∅ 0 n)
