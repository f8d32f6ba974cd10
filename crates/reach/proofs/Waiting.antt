-- The next group. The names left that a name reaches are its group where all of them reach it, and then whatever else it reaches is listed. Where one does
-- not, no name of the group may come until that one is listed: all of them reach it and it reaches none of them. They are noted as waiting for it. So the
-- lowest name left that is not known to wait is tried, and the first that may come is the lowest that may.
use mathlib.Core.Path.{◌≡◌, refl, sym, ◌∙◌, ap, ap₂}
use mathlib.Core.Logic.{◌⊎◌, inl, inr, ⊎_elim}
use mathlib.Core.Bool.{true, false, ◌&&◌}
use mathlib.Core.List.{List}
use Prim.Native.Nat.{ℕ, ◌*◌, ◌<◌}
use native.Mathlib.Decide.{dec_lt, ℕ_discrete}
use native.Mathlib.Omega.{arith}
use lib.Dec.{eqb, ltb}
use borrow.Author.Tests.{eqb-true, eq-eqb, ltb-true, lt-ltb, not-true, not-false}
use Rattle.truth.proofs.Truth.{clash, decided, refuted, not_intro, and_l, and_r, and_intro, or_elim, or_l, or_r}
use Rattle.wfsx.specs.Sets.{Set, ◌∈◌, ◌∉◌, ◌⊆◌, ∅, ◌∪◌, ◌∖◌, add}
use Rattle.wfsx.specs.Program.{Program}
use Rattle.wfsx.specs.Reach.{name_of, reach, group, literals_of}
use Rattle.wfsx.specs.Groups.{MayCome}
use Rattle.wfsx.proofs.Sets.{⊆_antisym}
use Rattle.wfsx.proofs.Reach.{reach_itself, reach_trans, reach_is, group_is}
use Rattle.std.specs.Prelude.{Some, None}
use Rattle.litset.specs.declared.LitSet.{LitSet}
use Rattle.reach.specs.Table.{row_set, with_name, both_in, Put, Meeting, Met, unlisted_below, Next, found, nothing, Waiting, Stuck, Noted, NextBy, Released}
use Rattle.reach.proofs.Names.{with_name_has, with_name_keeps, literal_in_lem, both_names, LowestOf, common, taken}

-- ---- names that reach k, from the lowest on

pub record Gathered (table : List LitSet) (k : ℕ) (among met : Set) : Type 0 where
  pub has : 2 * k ∈ met
  pub by : (U : Set) → among ≡ literals_of U → Meeting table k U met

pub gathered_start : (table : List LitSet) (k : ℕ) (among met none : Set) → met ≡ with_name k none → none ≡ ∅ → Gathered table k among met
gathered_start table k among met none is empty =
    record {
      has = rw is (with_name_has k none);
      by = λ U e.
          record {
            names = add k ∅;
            are = is ∙ ap (with_name k) empty;
            itself = or_l (eqb k k) _ (eq-eqb k k refl);
            each = λ j h. ⊎_elim (λ q. inl (eqb-true j k q)) (λ q. absurd (clash q refl)) (or_elim (eqb j k) false h);
          };
    }

module _ (table : List LitSet) (k : ℕ) (among met left : Set) (g : Gathered table k among met) (is : left ≡ among ∖ met) where
  module _ (U : Set) (e : among ≡ literals_of U) where
    abbrev so_far : Meeting table k U met
    so_far = g.by U e

    unmet : both_in left ≡ U ∖ so_far.names
    unmet = both_names _ (is ∙ ap₂ (λ (S W : Set). S ∖ W) e so_far.are)

    unmet_in : (j : ℕ) → j ∈ both_in left → j ∈ U
    unmet_in j h = and_l (U j) _ (ap (λ (S : Set). S j) (sym unmet) ∙ h)

  -- the same names are left
  still : (j : ℕ) → both_in left j ≡ both_in (among ∖ met) j
  still j = ap (λ (S : Set). both_in S j) is

  -- no name is left
  pub gathered_all : LowestOf (both_in left) None → Met table k among met
  gathered_all none = record { has = g.has; is = g.by; stops = λ j h l. absurd (clash (still j ∙ h) (none j)) }

  -- the lowest name left does not reach k
  pub gathered_stop : (j : ℕ) → LowestOf (both_in left) (Some j) → 2 * k ∉ row_set table j → Met table k among met
  gathered_stop j low out = record { has = g.has; is = g.by; stops = λ i h l. rw (same i (still i ∙ h) (λ q b. still q ∙ l q b) (dec_lt i j) (dec_lt j i)) out }
    where
      same : (i : ℕ) → i ∈ both_in left → ((q : ℕ) → q < i → q ∉ both_in left) → Dec (i < j) → Dec (j < i) → i ≡ j
      same i h l (yes b) f = absurd (clash h (low.1 i b))
      same i h l (no b) (yes d) = absurd (clash low.0 (l j d))
      same i h l (no b) (no d) = omega arith

  pub gathered_more : (j : ℕ) → j ∈ both_in left → 2 * k ∈ row_set table j → (met' : Set) → met' ≡ with_name j met → Gathered table k among met'
  gathered_more j low has met' m =
      record {
        has = rw m (with_name_keeps j met (2 * k) g.has);
        by = λ U e.
            record {
              names = add j (so_far U e).names;
              are = m ∙ ap (with_name j) (so_far U e).are;
              itself = or_r (eqb k j) _ (so_far U e).itself;
              each = λ i h.
                  ⊎_elim (λ q. inr (rw (eqb-true i j q) (unmet_in U e j low), rw (eqb-true i j q) has)) ((so_far U e).each i)
                  (or_elim (eqb i j) ((so_far U e).names i) h);
            };
      }

-- ---- names that wait

module _ (P : Program) (n : ℕ) (listed : Set) where
  -- a name that waits may not come
  stuck_waits : (watch : List LitSet) (stuck : Set) → Stuck P n listed watch stuck → (A : ℕ) → A ∈ stuck → MayCome P n listed (name_of A) → ⊥
  stuck_waits watch stuck t A h c =
      let (j, l, u, has) = t.on A h in
      let w = t.watched j A l has in
      ⊎_elim (λ q. clash ((reach_is P j (name_of A)).1 q) w.1) (λ q. clash q u) (c.others_listed j l ((reach_is P (name_of A) j).0 w.0))

  -- more of them, in the row of one name
  module _ (watch : List LitSet) (stuck : Set) (t : Stuck P n listed watch stuck) (j : ℕ) (below : j < n) (unlisted : j ∉ listed) (more : Set)
      (wait : (A : ℕ) → A ∈ more → (j ∈ reach P (name_of A)) × (name_of A ∉ reach P j))
      (watch' : List LitSet) (put : Put watch j (row_set watch j ∪ more) watch') (stuck' : Set) (is : stuck' ≡ stuck ∪ more) where
    stuck_more : Stuck P n listed watch' stuck'
    stuck_more =
        record {
          size = put.size ∙ t.size;
          watched = λ i A l h. watched i A l h (ℕ_discrete i j);
          on = λ A h. ⊎_elim (λ o. kept A (t.on A o)) (λ o. (j, below, unlisted, rw put.here (or_r (row_set watch j A) _ o))) (or_elim (stuck A) (more A) (rw is at h));
        }
      where
        watched : (i A : ℕ) → i < n → A ∈ row_set watch' i → Dec (i ≡ j) → (i ∈ reach P (name_of A)) × (name_of A ∉ reach P i)
        watched i A l h (yes e) =
            rw e (⊎_elim (t.watched j A below) (wait A) (or_elim (row_set watch j A) (more A) (ap (λ (S : Set). S A) (sym put.here) ∙ rw e at h)))
        watched i A l h (no ne) = t.watched i A l (ap (λ (S : Set). S A) (sym (put.others i ne)) ∙ h)

        stays : (i A : ℕ) → A ∈ row_set watch i → Dec (i ≡ j) → A ∈ row_set watch' i
        stays i A h (yes e) = rw (e, put.here) (or_l (row_set watch j A) _ (rw e at h))
        stays i A h (no ne) = rw (put.others i ne) h

        kept : (A : ℕ) → (i : ℕ) × (i < n) × (i ∉ listed) × (A ∈ row_set watch i) → (i : ℕ) × (i < n) × (i ∉ listed) × (A ∈ row_set watch' i)
        kept A (i, l, u, h) = (i, l, u, stays i A h (ℕ_discrete i j))

-- ---- a group whose turn it is

module _ (P : Program) (n : ℕ) (listed : Set) (table : List LitSet) (left : Set) (w : Waiting P n listed table left) (watch : List LitSet) (out rest : Set) (t : Stuck P n listed watch out) (is : rest ≡ left ∖ out) where
  -- a name that is not among those to try may not come
  passed : (j : ℕ) → j ∉ both_in rest → MayCome P n listed j → ⊥
  passed j o c =
      let unlisted = and_intro (ltb j n) _ (lt-ltb j n c.below) (not_intro c.unlisted) in
      let (A, e, h) = taken j left out rest is (ap (λ (S : Set). S j) (both_names (unlisted_below n listed) w.left_are) ∙ unlisted) o in
      stuck_waits P n listed watch out t A h (rw e c)

  none_left : LowestOf (both_in rest) None → (G : Set) → G ≡ ∅ → Next P n listed G
  none_left none G e = nothing (λ k c. passed k (none k) c) e

  module _ (k : ℕ) (low : LowestOf (both_in rest) (Some k)) (row among met : Set) (row_is : row ≡ row_set table k) (among_is : among ≡ row ∖ (row ∖ left)) (m : Met table k among met) (unmet : Set) (unmet-is : unmet ≡ among ∖ met) where
    here : k ∈ unlisted_below n listed
    here = sym (literal_in_lem (unlisted_below n listed) w.left_are k) ∙ and_l (left (2 * k)) _ (ap (λ (S : Set). S (2 * k)) (sym is) ∙ and_l (rest (2 * k)) _ low.0)

    below : k < n
    below = ltb-true k n (and_l (ltb k n) _ here)

    unlisted : k ∉ listed
    unlisted = not-true (listed k) (and_r (ltb k n) _ here)

    -- the names left that k reaches
    reached : Set
    reached = reach P k ∖ (reach P k ∖ unlisted_below n listed)

    reached_elim : (j : ℕ) → j ∈ reached → (j ∈ reach P k) × (j < n) × (j ∉ listed)
    unfolding reached
    reached_elim j h =
        let both = sym (common (reach P k) (unlisted_below n listed) j) ∙ h in
        let l = and_r (reach P k j) _ both in
        (and_l (reach P k j) _ both, ltb-true j n (and_l (ltb j n) _ l), not-true (listed j) (and_r (ltb j n) _ l))

    reached_intro : (j : ℕ) → j ∈ reach P k → j < n → j ∉ listed → j ∈ reached
    unfolding reached
    reached_intro j r l u =
        common (reach P k) (unlisted_below n listed) j ∙ and_intro (reach P k j) _ r (and_intro (ltb j n) _ (lt-ltb j n l) (not_intro u))

    among_are : among ≡ literals_of reached
    unfolding reached
    among_are = among_is ∙ ap₂ (λ (S U : Set). S ∖ (S ∖ U)) (row_is ∙ w.rows.whole k below) w.left_are

    abbrev meeting : Meeting table k reached met
    meeting = m.is reached among_are

    unmet_are : both_in unmet ≡ reached ∖ meeting.names
    unmet_are = both_names _ (unmet-is ∙ ap₂ (λ (S U : Set). S ∖ U) among_are meeting.are)

    -- the test of a row is that of reach
    back : (j : ℕ) → j < n → row_set table j (2 * k) ≡ reach P j k
    back j l = literal_in_lem (reach P j) (w.rows.whole j l) k

    member : (j : ℕ) → j ∈ meeting.names → (j ∈ reach P k) × (k ∈ reach P j)
    member j h = go (meeting.each j h)
      where
        go : (j ≡ k) ⊎ ((j ∈ reached) × (2 * k ∈ row_set table j)) → (j ∈ reach P k) × (k ∈ reach P j)
        go (inl e) = rw e (reach_itself P k, reach_itself P k)
        go (inr (a, b)) = let r = reached_elim j a in (r.0, sym (back j r.1) ∙ b)

    in_group : (j : ℕ) → j ∈ meeting.names → j ∈ group P k
    in_group j h = let r = member j h in (group_is P k j).1 ((reach_is P k j).0 r.0, (reach_is P j k).0 r.1)

    next_comes : LowestOf (both_in unmet) None → Next P n listed met
    next_comes none =
        found k
        (record {
          below = below;
          unlisted = unlisted;
          others_listed = λ j l r. ⊎_elim inr (λ u. inl ((reach_is P j k).0 (member j (all j (reached_intro j ((reach_is P k j).1 r) l u))).1)) (decided (listed j));
        })
        (λ j l. passed j (low.1 j l))
        (meeting.are ∙ ap literals_of (⊆_antisym inside outside))
      where
        all : reached ⊆ meeting.names
        all j h = not-false _ (refuted (λ o. clash (and_intro (reached j) _ h o) (ap (λ (S : Set). S j) (sym unmet_are) ∙ none j)))

        known : (j : ℕ) → (j ≡ k) ⊎ ((j ∈ reached) × (2 * k ∈ row_set table j)) → j < n
        known j (inl q) = rw q below
        known j (inr q) = (reached_elim j q.0).1

        inside : meeting.names ⊆ (λ j. ltb j n && group P k j)
        inside j h = and_intro _ _ (lt-ltb j n (known j (meeting.each j h))) (in_group j h)

        outside : (λ j. ltb j n && group P k j) ⊆ meeting.names
        outside j h =
            let g = and_r (ltb j n) _ h in
            let u = refuted (λ l. clash (w.groups k j l g) unlisted) in
            all j (reached_intro j ((reach_is P k j).1 ((group_is P k j).0 g).0) (ltb-true j n (and_l (ltb j n) _ h)) u)

    -- the names met wait for one that does not reach k
    stuck_met : (j : ℕ) → LowestOf (both_in unmet) (Some j) → (watch' : List LitSet) → Put watch j (row_set watch j ∪ met) watch' → (out' : Set) → out' ≡ out ∪ met
        → Stuck P n listed watch' out'
    stuck_met j first watch' put out' e =
        stuck_more P n listed watch out t j r.1 r.2 met wait watch' put out' e
      where
        r : (j ∈ reach P k) × (j < n) × (j ∉ listed)
        r = reached_elim j (and_l (reached j) _ (ap (λ (S : Set). S j) (sym unmet_are) ∙ first.0))

        same : (i : ℕ) → both_in (among ∖ met) i ≡ both_in unmet i
        same i = ap (λ (S : Set). both_in S i) (sym unmet-is)

        -- j does not reach k
        ahead : k ∉ reach P j
        ahead = sym (back j r.1) ∙ m.stops j (same j ∙ first.0) (λ i l. same i ∙ first.1 i l)

        wait : (A : ℕ) → A ∈ met → (j ∈ reach P (name_of A)) × (name_of A ∉ reach P j)
        wait A h =
            let b = member (name_of A) (ap (λ (S : Set). S A) (sym meeting.are) ∙ h) in
            (reach_trans P (name_of A) k j b.1 r.0, refuted (λ q. clash (reach_trans P j (name_of A) k q b.1) ahead))

-- ---- the loop's own values, whatever the program is

module _ (table : List LitSet) (left : Set) (watch : List LitSet) (stuck : Set) where
  pub noted_none : Noted table left watch stuck watch stuck
  noted_none = record { size = refl; by = λ P n listed w t. t }

  module _ (watch₁ : List LitSet) (out rest : Set) (p : Noted table left watch stuck watch₁ out) (is : rest ≡ left ∖ out) where
    pub noted_all : LowestOf (both_in rest) None → (G : Set) → G ≡ ∅ → NextBy table left watch stuck watch₁ out G
    noted_all none G e = record { noted = p; is = λ P n listed w t. none_left P n listed table left w watch₁ out rest (p.by P n listed w t) is none G e }

    module _ (k : ℕ) (low : LowestOf (both_in rest) (Some k)) (row among met : Set) (row_is : row ≡ row_set table k) (among_is : among ≡ row ∖ (row ∖ left)) (m : Met table k among met) (unmet : Set) (unmet-is : unmet ≡ among ∖ met) where
      pub noted_next : LowestOf (both_in unmet) None → NextBy table left watch stuck watch₁ out met
      noted_next none =
          record { noted = p; is = λ P n listed w t. next_comes P n listed table left w watch₁ out rest (p.by P n listed w t) is k low row among met row_is among_is m unmet unmet-is none }

      pub noted_more : (j : ℕ) → LowestOf (both_in unmet) (Some j) → (watch₂ : List LitSet) → Put watch₁ j (row_set watch₁ j ∪ met) watch₂ → (out' : Set) → out' ≡ out ∪ met
          → Noted table left watch stuck watch₂ out'
      noted_more j first watch₂ put out' e =
          record {
            size = put.size ∙ p.size;
            by = λ P n listed w t. stuck_met P n listed table left w watch₁ out rest (p.by P n listed w t) is k low row among met row_is among_is m unmet unmet-is j first watch₂ put out' e;
          }

-- ---- names that need not wait

-- the names of the rows in `done` are taken out
pub record Releasing (watch : List LitSet) (stuck done out : Set) : Type 0 where
  pub stay : out ⊆ stuck
  pub apart : (B A : ℕ) → B ∈ done → A ∈ out → A ∉ row_set watch (name_of B)

module _ (watch : List LitSet) (stuck : Set) where
  pub releasing_start : (done : Set) → done ≡ ∅ → Releasing watch stuck done stuck
  releasing_start done e = record { stay = λ A h. h; apart = λ B A h o. absurd (clash (ap (λ (S : Set). S B) (sym e) ∙ h) refl) }

  module _ (done out : Set) (r : Releasing watch stuck done out) where
    pub releasing_more : (j : ℕ) (done' out' : Set) → done' ≡ with_name j done → out' ≡ out ∖ row_set watch j → Releasing watch stuck done' out'
    releasing_more j done' out' d e = record { stay = λ A h. r.stay A (old A h); apart = λ B A h o. apart B A o (or_elim (eqb (name_of B) j) (done B) (rw d at h)) }
      where
        old : (A : ℕ) → A ∈ out' → A ∈ out
        old A h = and_l (out A) _ (ap (λ (S : Set). S A) (sym e) ∙ h)

        apart : (B A : ℕ) → A ∈ out' → (eqb (name_of B) j ≡ true) ⊎ (B ∈ done) → A ∉ row_set watch (name_of B)
        apart B A o (inl q) = rw (eqb-true (name_of B) j q) (not-true _ (and_r (out A) _ (ap (λ (S : Set). S A) (sym e) ∙ o)))
        apart B A o (inr q) = r.apart B A q (old A o)

    pub releasing_end : (G rest : Set) → rest ≡ G ∖ done → LowestOf (both_in rest) None → Released watch G stuck out
    releasing_end G rest is none = record { stay = r.stay; apart = λ j A h o. go A o (taken j G done rest is h (none j)) }
      where
        go : {j : ℕ} (A : ℕ) → A ∈ out → (B : ℕ) × (name_of B ≡ j) × (B ∈ done) → A ∉ row_set watch j
        go A o (B, e, h) = rw (← e) (r.apart B A h o)

-- the names that stay wait for names that are left once the group is listed too
pub stuck_left : (P : Program) (n : ℕ) (listed : Set) (watch : List LitSet) (stuck stuck' G more : Set) → Stuck P n listed watch stuck → Released watch G stuck stuck'
    → ((j : ℕ) → j < n → j ∈ more → j ∈ both_in G) → Stuck P n (listed ∪ more) watch stuck'
stuck_left P n listed watch stuck stuck' G more t r inside = record { size = t.size; watched = t.watched; on = λ A h. go A h (t.on A (r.stay A h)) }
  where
    go : (A : ℕ) → A ∈ stuck' → (j : ℕ) × (j < n) × (j ∉ listed) × (A ∈ row_set watch j) → (j : ℕ) × (j < n) × (j ∉ listed ∪ more) × (A ∈ row_set watch j)
    go A h (j, l, u, has) = let out : j ∉ more = refuted (λ g. clash has (r.apart j A (inside j l g) h)) in (j, l, rw (u, out) refl, has)
