-- A node of a TU-tree, one law for each way through it: its mark is known, its added leaf fails or is waited for, it is a fact, it is put
-- on the path on the way down, and its mark makes room for the answer on the way up. Then the search of a TU-tree, which ends or opens the
-- T-tree that is waited for.
use mathlib.Core.Path.{◌≡◌, refl, sym, ◌∙◌, ap}
use mathlib.Core.Logic.{◌⊎◌, inl, inr}
use mathlib.Core.Bool.{Bool, true, false, and-false}
use mathlib.Core.List.{List}
use Prim.Native.Nat.{ℕ, ◌+◌, ◌≤◌, ◌<◌}
use native.Mathlib.Decide.{ℕ_discrete}
use native.Mathlib.Omega.{arith}
use lib.Dec.{eqb}
use lib.ListN.{length, get_or, set, length-set}
use borrow.Author.Tests.{eq-eqb, ne_eqb}
use Rattle.truth.proofs.Truth.{clash, contra, not_intro, and_intro}
use Rattle.truth.proofs.Truth as truth
use Rattle.wfsx.specs.Sets.{Set, ◌∈◌, ◌∉◌, ∅, add}
use Rattle.wfsx.specs.Program.{compl, Entry, default, Program}
use Rattle.wfsx.specs.Model.{supported, headed}
use Rattle.wfsx.specs.Trees.{T, TU, child, tree}
use Rattle.wfsx.proofs.Sets.{add_has, ⊆_add, with_one}
use Rattle.wfsx.proofs.Supported.{supported_seminormal}
use Rattle.wfsx.proofs.Trees.{complement_once, second_way}
use Rattle.wfsx.proofs.Ancestors.{t_headless, u_shorter, u_agrees, u_has, u_fails, u_headless}
use Rattle.litset.specs.Words.{capacity}
use Rattle.litset.proofs.Words.{compl_small}
use Rattle.search.specs.declared.Finding.{Finding}
use Rattle.search.specs.Marks.{marked, above_in, path_in, turned_in, u_left, is_holds, found, leaf_says}
use Rattle.search.specs.Walk.{State, state, Right, Tables, Resting, Spent, Ready, Walked, Says, Visited, TuVisit, sure_at, may_at}
use Rattle.search.proofs.Marks.{marked_at, marked_not, mark_same, mark_added, mark_removed, small_set, turned_room, turned_gone, turned_same, turned_small}
use Rattle.search.proofs.Answers.{Joined, by_rule, by_fact, by_none, right_held, t_holds, t_not, u_holds, u_not}
use Rattle.search.proofs.Stock.{u_mark_less, u_left_lem}
use Rattle.search.proofs.Visits.{walked_none, spent_none}

-- ---- a leaf

-- What a leaf `not b` says by the mark of b, where `head` says whether b is a head. Without a mark it waits or, where b is no head, holds;
-- else it fails where b holds, and holds where b fails.
module _ {P : Program} {s : State} (r : Ready P TU s 0) (b : ℕ) (small : b < capacity) (head : Bool) (heads : headed P b ≡ head) where
  abbrev mark : ℕ
  mark = get_or s.t b 0

  leaf_cases : (Q : Finding → Type 0) → (mark ≡ 0 → b ∈ headed P → Q (Finding.Waits b)) → (b ∈ tree P T ∅ ∅ → Q Finding.Fails) → (b ∉ tree P T ∅ (above_in s.t) → Q Finding.Holds) → Q (leaf_says head mark b)
  leaf_cases Q waits fails holds = go (ℕ_discrete mark 0) (ℕ_discrete mark 1) (truth.decided head)
    where
      go : Dec (mark ≡ 0) → Dec (mark ≡ 1) → (head ≡ true) ⊎ (head ≡ false) → Q (leaf_says head mark b)
      go (yes z) d (inl h) = rw (eq-eqb mark 0 z, h) (waits z (heads ∙ h))
      go (yes z) d (inr h) = rw (eq-eqb mark 0 z, h) (holds (t_headless P (above_in s.t) b (heads ∙ h)))
      go (no z) (yes e) d = rw (ne_eqb mark 0 z, eq-eqb mark 1 e) (fails (t_holds r.tables b e))
      go (no z) (no n) d = rw (ne_eqb mark 0 z, ne_eqb mark 1 n) (holds (t_not r.tables b n z))

  pub leaf_visit : {sure may : Bool} → (is_holds (leaf_says head mark b) ≡ true → b ∉ tree P T ∅ (above_in s.t) → sure ≡ true) → (b ∈ tree P T ∅ ∅ → may ≡ false)
      → Visited P TU s s sure may (leaf_says head mark b)
  unfolding Says
  leaf_visit {sure} {may} said_yes said_no =
      leaf_cases (λ f. (is_holds f ≡ true → b ∉ tree P T ∅ (above_in s.t) → sure ≡ true) → Visited P TU s s sure may f)
      (λ z h _. record { walked = walked_none TU r.tables; says = (refl, (small, (z, h))); spent = spent_none (Finding.Waits b) })
      (λ m _. record { walked = walked_none TU r.tables; says = (said_no m, r.resting); spent = spent_none Finding.Fails })
      (λ n said. record { walked = walked_none TU r.tables; says = (said refl n, r.resting); spent = spent_none Finding.Holds }) said_yes

  leaf_fails : is_holds (leaf_says head mark b) ≡ true → b ∉ tree P T ∅ (above_in s.t)
  leaf_fails =
      leaf_cases (λ f. is_holds f ≡ true → b ∉ tree P T ∅ (above_in s.t)) (λ z h e. absurd (clash e refl)) (λ m e. absurd (clash e refl)) (λ n e. n)

-- ---- a node that asks no rule

stays : {P : Program} {s : State} {a : ℕ} {f : Finding} → Visited P TU s s (tree P TU ∅ (above_in s.t) a) (tree P TU (path_in s.u) ∅ a) f → TuVisit P s s a f
stays v = record { visited = v; shuts_none = λ e A m. m }

-- its mark is known
pub u_known : {P : Program} {s : State} → Ready P TU s 0 → (a : ℕ) → (get_or s.u a 0 ≡ 0 → ⊥) → TuVisit P s s a (found (eqb (get_or s.u a 0) 2))
unfolding Says
u_known {P} {s} r a z = go (ℕ_discrete (get_or s.u a 0) 2)
  where
    go : Dec (get_or s.u a 0 ≡ 2) → TuVisit P s s a (found (eqb (get_or s.u a 0) 2))
    go (yes e) = rw (eq-eqb (get_or s.u a 0) 2 e) (stays (record { walked = walked_none TU r.tables; says = (u_holds r.tables a e, r.resting); spent = spent_none Finding.Holds }))
    go (no n) = rw (ne_eqb (get_or s.u a 0) 2 n) (stays (record { walked = walked_none TU r.tables; says = (u_not r.tables a r.resting n z, r.resting); spent = spent_none Finding.Fails }))

pub u_known_holds : {P : Program} {s : State} → Ready P TU s 0 → (a : ℕ) → get_or s.u a 0 ≡ 2 → TuVisit P s s a Finding.Holds
u_known_holds r a e = rw e at (u_known r a (λ z. omega arith))

pub u_known_fails : {P : Program} {s : State} → Ready P TU s 0 → (a : ℕ) → (get_or s.u a 0 ≡ 0 → ⊥) → (get_or s.u a 0 ≡ 2 → ⊥) → TuVisit P s s a Finding.Fails
u_known_fails {s = s} r a z n = rw (ne_eqb (get_or s.u a 0) 2 n) at (u_known r a z)

-- it is no head
pub u_bare : {P : Program} {s : State} → Ready P TU s 0 → (a : ℕ) → a ∉ headed P → TuVisit P s s a Finding.Fails
unfolding Says
u_bare {P} {s} r a n = stays (record { walked = walked_none TU r.tables; says = (u_headless P (path_in s.u) ∅ a n, r.resting); spent = spent_none Finding.Fails })

module _ {P : Program} {s : State} (r : Ready P TU s 0) (a : ℕ) (small : a < capacity) (b : ℕ) (q : b ≡ compl a) (head : Bool) (heads : headed P b ≡ head) where
  b_small : b < capacity
  b_small = omega (arith, compl_small a small)

  -- its added leaf does not hold
  pub u_leaf : is_holds (leaf_says head (get_or s.t b 0) b) ≡ false → TuVisit P s s a (leaf_says head (get_or s.t b 0) b)
  u_leaf n = stays (leaf_visit r b b_small head heads (λ e. absurd (clash e n)) (λ m. second_way P (path_in s.u) ∅ a (rw (← q) m)))

  -- it holds, and the literal is a fact
  pub u_fact : {R : (Entry → Bool) → Set} {F : Set} → Joined P R F → is_holds (leaf_says head (get_or s.t b 0) b) ≡ true → a ∈ F → TuVisit P s s a Finding.Holds
  unfolding Says
  u_fact join e m =
      let leaf : compl a ∉ tree P T ∅ (above_in s.t) = rw (← q) (leaf_fails r b b_small head heads e) in
      let holds : a ∈ tree P TU ∅ (above_in s.t) =
      complement_once P ∅ (above_in s.t) a ∙ and_intro _ _ (not_intro leaf) (by_fact join (child (tree P) TU (add a ∅) (above_in s.t)) a small m) in
      stays (record { walked = walked_none TU r.tables; says = (holds, r.resting); spent = spent_none Finding.Holds })

-- ---- a node that asks its rules

module _ {P : Program} {R : (Entry → Bool) → Set} {F : Set} (join : Joined P R F) (t u : List ℕ) (v : ℕ) (r : Ready P TU (state t u v) 0) (a : ℕ) (small : a < capacity) (zero-there : get_or u a 0 ≡ 0) (head : a ∈ headed P) where
  h : Tables P t u
  h = r.tables

  room : a < length u
  room = omega (arith, h.u_room)

  other : (v : ℕ) → (v ≡ 0 → ⊥) → get_or u a 0 ≡ v → ⊥
  other v n e = n (sym e ∙ zero-there)

  off_path : a ∉ marked 4 u
  off_path = marked_not 4 u a (other 4 (λ e. omega arith))

  -- on the way down it is put on the path
  abbrev pub u_below : State
  u_below = state t (set u a 4) (v + 1)

  below_four : marked 4 (set u a 4) ≡ add a (marked 4 u)
  below_four = mark_added 4 u a 4 room refl

  pub u_ready : Ready P TU u_below 0
  unfolding Resting
  u_ready =
      let one : marked 1 (set u a 4) ≡ marked 1 u = mark_same 1 u a 4 room (other 1 (λ e. omega arith)) (λ e. omega arith) in
      let two : marked 2 (set u a 4) ≡ marked 2 u = mark_same 2 u a 4 room (other 2 (λ e. omega arith)) (λ e. omega arith) in
      let three : marked 3 (set u a 4) ≡ marked 3 u = mark_same 3 u a 4 room (other 3 (λ e. omega arith)) (λ e. omega arith) in
      record {
        tables = record {
          t_room = h.t_room;
          u_room = length-set u a 4 ∙ h.u_room;
          t_marks = h.t_marks;
          u_marks = small_set 4 u a 4 h.u_marks (omega arith);
          right = rw (one, two) h.right;
        };
        resting = λ A m. rw below_four (contra (u_shorter P ∅ (⊆_add a (marked 4 u)) A) (r.resting A (rw three at m)));
        room = omega (arith, r.room, u_mark_less P t u a h.u_room small head zero-there);
      }

  -- on the way up: t₁, u₁ and v₁ are what its rules left
  module _ (t₁ u₁ : List ℕ) (v₁ : ℕ) (w : Walked P TU u_below (state t₁ u₁ v₁)) where
    path₁ : marked 4 u₁ ≡ add a (marked 4 u)
    path₁ = w.path_kept ∙ below_four

    four₁ : get_or u₁ a 0 ≡ 4
    four₁ = marked_at 4 u₁ a (ap (λ (S : Set). S a) path₁ ∙ add_has a (marked 4 u))

    room₁ : a < length u₁
    room₁ = omega (arith, w.tables.u_room)

    -- the store leaves the path as it was, and what it says is so
    walked_up : (u₂ : List ℕ) → length u₂ ≡ capacity → ((A : ℕ) → get_or u₂ A 0 ≤ 4) → marked 4 u₂ ≡ marked 4 u
        → Right P (marked 1 t₁) (marked 2 t₁) (marked 3 t₁) (marked 1 u₂) (marked 2 u₂) → Walked P TU (state t u v) (state t₁ u₂ v₁)
    walked_up u₂ l m p x =
        record {
          above_kept = w.above_kept;
          path_kept = p;
          t_kept = w.t_kept;
          tables = record { t_room = w.tables.t_room; u_room = l; t_marks = w.tables.t_marks; u_marks = m; right = x };
        }

    spent_up : (f : Finding) → Spent P f u_below (state t₁ u₁ v₁) → Spent P f (state t u v) (state t₁ (u_left f a u₁) v₁)
    spent_up f s =
        let less = u_mark_less P t u a h.u_room small head zero-there in
        record { counted = omega (arith, s.counted); spent = omega (arith, s.spent, less, u_left_lem P t₁ u₁ a w.tables.u_room small head f four₁) }

    fails_up : Visited P TU u_below (state t₁ u₁ v₁) (R (sure_at P TU u_below) a) (R (may_at P TU u_below) a) Finding.Fails → a ∉ F
        → TuVisit P (state t u v) (state t₁ (u_left Finding.Fails a u₁) v₁) a Finding.Fails
    unfolding Says Resting may_at u_left
    fails_up x m =
        let one : marked 1 (set u₁ a 3) ≡ marked 1 u₁ = mark_same 1 u₁ a 3 room₁ (λ e. omega (arith, four₁)) (λ e. omega arith) in
        let two : marked 2 (set u₁ a 3) ≡ marked 2 u₁ = mark_same 2 u₁ a 3 room₁ (λ e. omega (arith, four₁)) (λ e. omega arith) in
        let three : marked 3 (set u₁ a 3) ≡ add a (marked 3 u₁) = mark_added 3 u₁ a 3 room₁ refl in
        let four : marked 4 (set u₁ a 3) ≡ marked 4 u = mark_removed 4 u₁ a 3 room₁ (marked 4 u) path₁ off_path (λ e. omega arith) in
        let f : Entry → Bool = child (tree P) TU (add a (marked 4 u)) ∅ in
        let none : a ∉ supported P f = rw (← below_four) (by_none join (child (tree P) TU (marked 4 (set u a 4)) ∅) a small x.says.0 m) in
        let fails : a ∉ tree P TU (marked 4 u) ∅ = u_fails P (marked 4 u) ∅ a (supported_seminormal P f a ∙ rw none (and-false (f (default (compl a))))) in
        let old : (A : ℕ) → A ∈ marked 3 u₁ → A ∉ tree P TU (marked 4 u) ∅ = λ A k.
        ap (λ (S : Set). S A) (sym (u_agrees P (marked 4 u) ∅ a fails)) ∙ ap (λ (S : Set). tree P TU S ∅ A) (sym path₁) ∙ x.says.1 A k in
        let walked = walked_up (set u₁ a 3) (length-set u₁ a 3 ∙ w.tables.u_room) (small_set 4 u₁ a 3 w.tables.u_marks (omega arith)) four (rw (one, two) w.tables.right) in
        record {
          visited = record {
            walked = walked;
            says = (fails, λ A k. rw four (with_one (λ B. B ∉ tree P TU (marked 4 u) ∅) a (marked 3 u₁) fails old A (rw three at k)));
            spent = spent_up Finding.Fails x.spent;
          };
          shuts_none = λ e. absurd (distinct e);
        }
      where
        distinct : Finding.Fails ≡ Finding.Holds → ⊥
        distinct e = let z : ◌≡◌ {A = ℕ} 0 1 = cc in omega arith

    waits_up : (l : ℕ) → Visited P TU u_below (state t₁ u₁ v₁) (R (sure_at P TU u_below) a) (R (may_at P TU u_below) a) (Finding.Waits l)
        → TuVisit P (state t u v) (state t₁ (u_left (Finding.Waits l) a u₁) v₁) a (Finding.Waits l)
    unfolding Says u_left
    waits_up l x =
        let one : marked 1 (set u₁ a 0) ≡ marked 1 u₁ = mark_same 1 u₁ a 0 room₁ (λ e. omega (arith, four₁)) (λ e. omega arith) in
        let two : marked 2 (set u₁ a 0) ≡ marked 2 u₁ = mark_same 2 u₁ a 0 room₁ (λ e. omega (arith, four₁)) (λ e. omega arith) in
        let four : marked 4 (set u₁ a 0) ≡ marked 4 u = mark_removed 4 u₁ a 0 room₁ (marked 4 u) path₁ off_path (λ e. omega arith) in
        let walked = walked_up (set u₁ a 0) (length-set u₁ a 0 ∙ w.tables.u_room) (small_set 4 u₁ a 0 w.tables.u_marks (omega arith)) four (rw (one, two) w.tables.right) in
        record {
          visited = record { walked = walked; says = x.says; spent = spent_up (Finding.Waits l) x.spent };
          shuts_none = λ e. absurd (distinct e);
        }
      where
        distinct : Finding.Waits l ≡ Finding.Holds → ⊥
        distinct e = let z : ◌≡◌ {A = ℕ} 0 1 = cc in omega arith

    holds_up : Visited P TU u_below (state t₁ u₁ v₁) (R (sure_at P TU u_below) a) (R (may_at P TU u_below) a) Finding.Holds → compl a ∉ tree P T ∅ (above_in t)
        → TuVisit P (state t u v) (state t₁ (u_left Finding.Holds a u₁) v₁) a Finding.Holds
    unfolding Says Resting sure_at u_left
    holds_up x leaf =
        let u₂ = turned_in 3 0 u₁ in
        let pos : 0 < 3 = omega arith in
        let room₂ : a < length u₂ = omega (arith, turned_room 3 0 pos u₁, room₁) in
        let same : (k : ℕ) → (3 ≡ k → ⊥) → (0 ≡ k → ⊥) → marked k u₂ ≡ marked k u₁ = turned_same 3 0 pos u₁ in
        let path₂ : marked 4 u₂ ≡ add a (marked 4 u) = same 4 (λ e. omega arith) (λ e. omega arith) ∙ path₁ in
        let four₂ : get_or u₂ a 0 ≡ 4 = marked_at 4 u₂ a (ap (λ (S : Set). S a) path₂ ∙ add_has a (marked 4 u)) in
        let one : marked 1 (set u₂ a 2) ≡ marked 1 u₁ = mark_same 1 u₂ a 2 room₂ (λ e. omega (arith, four₂)) (λ e. omega arith) ∙ same 1 (λ e. omega arith) (λ e. omega arith) in
        let two : marked 2 (set u₂ a 2) ≡ add a (marked 2 u₁) = mark_added 2 u₂ a 2 room₂ refl ∙ ap (add a) (same 2 (λ e. omega arith) (λ e. omega arith)) in
        let three : marked 3 (set u₂ a 2) ≡ marked 3 u₂ = mark_same 3 u₂ a 2 room₂ (λ e. omega (arith, four₂)) (λ e. omega arith) in
        let four : marked 4 (set u₂ a 2) ≡ marked 4 u = mark_removed 4 u₂ a 2 room₂ (marked 4 u) path₂ off_path (λ e. omega arith) in
        let gone : (A : ℕ) → A ∈ marked 3 (set u₂ a 2) → ⊥ = λ A k. clash (rw three at k) (turned_gone 3 0 pos u₁ (λ e. omega arith) A) in
        let f : Entry → Bool = child (tree P) TU ∅ (marked 3 t) in
        let holds : a ∈ tree P TU ∅ (marked 3 t) =
        u_has P (marked 3 t) a (supported_seminormal P f a ∙ and_intro (f (default (compl a))) (supported P f a) (not_intro leaf) (by_rule join f a small x.says.0)) in
        let there : a ∈ tree P TU ∅ (marked 3 t₁) = ap (λ (S : Set). tree P TU ∅ S a) w.above_kept ∙ holds in
        let walked = walked_up (set u₂ a 2) (length-set u₂ a 2 ∙ turned_room 3 0 pos u₁ ∙ w.tables.u_room)
        (small_set 4 u₂ a 2 (turned_small 3 0 pos u₁ 4 (omega arith) w.tables.u_marks) (omega arith)) four (rw (one, two) (right_held w.tables.right a there)) in
        record {
          visited = record { walked = walked; says = (holds, λ A k. absurd (gone A k)); spent = spent_up Finding.Holds x.spent };
          shuts_none = λ e A k. absurd (gone A k);
        }

  -- by whatever its rules found
  module _ (b : ℕ) (q : b ≡ compl a) (leaf-head : Bool) (heads : headed P b ≡ leaf-head) (leaf : is_holds (leaf_says leaf-head (get_or t b 0) b) ≡ true) (m : a ∉ F) where
    pub u_leaves : (t₁ u₁ : List ℕ) (v₁ : ℕ) (f : Finding) → Visited P TU u_below (state t₁ u₁ v₁) (R (sure_at P TU u_below) a) (R (may_at P TU u_below) a) f
        → (u₂ : List ℕ) → u₂ ≡ u_left f a u₁ → TuVisit P (state t u v) (state t₁ u₂ v₁) a f
    u_leaves t₁ u₁ v₁ Finding.Holds x u₂ e = rw e (holds_up t₁ u₁ v₁ x.walked x (rw (← q) (leaf_fails r b (b_small r a small b q leaf-head heads) leaf-head heads leaf)))
    u_leaves t₁ u₁ v₁ Finding.Fails x u₂ e = rw e (fails_up t₁ u₁ v₁ x.walked x m)
    u_leaves t₁ u₁ v₁ (Finding.Waits l) x u₂ e = rw e (waits_up t₁ u₁ v₁ x.walked l x)
