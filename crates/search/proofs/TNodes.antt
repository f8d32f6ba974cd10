-- A node of a T-tree, one law for each way through it: its mark is known, it is a fact, it is marked on the way down, and its mark makes
-- room for the answer on the way up.
use mathlib.Core.Path.{◌≡◌, refl, sym, ◌∙◌, ap}
use mathlib.Core.Bool.{Bool, true, false}
use mathlib.Core.List.{List}
use Prim.Native.Nat.{ℕ, ◌+◌, ◌≤◌, ◌<◌}
use native.Mathlib.Omega.{arith}
use lib.Dec.{eqb}
use lib.ListN.{length, get_or, set, length-set}
use borrow.Author.Tests.{eqb-true, eqb-false, ne_eqb}
use Rattle.truth.proofs.Truth.{clash}
use Rattle.wfsx.specs.Sets.{Set, ◌∈◌, ◌∉◌, ∅, add}
use Rattle.wfsx.specs.Program.{Entry, Program}
use Rattle.wfsx.specs.Model.{headed, head_count}
use Rattle.wfsx.specs.Trees.{T, child, tree}
use Rattle.wfsx.proofs.Sets.{add_has}
use Rattle.wfsx.proofs.Ancestors.{t_has, t_fails, t_headless}
use Rattle.litset.specs.Words.{capacity}
use Rattle.search.specs.declared.Finding.{Finding}
use Rattle.search.specs.Marks.{marked, above_in, turned_in, t_left, held_left, is_holds, blanks}
use Rattle.search.specs.Walk.{State, state, Right, Tables, Resting, stock, left_in, Paid, kept, Spent, Ready, Walked, Says, Visited, TVisit, sure_at, may_at}
use Rattle.search.proofs.Marks.{marked_at, marked_not, mark_same, mark_added, mark_removed, small_set, turned_room, turned_gone, turned_same, turned_small}
use Rattle.search.proofs.Answers.{Joined, by_rule, by_fact, by_none, right_proved, right_down, right_failed, right_passed, t_holds, t_not}
use Rattle.search.proofs.Stock.{t_fact_less, t_mark_less, t_fails_left, t_holds_left}
use Rattle.search.proofs.Visits.{T≢TU, walked_none, paid_none}

-- its mark is known
pub t_known : {P : Program} {s : State} {over : ℕ} → Ready P T s over → (a : ℕ) → (get_or s.t a 0 ≡ 0 → ⊥) → TVisit P s s a (eqb (get_or s.t a 0) 1)
t_known {s = s} r a z =
    record {
      settled = record {
        walked = walked_none T r.tables;
        resting = r.resting;
        paid = paid_none;
        said_yes = λ e. t_holds r.tables a (eqb-true (get_or s.t a 0) 1 e);
        said_no = λ e. t_not r.tables a (eqb-false (get_or s.t a 0) 1 e) z;
      };
      pays = λ e _. absurd (z e);
      less = λ e _. absurd (z e);
    }

pub t_known_holds : {P : Program} {s : State} {over : ℕ} → Ready P T s over → (a : ℕ) → get_or s.t a 0 ≡ 1 → TVisit P s s a true
t_known_holds r a e = rw e at (t_known r a (λ z. omega arith))

pub t_known_fails : {P : Program} {s : State} {over : ℕ} → Ready P T s over → (a : ℕ) → (get_or s.t a 0 ≡ 0 → ⊥) → (get_or s.t a 0 ≡ 1 → ⊥) → TVisit P s s a false
t_known_fails {s = s} r a z n = rw (ne_eqb (get_or s.t a 0) 1 n) at (t_known r a z)

-- it is no head: it fails, and nothing is marked
pub t_bare : {P : Program} {s : State} {over : ℕ} → Ready P T s over → (a : ℕ) → a ∉ headed P → TVisit P s s a false
t_bare {P} {s} r a n =
    record {
      settled = record { walked = walked_none T r.tables; resting = r.resting; paid = paid_none; said_yes = λ e. absurd (clash e refl); said_no = λ _. t_headless P (above_in s.t) a n };
      pays = λ _ m. absurd (clash m n);
      less = λ _ m. absurd (clash m n);
    }

-- what is paid where nothing was known
pays_more : {P : Program} {s s' : State} (a : ℕ) {holds : Bool} → Walked P T s s' → Resting P T s'.u → Paid P s s' (head_count capacity P) → left_in P s' + head_count capacity P < left_in P s
    → (holds ≡ true → a ∈ tree P T ∅ ∅) → (holds ≡ false → a ∉ tree P T ∅ (above_in s.t)) → TVisit P s s' a holds
pays_more a w rest p l said_yes said_no =
    record {
      settled = record { walked = w; resting = rest; paid = record { counted = p.counted; paid = omega (arith, p.paid) }; said_yes = said_yes; said_no = said_no };
      pays = λ _ _. p;
      less = λ _ _. l;
    }

module _ {P : Program} {R : (Entry → Bool) → Set} {F : Set} (join : Joined P R F) (t u : List ℕ) (v : ℕ) (r : Ready P T (state t u v) (head_count capacity P)) (a : ℕ) (small : a < capacity) (zero-there : get_or t a 0 ≡ 0) where
  h : Tables P t u
  h = r.tables

  room : a < length t
  room = omega (arith, h.t_room)

  other : (v : ℕ) → (v ≡ 0 → ⊥) → get_or t a 0 ≡ v → ⊥
  other v n e = n (sym e ∙ zero-there)

  not_above : a ∉ marked 3 t
  not_above = marked_not 3 t a (other 3 (λ e. omega arith))

  -- it is a fact
  pub t_fact : a ∈ F → TVisit P (state t u v) (state (set t a 1) u v) a true
  t_fact m =
      let one : marked 1 (set t a 1) ≡ add a (marked 1 t) = mark_added 1 t a 1 room refl in
      let two : marked 2 (set t a 1) ≡ marked 2 t = mark_same 2 t a 1 room (other 2 (λ e. omega arith)) (λ e. omega arith) in
      let three : marked 3 (set t a 1) ≡ marked 3 t = mark_same 3 t a 1 room (other 3 (λ e. omega arith)) (λ e. omega arith) in
      let holds : a ∈ tree P T ∅ ∅ = t_has P a (by_fact join (child (tree P) T ∅ ∅) a small m) in
      let less = t_fact_less P t u a room (by_fact join (λ e. true) a small m) zero-there in
      pays_more a
      (record {
        above_kept = three;
        path_kept = refl;
        t_kept = λ e. absurd (T≢TU e);
        tables = record {
          t_room = length-set t a 1 ∙ h.t_room;
          u_room = h.u_room;
          t_marks = small_set 3 t a 1 h.t_marks (omega arith);
          u_marks = h.u_marks;
          right = rw (one, two, three) (right_proved h.right a holds);
        };
      }) r.resting (record { counted = omega arith; paid = omega (arith, less) }) (omega (arith, less)) (λ _. holds) (λ e. absurd (clash refl e))

  -- it asks its rules
  module _ (head : a ∈ headed P) where
    -- on the way down it is marked
    abbrev pub t_below : State
    t_below = state (set t a 3) u (v + 1)

    below_three : marked 3 (set t a 3) ≡ add a (marked 3 t)
    below_three = mark_added 3 t a 3 room refl

    pub t_ready : Ready P T t_below 0
    t_ready =
        let one : marked 1 (set t a 3) ≡ marked 1 t = mark_same 1 t a 3 room (other 1 (λ e. omega arith)) (λ e. omega arith) in
        let two : marked 2 (set t a 3) ≡ marked 2 t = mark_same 2 t a 3 room (other 2 (λ e. omega arith)) (λ e. omega arith) in
        record {
          tables = record {
            t_room = length-set t a 3 ∙ h.t_room;
            u_room = h.u_room;
            t_marks = small_set 3 t a 3 h.t_marks (omega arith);
            u_marks = h.u_marks;
            right = rw (one, two, below_three) (right_down h.right a);
          };
          resting = r.resting;
          room = omega (arith, r.room, t_mark_less P t u a room head zero-there);
        }

    -- on the way up: t₁, u₁ and v₁ are what its rules left
    module _ (t₁ u₁ : List ℕ) (v₁ : ℕ) (w : Walked P T t_below (state t₁ u₁ v₁)) where
      above₁ : marked 3 t₁ ≡ add a (marked 3 t)
      above₁ = w.above_kept ∙ below_three

      three₁ : get_or t₁ a 0 ≡ 3
      three₁ = marked_at 3 t₁ a (ap (λ (S : Set). S a) above₁ ∙ add_has a (marked 3 t))

      room₁ : a < length t₁
      room₁ = omega (arith, w.tables.t_room)

      below_right : Right P (marked 1 t₁) (marked 2 t₁) (add a (marked 3 t)) (marked 1 u₁) (marked 2 u₁)
      below_right = rw above₁ at w.tables.right

      -- its visit, its stock and the path that it pays for come out of its mark
      paid_up : (f : Finding) (t₂ u₂ : List ℕ) → Spent P f t_below (state t₁ u₁ v₁) → stock P t₂ u₂ + blanks (headed P) u₂ ≤ stock P t₁ u₁ + kept P f u₁
          → Paid P (state t u v) (state t₂ u₂ v₁) (head_count capacity P) × (left_in P (state t₂ u₂ v₁) + head_count capacity P < left_in P (state t u v))
      paid_up f t₂ u₂ s l =
          let less = t_mark_less P t u a room head zero-there in
          (record { counted = omega (arith, s.counted); paid = omega (arith, s.spent, l, less) }, omega (arith, s.counted, s.spent, l, less))

      fails_up : Visited P T t_below (state t₁ u₁ v₁) (R (sure_at P T t_below) a) (R (may_at P T t_below) a) Finding.Fails → a ∉ F
          → TVisit P (state t u v) (state (set t₁ a 2) u₁ v₁) a false
      unfolding Says may_at kept
      fails_up x m =
          let one : marked 1 (set t₁ a 2) ≡ marked 1 t₁ = mark_same 1 t₁ a 2 room₁ (λ e. omega (arith, three₁)) (λ e. omega arith) in
          let two : marked 2 (set t₁ a 2) ≡ add a (marked 2 t₁) = mark_added 2 t₁ a 2 room₁ refl in
          let three : marked 3 (set t₁ a 2) ≡ marked 3 t = mark_removed 3 t₁ a 2 room₁ (marked 3 t) above₁ not_above (λ e. omega arith) in
          let fails : a ∉ tree P T ∅ (marked 3 t) = t_fails P (marked 3 t) a (rw (← below_three) (by_none join (child (tree P) T ∅ (marked 3 (set t a 3))) a small x.says.0 m)) in
          let paid = paid_up Finding.Fails (set t₁ a 2) u₁ x.spent (omega (arith, t_fails_left P t₁ u₁ a three₁)) in
          pays_more a
          (record {
            above_kept = three;
            path_kept = w.path_kept;
            t_kept = λ e. absurd (T≢TU e);
            tables = record {
              t_room = length-set t₁ a 2 ∙ w.tables.t_room;
              u_room = w.tables.u_room;
              t_marks = small_set 3 t₁ a 2 w.tables.t_marks (omega arith);
              u_marks = w.tables.u_marks;
              right = rw (one, two, three) (right_failed P (marked 1 t₁) (marked 2 t₁) (marked 3 t) (marked 1 u₁) (marked 2 u₁) a below_right fails);
            };
          }) x.says.1 paid.0 paid.1 (λ e. absurd (clash e refl)) (λ _. fails)

      holds_up : Visited P T t_below (state t₁ u₁ v₁) (R (sure_at P T t_below) a) (R (may_at P T t_below) a) Finding.Holds
          → TVisit P (state t u v) (state (set (turned_in 2 0 t₁) a 1) (turned_in 2 0 u₁) v₁) a true
      unfolding Says sure_at Resting kept
      holds_up x =
          let t₂ = turned_in 2 0 t₁ in
          let u₂ = turned_in 2 0 u₁ in
          let pos : 0 < 2 = omega arith in
          let room₂ : a < length t₂ = omega (arith, turned_room 2 0 pos t₁, room₁) in
          let same : (k : ℕ) → (2 ≡ k → ⊥) → (0 ≡ k → ⊥) → marked k t₂ ≡ marked k t₁ = turned_same 2 0 pos t₁ in
          let above₂ : marked 3 t₂ ≡ add a (marked 3 t) = same 3 (λ e. omega arith) (λ e. omega arith) ∙ above₁ in
          let three₂ : get_or t₂ a 0 ≡ 3 = marked_at 3 t₂ a (ap (λ (S : Set). S a) above₂ ∙ add_has a (marked 3 t)) in
          let one : marked 1 (set t₂ a 1) ≡ add a (marked 1 t₁) = mark_added 1 t₂ a 1 room₂ refl ∙ ap (add a) (same 1 (λ e. omega arith) (λ e. omega arith)) in
          let two : marked 2 (set t₂ a 1) ≡ marked 2 t₂ = mark_same 2 t₂ a 1 room₂ (λ e. omega (arith, three₂)) (λ e. omega arith) in
          let three : marked 3 (set t₂ a 1) ≡ marked 3 t = mark_removed 3 t₂ a 1 room₂ (marked 3 t) above₂ not_above (λ e. omega arith) in
          let false_same : marked 1 u₂ ≡ marked 1 u₁ = turned_same 2 0 pos u₁ 1 (λ e. omega arith) (λ e. omega arith) in
          let holds : a ∈ tree P T ∅ ∅ = t_has P a (by_rule join (child (tree P) T ∅ ∅) a small x.says.0) in
          let tables₂ : Tables P (set t₂ a 1) u₂ = record {
            t_room = length-set t₂ a 1 ∙ turned_room 2 0 pos t₁ ∙ w.tables.t_room;
            u_room = turned_room 2 0 pos u₁ ∙ w.tables.u_room;
            t_marks = small_set 3 t₂ a 1 (turned_small 2 0 pos t₁ 3 (omega arith) w.tables.t_marks) (omega arith);
            u_marks = turned_small 2 0 pos u₁ 4 (omega arith) w.tables.u_marks;
            right = rw (one, two, three, false_same) (right_passed P (marked 1 t₁) (marked 2 t₁) (marked 3 t) (marked 1 u₁) (marked 2 u₁) a below_right
                (marked 2 t₂) (marked 2 u₂) holds (turned_gone 2 0 pos t₁ (λ e. omega arith)) (turned_gone 2 0 pos u₁ (λ e. omega arith)));
          } in
          let paid = paid_up Finding.Holds (set t₂ a 1) u₂ x.spent (omega (arith, t_holds_left P t₁ u₁ a three₁ w.tables.t_room w.tables.u_room small head)) in
          pays_more a
          (record {
            above_kept = three;
            path_kept = turned_same 2 0 pos u₁ 4 (λ e. omega arith) (λ e. omega arith) ∙ w.path_kept;
            t_kept = λ e. absurd (T≢TU e);
            tables = tables₂;
          }) (λ A. let l : get_or u₂ A 0 ≤ 2 = turned_small 2 0 pos u₁ 2 (omega arith) (λ B. let b = x.says.1 B in omega arith) A in omega arith) paid.0 paid.1 (λ _. holds) (λ e. absurd (clash refl e))

    -- by whatever its rules found; a T-tree waits for nothing
    pub t_leaves : a ∉ F → (t₁ u₁ : List ℕ) (v₁ : ℕ) (f : Finding) → Visited P T t_below (state t₁ u₁ v₁) (R (sure_at P T t_below) a) (R (may_at P T t_below) a) f
        → (t₂ u₂ : List ℕ) → t₂ ≡ t_left f a t₁ → u₂ ≡ held_left f u₁ → TVisit P (state t u v) (state t₂ u₂ v₁) a (is_holds f)
    unfolding t_left held_left Says
    t_leaves m t₁ u₁ v₁ Finding.Holds x t₂ u₂ e q = rw (e, q) (holds_up t₁ u₁ v₁ x.walked x)
    t_leaves m t₁ u₁ v₁ Finding.Fails x t₂ u₂ e q = rw (e, q) (fails_up t₁ u₁ v₁ x.walked x m)
    t_leaves m t₁ u₁ v₁ (Finding.Waits l) x t₂ u₂ e q = absurd (T≢TU x.says.0)
