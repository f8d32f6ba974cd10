-- The search of a TU-tree: its root holds, or fails and then all that failed with it is false, or it waits. Then the shut literals are
-- forgotten, and the T-tree that is opened pays for the path that was walked in vain, so that each round leaves less.
use mathlib.Core.Path.{◌≡◌, refl, sym, ◌∙◌, ap}
use mathlib.Core.Logic.{⊎_elim}
use mathlib.Core.Bool.{Bool, true, false}
use mathlib.Core.List.{List}
use Prim.Native.Nat.{ℕ, ◌+◌, ◌≤◌, ◌<◌}
use native.Mathlib.Omega.{arith}
use lib.ListN.{get_or}
use Rattle.truth.proofs.Truth.{clash}
use Rattle.wfsx.specs.Sets.{Set, ◌∈◌, ◌∉◌, ∅}
use Rattle.wfsx.specs.Program.{Program}
use Rattle.wfsx.specs.Model.{headed, head_count}
use Rattle.wfsx.specs.Trees.{T, TU, tree}
use Rattle.wfsx.proofs.Sets.{⊆_antisym}
use Rattle.litset.specs.Words.{capacity}
use Rattle.search.specs.declared.Finding.{Finding}
use Rattle.search.specs.Marks.{marked, turned_in}
use Rattle.search.specs.Walk.{State, state, Resting, left_in, kept, Ready, Walked, Says, TVisit, TuVisit, TuSearch}
use Rattle.search.proofs.Marks.{marked_is, marked_at, marked_not, turned_room, turned_gone, turned_same, turned_into, turned_small}
use Rattle.search.proofs.Answers.{right_false}
use Rattle.search.proofs.Stock.{settled_left, forgotten_left}
use Rattle.search.proofs.Visits.{Going, T≢TU, walked_either, walked_more, paid_more, spent_holds, spent_fails}

-- outside a TU-tree nothing is shut, and no literal is on a path
module _ (P : Program) (u : List ℕ) (rest : Resting P T u) where
  rests_in : Resting P TU u
  unfolding Resting
  rests_in A m = let three : get_or u A 0 ≡ 3 = marked_at 3 u A m in let few = rest A in absurd (omega arith)

  no_shut : (A : ℕ) → A ∉ marked 3 u
  unfolding Resting
  no_shut A = marked_not 3 u A (λ e. let few = rest A in omega arith)

  no_path : (A : ℕ) → A ∉ marked 4 u
  unfolding Resting
  no_path A = marked_not 4 u A (λ e. let few = rest A in omega arith)

  path_empty : marked 4 u ≡ ∅
  path_empty = ⊆_antisym (λ A m. absurd (clash m (no_path A))) (λ A m. absurd (clash m refl))

rests : (P : Program) (u : List ℕ) → ((A : ℕ) → get_or u A 0 ≤ 4) → ((A : ℕ) → A ∉ marked 3 u) → ((A : ℕ) → A ∉ marked 4 u) → Resting P T u
unfolding Resting
rests P u small three four A =
    let n : get_or u A 0 ≡ 3 → ⊥ = λ e. clash (marked_is 3 u A e) (three A) in
    let m : get_or u A 0 ≡ 4 → ⊥ = λ e. clash (marked_is 4 u A e) (four A) in
    let few : get_or u A 0 ≤ 4 = small A in
    omega arith

-- it begins, and begins again
pub search_ready : {P : Program} {s₀ s : State} → Ready P T s₀ 0 → Going P T s₀ s → Ready P TU s 0
search_ready {P} {s = s} r g = record { tables = g.walked.tables; resting = rests_in P s.u g.resting; room = omega (arith, r.room, g.paid.paid) }

module _ {P : Program} {s₀ s : State} (g : Going P T s₀ s) (t₁ u₁ : List ℕ) (v₁ a : ℕ) where
  off_path : Walked P TU s (state t₁ u₁ v₁) → (A : ℕ) → A ∉ marked 4 u₁
  off_path w A = ap (λ (S : Set). S A) w.path_kept ∙ no_path P s.u g.resting A

  -- the root holds
  holds_now : TuVisit P s (state t₁ u₁ v₁) a Finding.Holds → TuSearch P s₀ (state t₁ u₁ v₁) a true
  unfolding Says
  holds_now v =
      let w = v.visited.walked in
      record {
        walked = walked_more g.walked (walked_either w);
        resting = rests P u₁ w.tables.u_marks (λ A. marked_not 3 u₁ A (λ e. clash (v.shuts_none refl A (marked_is 3 u₁ A e)) (no_shut P s.u g.resting A))) (off_path w);
        paid = paid_more g.paid (spent_holds v.visited.spent);
        said_yes = λ _. ap (λ (X : Set). tree P TU ∅ X a) (sym g.walked.above_kept) ∙ v.visited.says.0;
        said_no = λ e. absurd (clash refl e);
      }

  pub search_holds : (f : Finding) → f ≡ Finding.Holds → TuVisit P s (state t₁ u₁ v₁) a f → TuSearch P s₀ (state t₁ u₁ v₁) a true
  search_holds f e v = holds_now (rw e at v)

  -- a turn of the shut literals
  turned_rests : (to : ℕ) → to < 3 → Walked P TU s (state t₁ u₁ v₁) → Resting P T (turned_in 3 to u₁)
  turned_rests to l w =
      rests P (turned_in 3 to u₁) (turned_small 3 to (omega arith) u₁ 4 (omega arith) w.tables.u_marks) (turned_gone 3 to (omega arith) u₁ (λ e. omega arith))
      (λ A. ap (λ (S : Set). S A) (turned_same 3 to (omega arith) u₁ 4 (λ e. omega arith) (λ e. omega arith)) ∙ off_path w A)

  -- the root fails: what failed with it is false
  module _ (u₂ : List ℕ) (e : u₂ ≡ turned_in 3 1 u₁) where
    fails_now : TuVisit P s (state t₁ u₁ v₁) a Finding.Fails → TuSearch P s₀ (state t₁ u₂ v₁) a false
    unfolding Says Resting
    fails_now v =
        let w = v.visited.walked in
        let pos : 0 < 3 = omega arith in
        let two : marked 2 (turned_in 3 1 u₁) ≡ marked 2 u₁ = turned_same 3 1 pos u₁ 2 (λ e. omega arith) (λ e. omega arith) in
        let four : marked 4 (turned_in 3 1 u₁) ≡ marked 4 u₁ = turned_same 3 1 pos u₁ 4 (λ e. omega arith) (λ e. omega arith) in
        let empty : marked 4 u₁ ≡ ∅ = w.path_kept ∙ path_empty P s.u g.resting in
        let false₂ : (A : ℕ) → A ∈ marked 1 (turned_in 3 1 u₁) → A ∉ tree P TU ∅ ∅ = λ A m.
        ⊎_elim (λ k. ap (λ (S : Set). tree P TU S ∅ A) (sym empty) ∙ v.visited.says.1 A k) (λ k. w.tables.right.false_right A k) (turned_into 3 1 pos u₁ A m) in
        let paid = spent_fails v.visited.spent in
        rw e (record {
          walked = walked_more g.walked (record {
            above_kept = w.above_kept;
            path_kept = four ∙ w.path_kept;
            t_kept = λ k. absurd (T≢TU k);
            tables = record {
              t_room = w.tables.t_room;
              u_room = turned_room 3 1 pos u₁ ∙ w.tables.u_room;
              t_marks = w.tables.t_marks;
              u_marks = turned_small 3 1 pos u₁ 4 (omega arith) w.tables.u_marks;
              right = rw two (right_false w.tables.right (marked 1 (turned_in 3 1 u₁)) false₂);
            };
          });
          resting = turned_rests 1 (omega arith) w;
          paid = paid_more g.paid (record { counted = paid.counted; paid = omega (arith, paid.paid, settled_left P t₁ u₁) });
          said_yes = λ k. absurd (clash k refl);
          said_no = λ _. ap (λ (Y : Set). tree P TU Y ∅ a) (sym (path_empty P s.u g.resting)) ∙ v.visited.says.0;
        })

    pub search_fails : (f : Finding) → f ≡ Finding.Fails → TuVisit P s (state t₁ u₁ v₁) a f → TuSearch P s₀ (state t₁ u₂ v₁) a false
    search_fails f e v = fails_now (rw e at v)

  -- it waits: the shut literals are forgotten
  module _ (u₂ : List ℕ) (e : u₂ ≡ turned_in 3 0 u₁) (l : ℕ) (f : Finding) (q : f ≡ Finding.Waits l) (found : TuVisit P s (state t₁ u₁ v₁) a f) where
    v : TuVisit P s (state t₁ u₁ v₁) a (Finding.Waits l)
    v = rw q at found

    forgets : Walked P T s (state t₁ u₂ v₁)
    forgets =
        let w = v.visited.walked in
        let pos : 0 < 3 = omega arith in
        let same : (k : ℕ) → (3 ≡ k → ⊥) → (0 ≡ k → ⊥) → marked k (turned_in 3 0 u₁) ≡ marked k u₁ = turned_same 3 0 pos u₁ in
        rw e (record {
          above_kept = w.above_kept;
          path_kept = same 4 (λ k. omega arith) (λ k. omega arith) ∙ w.path_kept;
          t_kept = λ k. absurd (T≢TU k);
          tables = record {
            t_room = w.tables.t_room;
            u_room = turned_room 3 0 pos u₁ ∙ w.tables.u_room;
            t_marks = w.tables.t_marks;
            u_marks = turned_small 3 0 pos u₁ 4 (omega arith) w.tables.u_marks;
            right = rw (same 1 (λ k. omega arith) (λ k. omega arith), same 2 (λ k. omega arith) (λ k. omega arith)) w.tables.right;
          };
        })

    pub search_walked : Walked P T s₀ (state t₁ u₂ v₁)
    search_walked = walked_more g.walked forgets

    -- the path that was walked is owed
    owed : v₁ + left_in P (state t₁ u₂ v₁) ≤ s.visits + left_in P s + head_count capacity P
    unfolding kept
    owed = rw e (omega (arith, v.visited.spent.spent, forgotten_left P t₁ u₁ v.visited.walked.tables.u_room))

    pub search_opens : Ready P T s₀ 0 → Ready P T (state t₁ u₂ v₁) (head_count capacity P) × ((l < capacity) × ((get_or t₁ l 0 ≡ 0) × (l ∈ headed P)))
    unfolding Says
    search_opens r =
        (record { tables = forgets.tables; resting = rw e (turned_rests 0 (omega arith) v.visited.walked); room = omega (arith, owed, r.room, g.paid.paid) }, v.visited.says.1)

    -- and paid by the T-tree
    pub search_again : {s' : State} {holds : Bool} → TVisit P (state t₁ u₂ v₁) s' l holds → (get_or t₁ l 0 ≡ 0) × (l ∈ headed P) → Going P T s₀ s' × (left_in P s' < left_in P s)
    search_again x z =
        let p = x.pays z.0 z.1 in
        let c = v.visited.spent.counted in (
          record {
            walked = walked_more g.walked (walked_more forgets x.settled.walked);
            resting = x.settled.resting;
            paid = paid_more g.paid (record { counted = omega (arith, c, p.counted); paid = omega (arith, owed, p.paid) });
          },
          omega (arith, owed, c, x.less z.0 z.1),
        )
