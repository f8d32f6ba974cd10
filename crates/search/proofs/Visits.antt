-- One visit after another: the marks are those that were handed in, so what is asked of a child is the same all along a loop.
use mathlib.Core.Path.{◌≡◌, refl, sym, ◌∙◌, ap}
use mathlib.Core.Bool.{Bool, true, false}
use mathlib.Core.List.{List}
use Prim.Native.Nat.{ℕ}
use native.Mathlib.Nat.{le_refl}
use native.Mathlib.Omega.{arith}
use Rattle.truth.proofs.Truth.{clash}
use Rattle.wfsx.specs.Program.{Entry, Program}
use Rattle.wfsx.specs.Model.{every}
use Rattle.wfsx.specs.Trees.{Tree, T, TU}
use Rattle.search.specs.declared.Finding.{Finding}
use Rattle.search.specs.Marks.{is_holds, is_fails}
use Rattle.search.specs.Walk.{State, Tables, Resting, Paid, kept, Spent, Ready, Walked, Says, Visited, sure_at, may_at}

pub T≢TU : T ≡ TU → ⊥
T≢TU e = let z : ◌≡◌ {A = ℕ} 0 1 = cc in omega arith

-- ---- what is left and paid

pub walked_none : {P : Program} (k : Tree) {s : State} → Tables P s.t s.u → Walked P k s s
walked_none k h = record { above_kept = refl; path_kept = refl; t_kept = λ e. refl; tables = h }

pub walked_more : {P : Program} {k : Tree} {s s' s'' : State} → Walked P k s s' → Walked P k s' s'' → Walked P k s s''
walked_more g h =
    record {
      above_kept = h.above_kept ∙ g.above_kept;
      path_kept = h.path_kept ∙ g.path_kept;
      t_kept = λ e. h.t_kept e ∙ g.t_kept e;
      tables = h.tables;
    }

-- a TU-tree leaves the T-trees' table alone, so its walk is one of either kind
pub walked_either : {P : Program} {s s' : State} → Walked P TU s s' → Walked P T s s'
walked_either h = record { above_kept = h.above_kept; path_kept = h.path_kept; t_kept = λ e. absurd (T≢TU e); tables = h.tables }

pub paid_none : {P : Program} {s : State} → Paid P s s 0
paid_none = record { counted = le_refl _; paid = omega arith }

pub spent_none : {P : Program} (f : Finding) {s : State} → Spent P f s s
unfolding kept
spent_none Finding.Holds = record { counted = le_refl _; spent = omega arith }
spent_none Finding.Fails = record { counted = le_refl _; spent = omega arith }
spent_none (Finding.Waits l) = record { counted = le_refl _; spent = omega arith }

-- a tree walked to its end pays for a node that holds or fails
pub paid_holds : {P : Program} {s s' : State} → Paid P s s' 0 → Spent P Finding.Holds s s'
unfolding kept
paid_holds g = record { counted = g.counted; spent = omega (arith, g.paid) }

pub paid_fails : {P : Program} {s s' : State} → Paid P s s' 0 → Spent P Finding.Fails s s'
unfolding kept
paid_fails g = record { counted = g.counted; spent = omega (arith, g.paid) }

pub spent_holds : {P : Program} {s s' : State} → Spent P Finding.Holds s s' → Paid P s s' 0
unfolding kept
spent_holds g = record { counted = g.counted; paid = omega (arith, g.spent) }

pub spent_fails : {P : Program} {s s' : State} → Spent P Finding.Fails s s' → Paid P s s' 0
unfolding kept
spent_fails g = record { counted = g.counted; paid = omega (arith, g.spent) }

pub paid_more : {P : Program} {s s' s'' : State} → Paid P s s' 0 → Paid P s' s'' 0 → Paid P s s'' 0
paid_more g h = record { counted = omega (arith, g.counted, h.counted); paid = omega (arith, g.paid, h.paid) }

spent_more : {P : Program} {s s' s'' : State} (f : Finding) → Paid P s s' 0 → Spent P f s' s'' → Spent P f s s''
spent_more f g h = record { counted = omega (arith, g.counted, h.counted); spent = omega (arith, g.paid, h.spent) }

-- ---- a loop

-- from where a loop began to where it is
pub record Going (P : Program) (k : Tree) (s₀ s : State) : Type 0 where
  pub walked : Walked P k s₀ s
  pub resting : Resting P k s.u
  pub paid : Paid P s₀ s 0

pub going_none : {P : Program} {k : Tree} {s : State} {over : ℕ} → Ready P k s over → Going P k s s
going_none {k = k} r = record { walked = walked_none k r.tables; resting = r.resting; paid = paid_none }

pub going_ready : {P : Program} {k : Tree} {s₀ s : State} → Ready P k s₀ 0 → Going P k s₀ s → Ready P k s 0
going_ready r g = record { tables = g.walked.tables; resting = g.resting; room = omega (arith, r.room, g.paid.paid) }

module _ {P : Program} {k : Tree} {s₀ s : State} (g : Going P k s₀ s) where
  sure_moved : sure_at P k s ≡ sure_at P k s₀
  unfolding sure_at
  sure_moved = go k g.walked
    where
      go : (j : Tree) → Walked P k s₀ s → sure_at P j s ≡ sure_at P j s₀
      go T w = refl
      go TU w = rw w.above_kept refl

  may_moved : may_at P k s ≡ may_at P k s₀
  unfolding may_at
  may_moved = go k g.walked
    where
      go : (j : Tree) → Walked P k s₀ s → may_at P j s ≡ may_at P j s₀
      go T w = rw w.above_kept refl
      go TU w = rw w.path_kept refl

  pub sure_at_lem : (q : Entry) → sure_at P k s q ≡ true → sure_at P k s₀ q ≡ true
  sure_at_lem q e = ap (λ (f : Entry → Bool). f q) (sym sure_moved) ∙ e

  pub may_at_lem : (q : Entry) → may_at P k s q ≡ false → may_at P k s₀ q ≡ false
  may_at_lem q e = ap (λ (f : Entry → Bool). f q) (sym may_moved) ∙ e

  pub sure_all : (es : List Entry) → every (sure_at P k s) es ≡ true → every (sure_at P k s₀) es ≡ true
  sure_all es e = ap (λ (f : Entry → Bool). every f es) (sym sure_moved) ∙ e

  pub may_all : (es : List Entry) → every (may_at P k s) es ≡ false → every (may_at P k s₀) es ≡ false
  may_all es e = ap (λ (f : Entry → Bool). every f es) (sym may_moved) ∙ e

  -- the loop ends
  pub going_holds : {sure may : Bool} → sure ≡ true → Visited P k s₀ s sure may Finding.Holds
  unfolding Says
  going_holds e = record { walked = g.walked; says = (e, g.resting); spent = paid_holds g.paid }

  pub going_fails : {sure may : Bool} → may ≡ false → Visited P k s₀ s sure may Finding.Fails
  unfolding Says
  going_fails e = record { walked = g.walked; says = (e, g.resting); spent = paid_fails g.paid }

-- it goes on after a visit
module _ {P : Program} {k : Tree} {s₀ s s' : State} {sure may : Bool} where
  pub after_holds : (f : Finding) → Going P k s₀ s → Visited P k s s' sure may f → is_holds f ≡ true → Going P k s₀ s' × (sure ≡ true)
  unfolding Says
  after_holds Finding.Holds g v e =
      (record { walked = walked_more g.walked v.walked; resting = v.says.1; paid = paid_more g.paid (spent_holds v.spent) }, v.says.0)
  after_holds Finding.Fails g v e = absurd (clash e refl)
  after_holds (Finding.Waits l) g v e = absurd (clash e refl)

  pub after_fails : (f : Finding) → Going P k s₀ s → Visited P k s s' sure may f → is_fails f ≡ true → Going P k s₀ s' × (may ≡ false)
  unfolding Says
  after_fails Finding.Holds g v e = absurd (clash e refl)
  after_fails Finding.Fails g v e =
      (record { walked = walked_more g.walked v.walked; resting = v.says.1; paid = paid_more g.paid (spent_fails v.spent) }, v.says.0)
  after_fails (Finding.Waits l) g v e = absurd (clash e refl)

  -- or ends with what the visit found
  pub ends_with : (f : Finding) {sure₀ may₀ : Bool} → Going P k s₀ s → Visited P k s s' sure may f → (is_holds f ≡ true → sure ≡ true → sure₀ ≡ true)
      → (is_fails f ≡ true → may ≡ false → may₀ ≡ false) → Visited P k s₀ s' sure₀ may₀ f
  unfolding Says
  ends_with Finding.Holds g v sure-said may-said =
      record { walked = walked_more g.walked v.walked; says = (sure-said refl v.says.0, v.says.1); spent = spent_more Finding.Holds g.paid v.spent }
  ends_with Finding.Fails g v sure-said may-said =
      record { walked = walked_more g.walked v.walked; says = (may-said refl v.says.0, v.says.1); spent = spent_more Finding.Fails g.paid v.spent }
  ends_with (Finding.Waits l) g v sure-said may-said =
      record { walked = walked_more g.walked v.walked; says = v.says; spent = spent_more (Finding.Waits l) g.paid v.spent }
