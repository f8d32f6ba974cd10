-- A child of a node, one law for each kind of tree and of entry.
use mathlib.Core.Path.{◌≡◌, refl, ◌∙◌, ap}
use mathlib.Core.Bool.{Bool, true, false, not}
use Prim.Native.Nat.{ℕ, ◌<◌}
use native.Mathlib.Omega.{arith}
use lib.ListN.{get_or}
use Rattle.truth.proofs.Truth.{not_intro}
use Rattle.wfsx.specs.Sets.{∅}
use Rattle.wfsx.specs.Program.{Program}
use Rattle.wfsx.specs.Model.{headed}
use Rattle.wfsx.specs.Trees.{T, TU}
use Rattle.wfsx.proofs.Trees.{first_way}
use Rattle.litset.specs.Words.{capacity}
use Rattle.book.specs.declared.Entry.{Entry}
use Rattle.book.specs.Book.{entry_is, literal_in}
use Rattle.search.specs.declared.Tree.{Tree}
use Rattle.search.specs.declared.Finding.{Finding}
use Rattle.search.specs.Questions.{tree_of}
use Rattle.search.specs.Marks.{above_in, found, leaf_says}
use Rattle.search.specs.Walk.{State, Ready, Says, Visited, Settled, TVisit, TuVisit, TuSearch, sure_at, may_at}
use Rattle.search.proofs.Visits.{paid_holds, paid_fails}
use Rattle.search.proofs.TuNodes.{leaf_visit}

-- what a child is handed is what its node is
module _ {P : Program} {s : State} (k : Tree) (r : Ready P (tree_of k) s 0) where
  pub ready_T : k ≡ Tree.T → (over : ℕ) → Ready P T s over
  ready_T e over = let q : Ready P T s 0 = rw e at r in record { tables = q.tables; resting = q.resting; room = omega (arith, q.room) }

  pub ready_TU : k ≡ Tree.Tu → Ready P TU s 0
  ready_TU e = rw e at r

pub positive_small : (e : Entry) (b : ℕ) → e ≡ Entry.Positive b → literal_in (entry_is e) < capacity → b < capacity
positive_small e b q l = rw q at l

pub default_small : (e : Entry) (b : ℕ) → e ≡ Entry.Default b → literal_in (entry_is e) < capacity → b < capacity
default_small e b q l = rw q at l

-- a tree that was walked to its end holds or fails
settled_is : {P : Program} {s s' : State} {sure may : Bool} (r : Bool) → Settled P s s' sure may r → Visited P T s s' sure may (found r)
unfolding Says
settled_is true x = record { walked = x.walked; says = (x.said_yes refl, x.resting); spent = paid_holds x.paid }
settled_is false x = record { walked = x.walked; says = (x.said_no refl, x.resting); spent = paid_fails x.paid }

settled_not : {P : Program} {s s' : State} {sure may : Bool} (r : Bool) → Settled P s s' sure may r → {sure₀ may₀ : Bool} → (may ≡ false → sure₀ ≡ true) → (sure ≡ true → may₀ ≡ false)
    → Visited P T s s' sure₀ may₀ (found (not r))
unfolding Says
settled_not true x yes-said no-said = record { walked = x.walked; says = (no-said (x.said_yes refl), x.resting); spent = paid_fails x.paid }
settled_not false x yes-said no-said = record { walked = x.walked; says = (yes-said (x.said_no refl), x.resting); spent = paid_holds x.paid }

module _ {P : Program} {s s' : State} (k : Tree) (e : Entry) (b : ℕ) where
  pub T-positive : k ≡ Tree.T → e ≡ Entry.Positive b → (r : Bool) → TVisit P s s' b r → Visited P (tree_of k) s s' (sure_at P (tree_of k) s (entry_is e)) (may_at P (tree_of k) s (entry_is e)) (found r)
  unfolding sure_at may_at
  T-positive p q r x = rw (p, q) (settled_is r x.settled)

  pub T-default : k ≡ Tree.T → e ≡ Entry.Default b → (r : Bool) → TuSearch P s s' b r → Visited P (tree_of k) s s' (sure_at P (tree_of k) s (entry_is e)) (may_at P (tree_of k) s (entry_is e)) (found (not r))
  unfolding sure_at may_at
  T-default p q r x = rw (p, q) (settled_not r x (λ n. first_way P ∅ ∅ b ∙ ap not n) (λ m. first_way P ∅ (above_in s.t) b ∙ ap not m))

  pub TU-positive : k ≡ Tree.Tu → e ≡ Entry.Positive b → (f : Finding) → TuVisit P s s' b f → Visited P (tree_of k) s s' (sure_at P (tree_of k) s (entry_is e)) (may_at P (tree_of k) s (entry_is e)) f
  unfolding sure_at may_at
  TU-positive p q f x = rw (p, q) x.visited

pub TU-default : {P : Program} {s : State} (k : Tree) (e : Entry) (b : ℕ) → k ≡ Tree.Tu → e ≡ Entry.Default b → b < capacity → (head : Bool) → headed P b ≡ head → Ready P (tree_of k) s 0
    → Visited P (tree_of k) s s (sure_at P (tree_of k) s (entry_is e)) (may_at P (tree_of k) s (entry_is e)) (leaf_says head (get_or s.t b 0) b)
unfolding sure_at may_at
TU-default {P} {s} k e b p q small head heads r = rw (p, q) (leaf_visit (ready_TU k r p) b small head heads (λ _ n. not_intro n) (λ m. ap not m))
