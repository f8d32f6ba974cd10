-- What the private functions tell each other: one pass over some rules, and where rounds come to a stop.
use Rattle.std.specs.Prelude.{◌≡◌, not, cond, ◌&&◌, List, [], ◌∷◌, ℕ, suc, ◌≤◌}
use Rattle.wfsx.specs.Sets.{Set, add, iterate}
use Rattle.wfsx.specs.Program.{Rule, Program}
use Rattle.wfsx.specs.Model.{holds, every, Γs}
use Rattle.wfsx.specs.Groups.{round_of}
use Rattle.litset.specs.Words.{set_of}
use Rattle.book.specs.Book.{rules_numbered}
use Rattle.fixpoint.specs.declared.Model.{Model}
use Rattle.fixpoint.specs.declared.Numbered.{Numbered}

-- the rules that a `Numbered` of the code has
abbrev pub rules_by : Numbered → List Rule
rules_by n = rules_numbered n.heads.now n.starts.now n.entries.now n.numbers.now

-- ---- a pass, where the heads in B are shut: their rules are passed over

-- X with the head of a rule whose body holds over X and S, unless the head is shut
abbrev pub fire : Set → Set → Rule → Set → Set
fire B S r X = cond (not (B r.head) && every (holds X S) r.body) (add r.head X) X

-- what one pass over the rules makes of X: each rule sees the heads that the rules before it added
unfoldable pub pass : List Rule → Set → Set → Set → Set
pass [] B S X = X
pass (r ∷ P) B S X = pass P B S (fire B S r X)

-- ---- rounds

-- where rounds from S come to a stop: the first set that stays the same, Γs of it, and how many rounds lead to it
pub record SettledFrom (P Q : Program) (S : Set) (m : Model) : Type 0 where
  pub reached : set_of m.truths.words ≡ iterate (round_of P Q) S m.rounds
  pub still : set_of m.truths.words ≡ round_of P Q (set_of m.truths.words)
  pub nonfalse : set_of m.nonfalse.words ≡ Γs Q (set_of m.truths.words)
  pub first : (j : ℕ) → iterate (round_of P Q) S j ≡ iterate (round_of P Q) S (suc j) → m.rounds ≤ j
