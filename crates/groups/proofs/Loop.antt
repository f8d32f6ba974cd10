-- The loop over the groups with the tables of an index and of the working order. The numbers gathered and the facts kept are the rules of the group that comes next, so
-- the values after its step are those of one group more.
use mathlib.Core.Path.{◌≡◌, sym, ◌∙◌, ap, ap₂}
use mathlib.Core.Logic.{inl, inr, ⊎_elim}
use mathlib.Core.List.{List}
use Prim.Native.Nat.{ℕ, ◌+◌, ◌-◌, ◌≤◌, ◌<◌}
use lib.ListN.{length, get_or, take, drop}
use Rattle.wfsx.specs.Sets.{Set, ∅, ◌is_in◌, members}
use Rattle.wfsx.specs.Program.{Rule, Program}
use Rattle.wfsx.specs.Reach.{name_for, group}
use Rattle.wfsx.specs.Groups.{working_order, step}
use Rattle.wfsx.proofs.Order.{order_facts}
use Rattle.litset.specs.Words.{capacity, set_of}
use Rattle.book.specs.Book.{rules_in, rules_numbered, program, joined}
use Rattle.index.specs.Index.{head_starts, head_rules}
use Rattle.reach.specs.Order.{numbered}
use Rattle.fixpoint.specs.Result.{values_of, StepOf}
use Rattle.fixpoint.specs.declared.Values.{Values}
use Rattle.groups.specs.Whole.{WholeOf}
use Rattle.groups.specs.Parts.{runs_of, RunsFit, facts_for, alike, Stepped, Laid}
use Rattle.groups.proofs.Runs.{runs_fit}
use Rattle.groups.proofs.Rules.{group_rules, all_named, heads_small}
use Rattle.groups.proofs.Left.{Left, Turn, left_start, turn, left_more, left_end}

values_are : {G : Program} {before after : Values} → StepOf G before after → values_of after ≡ step capacity G (values_of before)
values_are s = ap₂ (λ (x y : Set). record { truths = x; nonfalse = y }) s.truths s.nonfalse

module _ {heads starts entries first rules name numbers : List ℕ} {F : Set} (t : Laid heads starts entries first rules name numbers F) where
  abbrev P : Program
  P = program (rules_in heads starts entries t.count) F

  pub named : (r : Rule) → r is_in P → name_for r < t.n
  named = all_named heads starts entries t.count t.few F t.n t.used.most (rw t.starts_are at t.used)

  -- the groups from place p on are left, and v has the values of those before
  pub record Before (p : ℕ) (v : Values) : Type 0 where
    pub left : Left P t.n named name numbers p (values_of v)

  -- the next group stands from place p to `end`
  pub record Next (p end : ℕ) (v : Values) : Type 0 where
    pub turn : Turn P t.n named name numbers p end (values_of v)

  pub before_start : (v : Values) → set_of v.truths.words ≡ ∅ → set_of v.nonfalse.words ≡ ∅ → Before 0 v
  before_start v a b =
      let order : working_order P t.n ≡ working_order (rules_in heads starts entries t.count) t.n = order_facts (rules_in heads starts entries t.count) (members capacity F) t.n in
      record { left = rw (a, b) (left_start P t.n named (t.names_are ∙ ap joined (sym order)) (t.groups_are ∙ ap (numbered 0) (sym order))) }

  pub before_next : {p end : ℕ} {v : Values} → Before p v → p < length name → end ≡ p + alike (get_or numbers p 0) (drop p numbers) → Next p end v
  before_next l more e = record { turn = turn P t.n named l.left more e }

  pub before_end : {p : ℕ} {v : Values} → Before p v → length name ≤ p → WholeOf P v
  before_end l all = let w = left_end P t.n named l.left all in record { truths = w.0; nonfalse = w.1 }

  module _ {p end : ℕ} {v : Values} (next : Next p end v) where
    -- the names of the group
    abbrev its : List ℕ
    its = take (end - p) (drop p name)

    pub next_fit : RunsFit first rules its
    next_fit = rw (t.starts_are, t.rules_are, next.turn.here) (runs_fit heads t.count t.few (group P next.turn.k) t.n t.used.most)

    pub next_done : {w : Values} {l : List ℕ} {own : Set} → l ≡ runs_of first rules its → own ≡ facts_for its F → Stepped (program (rules_numbered heads starts entries l) own) v w → Before end w
    next_done {w} {l} {own} e f s =
        record {
          left = left_more P t.n named next.turn G (heads_small heads starts entries t.count t.few F t.n t.used.most)
              (group_rules heads starts entries t.count t.few F t.n t.used.most named (group P next.turn.k) gathered kept) (values_of w) (⊎_elim (λ a. inl (values_are a)) (λ a. inr (a.0, ap values_of a.1)) s);
        }
      where
        G : Program
        G = program (rules_numbered heads starts entries l) own

        gathered : l ≡ runs_of (head_starts heads t.count) (head_rules heads t.count) (members t.n (group P next.turn.k))
        gathered = rw (← t.starts_are, ← t.rules_are, ← next.turn.here) e

        kept : own ≡ facts_for (members t.n (group P next.turn.k)) F
        kept = rw (← next.turn.here) f
