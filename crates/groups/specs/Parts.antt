-- What the private functions tell each other. `first` and `rules` are the tables of an index of the rules by head, `name` and `group` those of the working
-- order, place by place.
use Rattle.std.specs.Prelude.{◌≡◌, ◌⊎◌, false, not, cond, ◌&&◌, ◌||◌, List, [], ◌∷◌, ◌++◌, map, ℕ, suc, ◌+◌, ◌-◌, ◌*◌, ◌≤◌, ◌<◌, eqb, length, get_or, take, drop}
use Rattle.wfsx.specs.Sets.{Set, ◌∉◌, add, ◌is_in◌}
use Rattle.wfsx.specs.Program.{Rule, Program}
use Rattle.wfsx.specs.Reach.{name_of}
use Rattle.wfsx.specs.Groups.{working_order}
use Rattle.book.specs.Limits.{max_names, max_rules}
use Rattle.book.specs.Book.{rules_in, program, joined}
use Rattle.index.specs.Index.{head_starts, head_rules}
use Rattle.reach.specs.Order.{numbered}
use Rattle.fixpoint.specs.Result.{StepOf}
use Rattle.fixpoint.specs.declared.Values.{Values}
use Rattle.groups.specs.Whole.{WholeOf}

-- ---- the rules for a name: one run, from the start of its first literal to the start behind its second

abbrev pub run_of : (first rules : List ℕ) → ℕ → List ℕ
run_of first rules k = take (get_or first (2 * k + 2) 0 - get_or first (2 * k) 0) (drop (get_or first (2 * k) 0) rules)

-- those of some names, one behind another
abbrev pub runs_of : (first rules names : List ℕ) → List ℕ
runs_of first rules names = joined (map (run_of first rules) names)

-- the runs lie in the table, and a table of rules has room for all of them
pub record RunsFit (first rules names : List ℕ) : Type 0 where
  pub inside : (k : ℕ) → k is_in names → get_or first (2 * k + 2) 0 ≤ length rules
  pub room : length (runs_of first rules names) ≤ max_rules

-- a part of a table was put into another, from place `at` to place `behind`
pub record Copied (rules : List ℕ) (from end : ℕ) (numbers : List ℕ) (at behind : ℕ) (numbers' : List ℕ) : Type 0 where
  pub size : length numbers' ≡ length numbers
  pub count : behind ≡ at + (end - from)
  pub whole : take behind numbers' ≡ take at numbers ++ take (end - from) (drop from rules)

-- the runs of some names were put into a table
pub record Gathered (first rules names numbers : List ℕ) (count : ℕ) (numbers' : List ℕ) : Type 0 where
  pub size : length numbers' ≡ length numbers
  pub fits : count ≤ length numbers
  pub whole : take count numbers' ≡ runs_of first rules names

-- ---- names

-- the names of a list
unfoldable pub among : List ℕ → Set
among [] j = false
among (k ∷ ks) j = add k (among ks) j

-- the facts for the names of a list
abbrev pub facts_for : List ℕ → Set → Set
facts_for names F A = F A && among names (name_of A)

-- the names with a rule or a fact
abbrev pub used_in : List ℕ → Set → Set
used_in first F k = not (eqb (get_or first (2 * k) 0) (get_or first (2 * k + 2) 0)) || (F (2 * k) || F (2 * k + 1))

-- every name with a rule or a fact is below n
pub record UsedBelow (first : List ℕ) (F : Set) (n : ℕ) : Type 0 where
  pub most : n ≤ max_names
  pub none : (k : ℕ) → n ≤ k → k < max_names → k ∉ used_in first F

-- how many of the places, from the first on, have the number x
unfoldable pub alike : ℕ → List ℕ → ℕ
alike x [] = 0
alike x (y ∷ ys) = cond (eqb y x) (suc (alike x ys)) 0

-- ---- the groups one by one

-- a group with the rules G: a step, or nothing where there are no rules
abbrev pub Stepped : Program → Values → Values → Type 0
Stepped G before after = StepOf G before after ⊎ (((r : Rule) → r is_in G → ⊥) × (after ≡ before))

-- the tables are those of some rules and of their working order
pub record Laid (heads starts entries first rules name group : List ℕ) (F : Set) : Type 0 where
  pub count : ℕ
  pub n : ℕ
  pub few : count ≤ max_rules
  pub starts_are : first ≡ head_starts heads count
  pub rules_are : rules ≡ head_rules heads count
  pub used : UsedBelow first F n
  pub names_are : name ≡ joined (working_order (rules_in heads starts entries count) n)
  pub groups_are : group ≡ numbered 0 (working_order (rules_in heads starts entries count) n)

-- then the values are M and N of these rules and the facts
abbrev pub ByGroups : (heads starts entries first rules name group : List ℕ) → Set → Values → Type 0
ByGroups heads starts entries first rules name group F v =
    (t : Laid heads starts entries first rules name group F) → WholeOf (program (rules_in heads starts entries t.count) F) v
