-- What the maker of proof sheets promises (document 02, A.3).
use Rattle.std.specs.Prelude.{◌≡◌, Bool, List, ℕ, ◌*◌, ◌≤◌, ◌<◌, Option, IfSome, IsSome}
use Rattle.wfsx.specs.Sets.{Set, ◌is_in◌}
use Rattle.wfsx.specs.Program.{Rule, Program, positive, default}
use Rattle.book.specs.Book.{program}
use Rattle.sheet.specs.Sheet.{judgement, accepted, IsSo}
use Rattle.sheet.specs.Flat.{entries_in}
use Rattle.maker.specs.declared.Made.{Made}

-- all literals of P lie below n
pub record Within (n : ℕ) (P : Program) : Type 0 where
  pub heads_below : (r : Rule) → r is_in P → r.head < n
  pub positive_below : (r : Rule) → r is_in P → (B : ℕ) → positive B is_in r.body → B < n
  pub default_below : (r : Rule) → r is_in P → (C : ℕ) → default C is_in r.body → C < n

-- What is made for a claim. Which sheet it is, is the program's choice: it has at most two entries for each known literal, the check accepts it, and one is found
-- for every claim that is so, where all literals of the program are known.
pub record MadeFor (rules : List Rule) (facts : Set) (known : ℕ) (truth : Bool) (A : ℕ) (made : Option Made) : Type 0 where
  pub few : IfSome made (λ m. m.count ≤ 2 * known)
  pub passes : IfSome made (λ m. judgement rules facts known truth A (entries_in m.sheet.entries m.count) ≡ accepted)
  pub complete : Within known (program rules facts) → A < known → IsSo (program rules facts) truth A → IsSome made
