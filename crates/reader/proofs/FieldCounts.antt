-- Which counts of fields number 4 lets pass, by the first word: the test fails exactly for two fields of a name's line, for two up to the literals of a body and
-- two of a rule's, and for the one of `end`.
use mathlib.Core.Path.{◌≡◌, refl}
use mathlib.Core.Bool.{true, false, ◌&&◌}
use mathlib.Core.List.{List, []}
use Prim.Native.Nat.{ℕ, ◌+◌, ◌-◌, ◌≤◌}
use native.Mathlib.Omega.{arith}
use lib.Dec.{eqb, leb}
use lib.ListN.{length}
use borrow.Author.Tests.{le-leb, leb-true, eqb-true, not-false}
use Rattle.truth.proofs.Truth.{and_l, and_r}
use Rattle.scan.specs.declared.Word.TheVariants.{Name, Rule as RuleWord, End, Unknown}
use Rattle.book.specs.Limits.{max_body}
use Rattle.reader.specs.File.{wrong_fields}
use Rattle.reader.proofs.Faults.{no_entries}

pub unknown_wrong : (others : List (List ℕ)) → wrong_fields Unknown others ≡ true
unfolding wrong_fields
unknown_wrong others = refl

-- ---- the fields behind the first, where the count is right

module _ (others : List (List ℕ)) where
  pub name_fields : wrong_fields Name others ≡ false → length others ≡ 1
  unfolding wrong_fields
  name_fields e = eqb-true (length others) 1 (not-false (eqb (length others) 1) e)

  pub rule_fields : wrong_fields RuleWord others ≡ false → (1 ≤ length others) × (length others ≤ max_body + 1)
  unfolding wrong_fields
  rule_fields e =
      let some = leb 1 (length others) in
      let few = leb (length others) (max_body + 1) in
      let both = not-false (some && few) e in
      (leb-true 1 (length others) (and_l some few both), leb-true (length others) (max_body + 1) (and_r some few both))

  pub rule_right : 1 ≤ length others → length others ≤ max_body + 1 → wrong_fields RuleWord others ≡ false
  unfolding wrong_fields
  rule_right some few = rw (le-leb 1 (length others) some, le-leb (length others) (max_body + 1) few)

  pub end_fields : wrong_fields End others ≡ false → others ≡ []
  unfolding wrong_fields
  end_fields e = no_entries others (eqb-true (length others) 0 (not-false (eqb (length others) 0) e))

-- n fields of a rule's line: the first word, the head and the literals of the body
pub body_count : {n others : ℕ} → n ≡ others + 1 → (1 ≤ others) × (others ≤ max_body + 1) → (n - 2 ≤ max_body) × (n - 2 + 1 ≡ others)
body_count size few = (omega arith, omega arith)
