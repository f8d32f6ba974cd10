-- What document 02, A.7, says over lists of calls beside demand 2: rules for names that a name does not reach can't alter its verdicts, and the listing shows
-- what the verdict calls answer.
use Rattle.std.specs.Prelude.{◌≡◌, ◌↔◌, List, ℕ}
use Rattle.wfsx.specs.Sets.{◌is_in◌}
use Rattle.wfsx.specs.Program.{Rule}
use Rattle.wfsx.specs.Model.{Verdict}
use Rattle.wfsx.specs.Reach.{name_of, name_for, Reaches}
use Rattle.lister.specs.Listing.{contradictory_word, verdict_word}
use Rattle.lesson.specs.State.{State, its_rules, in_force, Said, gives, refused}

-- the two have the same rules, and the same facts in force, for the names that n reaches in the first
pub record SameFor (n : ℕ) (d e : State) : Type 0 where
  pub rules : (r : Rule) → Reaches (its_rules d.book) n (name_for r) → (r is_in its_rules d.book) ↔ (r is_in its_rules e.book)
  pub facts : (A : ℕ) → Reaches (its_rules d.book) n (name_of A) → in_force d.own A ≡ in_force e.own A

-- the word that a verdict field has for what the verdict call says of a literal of the book, which no number but 24 turns down
abbrev pub shown : Said Verdict → List ℕ
shown (gives v) = verdict_word v
shown (refused number) = contradictory_word
