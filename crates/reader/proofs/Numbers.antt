-- The number of a line, by the tests in their order: of a line with any first word, of one that declares a name, of one that gives a rule, and of `end`.
-- The counts tell how much the lines before have said.
use mathlib.Core.Path.{◌≡◌, sym, ◌∙◌}
use mathlib.Core.Bool.{true, false, or-true}
use mathlib.Core.List.{List, [], ◌∷◌}
use Prim.Native.Nat.{ℕ, ◌+◌, ◌-◌, ◌≤◌, ◌<◌}
use native.Mathlib.Omega.{arith}
use lib.Dec.{leb}
use lib.ListN.{length}
use borrow.Author.Tests.{le-leb, lt-leb, lt-ltb, le-ltb}
use Rattle.scan.specs.Text.{is_name}
use Rattle.scan.specs.declared.Word.{Word}
use Rattle.scan.specs.declared.Word.TheVariants.{Name, Rule as RuleWord, End}
use Rattle.scan.specs.declared.Alphabet.TheVariants.{EitherCase}
use Rattle.book.specs.Limits.{max_names, max_rules, max_entries, max_body}
use Rattle.reader.proofs.FieldCounts.{rule_right}
use Rattle.reader.specs.File.{Content, body_literals, all_fields, declared, is_known, wrong_fields, malformed, declared_before, uses_undeclared, beyond_table, fault_of}
use Rattle.reader.specs.Steps.{Counted}
use Rattle.reader.specs.declared.Counts.{Counts}

module _ (d : Content) (w : Word) (others : List (List ℕ)) where
  pub fault_ended : d.ended ≡ true → fault_of EitherCase d w others ≡ 9
  unfolding fault_of
  fault_ended e = rw e

  pub fault_fields : d.ended ≡ false → wrong_fields w others ≡ true → fault_of EitherCase d w others ≡ 4
  unfolding fault_of
  fault_fields going e = rw (going, e)

module _ {d : Content} {t : Counts} (c : Counted d t) (going : t.ended ≡ false) where
  pub not_ended : d.ended ≡ false
  not_ended = sym c.ended_is ∙ going

  module _ (n : List ℕ) where
    pub name_malformed : is_name EitherCase n ≡ false → fault_of EitherCase d Name (n ∷ []) ≡ 5
    unfolding fault_of wrong_fields malformed all_fields
    name_malformed e = rw (not_ended, e)

    module _ (named : is_name EitherCase n ≡ true) where
      pub name_declared : declared EitherCase d.names n ≡ true → fault_of EitherCase d Name (n ∷ []) ≡ 6
      unfolding fault_of wrong_fields malformed declared_before all_fields
      name_declared e = rw (not_ended, named, e)

      module _ (new : declared EitherCase d.names n ≡ false) where
        pub name_beyond : max_names ≤ t.names → fault_of EitherCase d Name (n ∷ []) ≡ 8
        unfolding fault_of wrong_fields malformed declared_before uses_undeclared beyond_table all_fields
        name_beyond h = rw (not_ended, named, new, le-leb max_names (length d.names) (omega (arith, c.names_are)))

        pub name_fine : t.names < max_names → fault_of EitherCase d Name (n ∷ []) ≡ 0
        unfolding fault_of wrong_fields malformed declared_before uses_undeclared beyond_table all_fields
        name_fine h = rw (not_ended, named, new, lt-leb max_names (length d.names) (omega (arith, c.names_are)))

  -- a head and n body literals
  module _ (fs : List (List ℕ)) (n : ℕ) (size : n + 1 ≡ length fs) (few : n ≤ max_body) where
    right : wrong_fields RuleWord fs ≡ false
    right = rule_right fs (omega arith) (omega arith)

    pub rule_malformed : malformed EitherCase RuleWord fs ≡ true → fault_of EitherCase d RuleWord fs ≡ 5
    unfolding fault_of
    rule_malformed e = rw (not_ended, right, e)

    module _ (formed : malformed EitherCase RuleWord fs ≡ false) where
      pub rule_undeclared : all_fields (is_known EitherCase d.names) fs ≡ false → fault_of EitherCase d RuleWord fs ≡ 7
      unfolding fault_of declared_before uses_undeclared
      rule_undeclared e = rw (not_ended, right, formed, e)

      module _ (known : all_fields (is_known EitherCase d.names) fs ≡ true) where
        pub rule_too_many : max_rules ≤ t.rules → fault_of EitherCase d RuleWord fs ≡ 8
        unfolding fault_of declared_before uses_undeclared beyond_table
        rule_too_many h = rw (not_ended, right, formed, known, le-leb max_rules (length d.rules) (omega (arith, c.rules_are)))

        pub rule_too_long : max_entries < t.used + n → fault_of EitherCase d RuleWord fs ≡ 8
        unfolding fault_of declared_before uses_undeclared beyond_table
        rule_too_long h =
            let long = lt-ltb max_entries (body_literals d.rules + (length fs - 1)) (omega (arith, c.used_are)) in
            rw (not_ended, right, formed, known, long, or-true (leb max_rules (length d.rules)))

        pub rule_fine : t.rules < max_rules → t.used + n ≤ max_entries → fault_of EitherCase d RuleWord fs ≡ 0
        unfolding fault_of declared_before uses_undeclared beyond_table
        rule_fine h l =
            let room = lt-leb max_rules (length d.rules) (omega (arith, c.rules_are)) in
            let short = le-ltb max_entries (body_literals d.rules + (length fs - 1)) (omega (arith, c.used_are)) in
            rw (not_ended, right, formed, known, room, short)

  pub end_fine : (others : List (List ℕ)) → wrong_fields End others ≡ false → fault_of EitherCase d End others ≡ 0
  unfolding fault_of malformed declared_before uses_undeclared beyond_table
  end_fine others e = rw (not_ended, e)
