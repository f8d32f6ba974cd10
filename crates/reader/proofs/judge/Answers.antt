-- `judge`: 9 comes before all, then the count of fields; the first word says what the other fields are, and the line of that word decides.
use borrow.Author.Rules.{rules}
use mathlib.Core.Path.{◌≡◌, refl, sym, ap, ◌∙◌}
use mathlib.Core.Bool.{false}
use mathlib.Core.List.{List, [], ◌∷◌}
use Prim.Native.Nat.{ℕ, ◌+◌, ◌-◌, ◌≤◌}
use native.Mathlib.Omega.{arith}
use lib.ListN.{length, take, drop}
use borrow.Author.Tests.{not-true, not-false}
use Rattle.scan.specs.Text.{comma, len_to, rest, fields, word_of}
use Rattle.scan.specs.declared.Word.{Word}
use Rattle.scan.specs.declared.Word.TheVariants.{Name, Rule as RuleWord, Unknown}
use Rattle.scan.proofs.Places.{split_first, split_one, rest_part, rest_within}
use Rattle.book.specs.Limits.{max_body}
use Rattle.reader.proofs.FieldCounts.{name_fields, rule_fields, unknown_wrong, body_count}
use Rattle.reader.specs.File.{Content, wrong_fields}
use Rattle.reader.specs.Steps.{Step, line_step, word_step}
use Rattle.reader.specs.declared.Fault.TheVariants.{FieldsWrong, EndNotLast}
use Rattle.reader.proofs.Fields.{first_field}
use Rattle.reader.proofs.Numbers.{fault_ended, fault_fields, not_ended, end_fine}
use Rattle.reader.proofs.Held.{end_held}
use Rattle.reader.proofs.Answers.{by_word, line_fault_lem, end_read, read_as}
use Rattle.reader.proofs.judge.Given.{Over}
use Rattle.reader.proofs.judge.Goals as goal
use Rattle.reader.proofs.judge.Goals.{Else-not-right_count}

-- ---- a line whose first field ends at e

-- the fields behind the first, and what stands behind it
abbrev others : List ℕ → ℕ → List (List ℕ)
others line e = rest comma line (e + 1)

abbrev behind : List ℕ → ℕ → List ℕ
behind line e = take (length line - (e + 1)) (drop (e + 1) line)

counted : (line : List ℕ) (e : ℕ) → e ≡ 0 + len_to comma (drop 0 line) → {n : ℕ} → n ≡ length (fields line) → n ≡ length (others line e) + 1
counted line e q size = omega (arith, size, ap length (first_field line e q))

-- the line by its first word
step : (line : List ℕ) (e : ℕ) → e ≡ 0 + len_to comma (drop 0 line) → {v w : Word} → v ≡ word_of (take e line) → v ≡ w → (d : Content)
    → line_step d (fields line) ≡ word_step d w (others line e)
step line e q {v} {w} word is d = by_word d w (first_field line e q) (sym word ∙ is)

-- ---- a line whose count of fields is right

module _ (g : Over) (c : Else-not-right_count g) where
  abbrev line : List ℕ
  line = c.args.line.now

  abbrev fs : List (List ℕ)
  fs = others line c.end_of-e.result

  size : c.pieces-n.result ≡ length fs + 1
  size = counted line c.end_of-e.result c.end_of-e.ensures.0 c.pieces-n.ensures

  by_first : {w : Word} → c.word_of-word.result ≡ w → (d : Content) → line_step d (fields line) ≡ word_step d w fs
  by_first is = step line c.end_of-e.result c.end_of-e.ensures.0 c.word_of-word.ensures is

  right : {w : Word} → c.word_of-word.result ≡ w → wrong_fields w fs ≡ false
  right is = ap (λ (x : Word). wrong_fields x fs) (sym is) ∙ not-true _ (sym (c.right_count.ensures fs size) ∙ c.if-not-right_count.false)

  -- a name's line has one field behind the first
  module _ (is : c.word_of-word.result ≡ Name) where
    name_place : c.end_of-e.result + 1 ≤ length line
    name_place = rest_within comma line (c.end_of-e.result + 1) (omega (arith, name_fields fs (right is)))

    only_name : fs ≡ behind line c.end_of-e.result ∷ []
    only_name =
        let part = rest_part comma line (c.end_of-e.result + 1) name_place in
        sym part ∙ split_one comma (behind line c.end_of-e.result) (ap length part ∙ name_fields fs (right is))

  -- a rule's line has a head and at most so many body literals
  module _ (is : c.word_of-word.result ≡ RuleWord) where
    some_fields : (1 ≤ length fs) × (length fs ≤ max_body + 1)
    some_fields = rule_fields fs (right is)

    rule_place : c.end_of-e.result + 1 ≤ length line
    rule_place = rest_within comma line (c.end_of-e.result + 1) some_fields.0

    rule_part : fields (behind line c.end_of-e.result) ≡ fs
    rule_part = rest_part comma line (c.end_of-e.result + 1) rule_place

-- ---- the goals

pub returns-then-t : goal.returns-then-t
returns-then-t g c =
    let line = c.args.line.now in
    λ d h. line_fault_lem (line_step d (fields line)) EndNotLast
    (ap (λ (s : Step). s.fault) (by_word d (word_of _) (split_first comma line) refl) ∙ fault_ended d _ _ (sym h.counted.ended_is ∙ c.if-t.true))

pub returns-then-not-right_count : goal.returns-then-not-right_count
returns-then-not-right_count g c =
    let line = c.args.line.now in
    let e = c.end_of-e.result in
    let q = c.end_of-e.ensures.0 in
    let fs = others line e in
    let wrong = not-false _ (sym (c.right_count.ensures fs (counted line e q c.pieces-n.ensures)) ∙ c.if-not-right_count.true) in
    λ d h. read_as (step line e q c.word_of-word.ensures refl d) (line_fault_lem (word_step d _ fs) FieldsWrong (fault_fields d _ fs (not_ended h.counted c.if-t.false) wrong))

pub slice_bounds-name_line-count : goal.slice_bounds-name_line-count
slice_bounds-name_line-count g c = let place = name_place g (goal.at.slice_bounds-name_line-count g c).Else-not-right_count c.in-Name.is in search rules

pub slice_bounds-name_line-start : goal.slice_bounds-name_line-start
slice_bounds-name_line-start g c = let place = name_place g (goal.at.slice_bounds-name_line-start g c).Else-not-right_count c.in-Name.is in search rules

pub slice_bounds-rule-count : goal.slice_bounds-rule-count
slice_bounds-rule-count g c = let place = rule_place g (goal.at.slice_bounds-rule-count g c).Else-not-right_count c.in-Rule.is in search rules

pub slice_bounds-rule-start : goal.slice_bounds-rule-start
slice_bounds-rule-start g c = let place = rule_place g (goal.at.slice_bounds-rule-start g c).Else-not-right_count c.in-Rule.is in search rules

pub overflow_sub-n : goal.overflow_sub-n
overflow_sub-n g c = let at = (goal.at.overflow_sub-n g c).Else-not-right_count in omega (arith, size g at, (some_fields g at c.in-Rule.is).0)

pub rule_line-requires : goal.rule_line-requires
rule_line-requires g c =
    let at = (goal.at.rule_line-requires g c).Else-not-right_count in
    let body = body_count (size g at) (some_fields g at c.in-Rule.is) in
    (c.requires, c.if-t.false, omega (arith, body.0), body.1 ∙ sym (ap length (rule_part g at c.in-Rule.is)))

pub returns-in-Name : goal.returns-in-Name
returns-in-Name g c =
    let at = (goal.at.returns-in-Name g c).Else-not-right_count in
    λ d h. read_as (by_first g at c.in-Name.is d ∙ ap (word_step d Name) (only_name g at c.in-Name.is)) (c.name_line.ensures d h)

pub returns-in-Rule : goal.returns-in-Rule
returns-in-Rule g c =
    let at = (goal.at.returns-in-Rule g c).Else-not-right_count in
    λ d h. read_as (by_first g at c.in-Rule.is d ∙ ap (word_step d RuleWord) (sym (rule_part g at c.in-Rule.is))) (c.rule_line.ensures d h)

pub returns-in-End : goal.returns-in-End
returns-in-End g c =
    let at = (goal.at.returns-in-End g c).Else-not-right_count in
    λ d h. read_as (by_first g at c.in-End.is d) (end_read d (fs g at) (end_fine h.counted c.if-t.false (fs g at) (right g at c.in-End.is), end_held h (fs g at)))

pub returns-in-Unknown : goal.returns-in-Unknown
returns-in-Unknown g c =
    let at = (goal.at.returns-in-Unknown g c).Else-not-right_count in
    λ d h. read_as (by_first g at c.in-Unknown.is d)
    (line_fault_lem (word_step d Unknown (fs g at)) FieldsWrong (fault_fields d Unknown (fs g at) (not_ended h.counted c.if-t.false) (unknown_wrong (fs g at))))
