-- `rule_line`: each test that fails settles the fault, in the definition's order; a rule that passes them is counted, and stored behind the others.
use mathlib.Core.Path.{◌≡◌, sym, ap, ◌∙◌}
use mathlib.Core.Bool.{false}
use Prim.Native.Nat.{◌+◌, ◌≤◌, ◌<◌}
use native.Mathlib.Omega.{arith}
use lib.ListN.{take}
use borrow.Author.Tests.{not-true, not-false}
use Rattle.std.proofs.Common.{Some}
use Rattle.scan.specs.Text.{comma, rest, fields}
use Rattle.scan.specs.declared.Word.TheVariants.{Rule as RuleWord}
use Rattle.scan.specs.declared.Alphabet.TheVariants.{EitherCase}
use Rattle.book.specs.Limits.{max_rules, max_entries}
use Rattle.reader.specs.File.{Content, all_fields, is_known, malformed}
use Rattle.reader.specs.Steps.{Holds, known_of, word_step}
use Rattle.reader.specs.Tables.{Lists, with_rule}
use Rattle.reader.specs.declared.Fault.TheVariants.{FormWrong, NameMissing, TableFull}
use Rattle.reader.proofs.Fields.{first_field, first_passes, first_fails, not_declared, is_declared, literal_is}
use Rattle.reader.proofs.Numbers.{rule_malformed, rule_undeclared, rule_too_many, rule_too_long, rule_fine}
use Rattle.reader.proofs.Held.{names_held, rule_held, rule_stored}
use Rattle.reader.proofs.Answers.{line_fault_lem}
use Rattle.reader.proofs.rule_line.Given.{Over}
use Rattle.reader.proofs.rule_line.Goals as goal
use Rattle.reader.proofs.rule_line.Goals.{Else-not-well_formed, After-all_known, Else-not-all_known, then-many-via-then-many, then-many-via-else-many+then-long}

-- the rule is well formed
formed : (g : Over) (c : Else-not-well_formed g) → malformed EitherCase RuleWord (fields c.args.rule.now) ≡ false
formed g c = not-true _ (sym c.well_formed-2.ensures ∙ c.if-not-well_formed.false)

-- the name of the head is declared
head : (g : Over) (c : After-all_known g) (d : Content) → Holds d c.args.t c.args.names.now → known_of d.names (take c.end_of-e.result c.args.rule.now) ≡ Some c.in-Some.head
head g c d h = sym (c.known_of.ensures.known d.names h.keyed (names_held h)) ∙ c.in-Some.is

-- all names are declared where those of the body are
all_declared : (g : Over) (c : After-all_known g) (d : Content) → Holds d c.args.t c.args.names.now → all_fields (is_known EitherCase d.names) (fields c.args.rule.now) ≡ c.all_known.result
all_declared g c d h =
    let rule = c.args.rule.now in
    let e = c.end_of-e.result in
    let known = is_known EitherCase d.names in
    ap (all_fields known) (first_field rule e c.end_of-e.ensures.0) ∙ first_passes known _ _ (is_declared d.names (take e rule) c.in-Some.head (head g c d h))
    ∙ sym (c.all_known.ensures d.names h.keyed (names_held h)).answer_is

pub returns-then-not-well_formed : goal.returns-then-not-well_formed
returns-then-not-well_formed g c =
    let need = c.requires in
    let bad = not-false _ (sym c.well_formed-2.ensures ∙ c.if-not-well_formed.true) in
    λ d h. line_fault_lem (word_step d RuleWord (fields c.args.rule.now)) FormWrong (rule_malformed h.counted need.1 _ c.args.n need.3 need.2 bad)

pub returns-in_default : goal.returns-in_default
returns-in_default g c =
    let need = c.requires in
    let rule = c.args.rule.now in
    let e = c.end_of-e.result in
    λ d h. let unknown = not_declared d.names (take e rule) (sym (c.known_of.ensures.known d.names h.keyed (names_held h)) ∙ c.in_default.is) in
    let known = is_known EitherCase d.names in
    line_fault_lem (word_step d RuleWord (fields rule)) NameMissing
    (rule_undeclared h.counted need.1 _ c.args.n need.3 need.2 (formed g (goal.at.returns-in_default g c).Else-not-well_formed)
    (ap (all_fields known) (first_field rule e c.end_of-e.ensures.0) ∙ first_fails known _ _ unknown))

pub returns-then-not-all_known : goal.returns-then-not-all_known
returns-then-not-all_known g c =
    let need = c.requires in
    let at = goal.at.returns-then-not-all_known g c in
    λ d h. line_fault_lem (word_step d RuleWord (fields c.args.rule.now)) NameMissing
    (rule_undeclared h.counted need.1 _ c.args.n need.3 need.2 (formed g at.Else-not-well_formed) (all_declared g at.After-all_known d h ∙ c.if-not-all_known.true))

pub returns-then-many : goal.returns-then-many
returns-then-many g c =
    let need = c.requires in
    let at = goal.at.returns-then-many g c in
    let fine = formed g at.Else-not-well_formed in
    λ d h. let known = all_declared g at.After-all_known d h ∙ c.if-not-all_known.false in
    line_fault_lem (word_step d RuleWord (fields c.args.rule.now)) TableFull
    (elim c.then-many.branch [
      | then-many-via-then-many w ↦ rule_too_many h.counted need.1 _ c.args.n need.3 need.2 fine known (omega (arith, w.if-many.true))
      | then-many-via-else-many+then-long w ↦ rule_too_long h.counted need.1 _ c.args.n need.3 need.2 fine known (omega (arith, w.if-long.true))
    ])

pub returns : goal.returns
returns g c =
    let need = c.requires in
    let at = goal.at.returns g c in
    let rule = c.args.rule.now in
    let e = c.end_of-e.result in
    let first = take e rule in
    let behind = rest comma rule (e + 1) in
    let parted = first_field rule e c.end_of-e.ensures.0 in
    let all_known = c.if-not-all_known.false in
    let room : c.args.t.rules < max_rules = omega (arith, c.if-many.false) in
    let fits : c.args.t.used + c.args.n ≤ max_entries = omega (arith, c.if-long.false) in
    λ d h. record {
      answer = (
        rule_fine h.counted need.1 _ c.args.n need.3 need.2 (formed g at.Else-not-well_formed) (all_declared g at.After-all_known d h ∙ all_known) room fits,
        rule_held h first behind parted c.args.n need.3 room fits,
      );
      stored = λ z. rule_stored h first behind parted c.args.n need.3 room fits (sym (literal_is d.names first c.in-Some.head (head g at.After-all_known d h)))
          (c.put_rule.ensures ∙ ap (λ (x : Lists). with_rule x c.args.t.rules c.in-Some.head.literal (c.args.t.used + c.args.n)) ((c.all_known.ensures d.names h.keyed (names_held h)).entries_are all_known));
    }
