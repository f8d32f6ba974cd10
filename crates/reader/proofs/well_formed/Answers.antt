-- `well_formed`: a head with `~` decides, or else all fields do.
use borrow.Author.Rules.{rules}
use borrow.Author.Tests.{tests, eq-eqb}
use mathlib.Core.Path.{◌≡◌, sym, ap, ◌∙◌}
use mathlib.Core.Bool.{not}
use mathlib.Core.List.{List}
use Prim.Native.Nat.{ℕ, ◌+◌}
use native.Mathlib.Omega.{arith}
use lib.ListN.{take}
use lib.Dec.{eqb}
use Rattle.std.proofs.lemmas.Iterator.Splits.{YieldsList-from_slice_split}
use Rattle.std.proofs.lemmas.Iterator.Search.{all_from_yields_List}
use Rattle.scan.specs.Text.{comma, rest, fields, tildes}
use Rattle.scan.specs.declared.Word.TheVariants.{Rule as RuleWord}
use Rattle.scan.proofs.Forms.{lead_most}
use Rattle.scan.specs.declared.Alphabet.TheVariants.{EitherCase}
use Rattle.reader.specs.File.{all_fields, is_literal, malformed}
use Rattle.reader.proofs.Fields.{first_field, head_tilde_lem, head_plain}
use Rattle.reader.proofs.Parts.{split_is, all_is}
use Rattle.reader.proofs.well_formed.Goals as goal

pub returns-then-marked : goal.returns-then-marked
returns-then-marked c =
    let rule = c.args.rule.now in
    let e = c.end_of-e.result in
    let head = take e rule in
    let behind = rest comma rule (e + 1) in
    let one : tildes head ≡ 1 = omega (arith, c.marks_of-tildes.ensures.0, lead_most 126 head, c.if-marked.true) in
    head_tilde_lem head behind (eq-eqb _ 1 one)
    ∙ ap (λ (fs : List (List ℕ)). not (malformed EitherCase RuleWord fs)) (sym (first_field rule e c.end_of-e.ensures.0))

pub returns : goal.returns
returns c =
    let rule = c.args.rule.now in
    let e = c.end_of-e.result in
    let none : c.marks_of-tildes.result.tildes ≡ 0 = omega (arith, c.if-marked.false) in
    let plain = ap (λ (n : ℕ). eqb n 1) (sym c.marks_of-tildes.ensures.0 ∙ none) in
    all_from_yields_List (is_literal EitherCase) _ _ _ c.all.ensures.ran
    (YieldsList-from_slice_split _ (λ b. eqb b 44) rule c.split.ensures.rest c.split.ensures.done c.split.ensures.closure (λ x b q k. search (rules, tests)))
    (λ x b q k. search (rules, tests))
    ∙ all_is (is_literal EitherCase) _ ∙ ap (all_fields (is_literal EitherCase)) (split_is comma rule)
    ∙ head_plain (fields rule) (take e rule) (rest comma rule (e + 1)) (first_field rule e c.end_of-e.ensures.0) plain
