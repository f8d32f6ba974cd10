-- `settle_group`: without numbers and facts there are no rules.
use mathlib.Core.Path.{refl, ◌∙◌}
use mathlib.Core.Logic.{inl, inr}
use Rattle.groups.proofs.Rules.{no_rules}
use Rattle.groups.proofs.settle_group.Goals as goal

pub returns-then-equal : goal.returns-then-equal
returns-then-equal c =
    let none = c.if-numbers-eq0.true in
    let same = c.equal.ensures.0 c.if-equal.true ∙ c.empty.ensures in
    inr (no_rules c.args.book.now.heads c.args.book.now.starts c.args.book.now.entries c.args.numbers.now none same, refl)

pub returns : goal.returns
returns c = inl c.step.ensures
