use Rattle.std.proofs.Common.{arith, ◌∙◌, sym}
use Rattle.scan.proofs.Words.{word_name, word_rule, word_end, word_unknown}
use Rattle.scan.proofs.word_of.Goals as goal

pub returns-then-spells : goal.returns-then-spells
returns-then-spells c = sym (word_name _ (sym (c.spells.ensures (omega arith)) ∙ c.if-spells.true))

pub returns-then-spells-2 : goal.returns-then-spells-2
returns-then-spells-2 c = sym (word_rule _ (sym (c.spells.ensures (omega arith)) ∙ c.if-spells.false) (sym (c.spells-2.ensures (omega arith)) ∙ c.if-spells-2.true))

pub returns-then-spells-3 : goal.returns-then-spells-3
returns-then-spells-3 c =
    sym (word_end _ (sym (c.spells.ensures (omega arith)) ∙ c.if-spells.false) (sym (c.spells-2.ensures (omega arith)) ∙ c.if-spells-2.false)
    (sym (c.spells-3.ensures (omega arith)) ∙ c.if-spells-3.true))

pub returns : goal.returns
returns c =
    sym (word_unknown _ (sym (c.spells.ensures (omega arith)) ∙ c.if-spells.false) (sym (c.spells-2.ensures (omega arith)) ∙ c.if-spells-2.false)
    (sym (c.spells-3.ensures (omega arith)) ∙ c.if-spells-3.false))
