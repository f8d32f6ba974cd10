use Rattle.std.proofs.Common.{◌∙◌, arith}
use Rattle.sheet.proofs.Tables.{names_body}
use Rattle.sheet.proofs.rule_shown.Goals as goal

pub returns : goal.returns
returns c =
    c.body_as.ensures ∙ names_body c.args.book.now _ _ _ _ (omega (arith, c.rule_count-count.ensures)) c.head_at.ensures c.if-head_at-literal.false
