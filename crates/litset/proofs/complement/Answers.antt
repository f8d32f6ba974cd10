use Rattle.std.proofs.Common.{sym}
use Rattle.wfsx.proofs.Program.{compl_plain, compl_negated}
use Rattle.litset.proofs.complement.Goals as goal

pub returns-then-l-eq0 : goal.returns-then-l-eq0
returns-then-l-eq0 c = sym (compl_plain _ c.if-l-eq0.true)

pub returns-else-l-eq0 : goal.returns-else-l-eq0
returns-else-l-eq0 c = sym (compl_negated _ c.if-l-eq0.false)
