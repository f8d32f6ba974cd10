use mathlib.Core.Path.{subst}
use Rattle.wfsx.specs.Program.{Program}
use Rattle.litset.specs.Words.{set_of}
use Rattle.fixpoint.proofs.Tables.{book_program}
use Rattle.fixpoint.specs.Result.{ModelOf}
use Rattle.fixpoint.proofs.Settled.{model_settled}
use Rattle.fixpoint.proofs.model_of.Goals as goal

pub returns : goal.returns
returns c =
    let args = c.args in
    subst (λ (P : Program). ModelOf P c.settle.result) (book_program args.book.now (set_of args.facts.words) c.rule_count-count.ensures c.all_numbers-numbers.ensures)
    (model_settled _ c.settle.result (rw c.empty.ensures at c.settle.ensures))
