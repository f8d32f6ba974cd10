use mathlib.Core.Path.{ap, ◌∙◌}
use Rattle.wfsx.specs.Program.{Program}
use Rattle.wfsx.specs.Model.{Γ}
use Rattle.litset.specs.Words.{set_of}
use Rattle.fixpoint.proofs.Tables.{book_program}
use Rattle.fixpoint.proofs.gamma.Goals as goal

pub returns : goal.returns
returns c =
    let args = c.args in
    c.gamma_above.ensures
    ∙ ap (λ (P : Program). Γ P (set_of args.s.words)) (book_program args.book.now (set_of args.facts.words) c.rule_count-count.ensures c.all_numbers-numbers.ensures)
