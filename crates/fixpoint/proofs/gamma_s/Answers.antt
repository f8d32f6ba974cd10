use mathlib.Core.Path.{ap, ◌∙◌}
use Rattle.wfsx.specs.Program.{Program}
use Rattle.wfsx.specs.Model.{Γs}
use Rattle.litset.specs.Words.{set_of}
use Rattle.fixpoint.proofs.Tables.{book_program}
use Rattle.fixpoint.proofs.gamma_s.Goals as goal

pub returns : goal.returns
returns c =
    let args = c.args in
    c.gamma_seminormal.ensures
    ∙ ap (λ (P : Program). Γs P (set_of args.s.words)) (book_program args.book.now (set_of args.facts.words) c.rule_count-count.ensures c.all_numbers-numbers.ensures)
