-- Each call keeps its laws, so after every run of a list the desk means the list's own book and set of facts, and the marks of its lesson are those of the
-- list's program.
use mathlib.Core.Path.{◌≡◌, ◌∙◌, ap, subst}
use mathlib.Core.List.{List}
use lib.ListN.{length}
use Rattle.lesson.specs.State.{State, its_names, program_in}
use Rattle.lesson.specs.Calls.{MarksOf}
use Rattle.fixpoint.specs.Result.{ModelOf}
use Rattle.calls.specs.Lists.{after_all}
use Rattle.calls.proofs.Lists.{run_means}
use Rattle.desk.specs.Calls.{state_of, Fresh}
use Rattle.desk.specs.Runs.{Call, load, change, verdict, search_for, model, working_order, model_by_groups, listing, preview, check_sheet, make_sheet, spec_of, left, Run}
use Rattle.desk.specs.declared.Desk.{Desk}
use Rattle.desk.proofs.Laws.{Good, DeskLaws}
use Rattle.desk.proofs.LoadLaws.{fresh_means, fresh_good, load_laws}
use Rattle.desk.proofs.LessonLaws.{change_laws, verdict_laws, search_laws, model_laws, order_laws, groups_laws, listing_laws, preview_laws, check_laws, make_laws}

pub laws_of : (c : Call) → DeskLaws (spec_of c)
laws_of (load file) = load_laws file
laws_of (change c) = change_laws c
laws_of (verdict A) = verdict_laws A
laws_of (search_for A default k) = search_laws A default k
laws_of model = model_laws
laws_of working_order = order_laws
laws_of model_by_groups = groups_laws
laws_of (listing buffer) = listing_laws buffer
laws_of (preview c buffer) = preview_laws c buffer
laws_of (check_sheet A truth es) = check_laws A truth es
laws_of (make_sheet A truth run) = make_laws A truth run

module _ (cs : List Call) (start end : Desk) (f : Fresh start) (run : Run start cs end) where
  pub left_means : state_of end ≡ left cs
  left_means =
      (run_means state_of Good spec_of laws_of cs start end (fresh_good start f) run).0 ∙ ap (λ (d : State). after_all spec_of d cs) (fresh_means start f)

  pub left_good : Good end
  left_good = (run_means state_of Good spec_of laws_of cs start end (fresh_good start f) run).1

  -- the marks that stand are those of the list's program
  pub marks_left : MarksOf (length (its_names (left cs).book)) (program_in (left cs)) end.lesson.marks
  marks_left = subst (λ (d : State). MarksOf (length (its_names d.book)) (program_in d) end.lesson.marks) left_means left_good.stands

  pub standing_left : ModelOf (program_in (left cs)) end.lesson.marks.model
  standing_left = marks_left.model_is
