-- After a list of calls whose program has an answer set, M lies in that set, which has both literals of no name: no name is contradictory, so 24 is not
-- given. A verdict is then read from M and N, and that accords with the answer sets of every program.
use mathlib.Core.Path.{◌≡◌, sym, ◌∙◌, ap}
use mathlib.Core.Logic.{inl, inr, ⊎_elim}
use mathlib.Core.List.{List}
use Prim.Native.Nat.{ℕ, ◌+◌, ◌*◌}
use native.Mathlib.Omega.{arith}
use Rattle.wfsx.specs.Sets.{Set}
use Rattle.wfsx.specs.Program.{Program}
use Rattle.wfsx.specs.Model as wfsx
use Rattle.wfsx.specs.Reach.{name_of}
use Rattle.wfsx.specs.ContradictoryNames.{ContradictoryName}
use Rattle.wfsx.specs.AnswerSets.{AnswerSet, Accords}
use Rattle.wfsx.proofs.AnswerSets.{M⊆answer_set, answer_set⊆N, answer_set_consistent, verdict_accords}
use Rattle.reader.specs.Conditions.{First}
use Rattle.std.specs.Prelude.{Result}
use Rattle.fixpoint.specs.Result.{verdict_is}
use Rattle.fixpoint.specs.declared.Verdict.{Verdict}
use Rattle.lesson.specs.State.{State, in_book, program_in, ContradictoryOver, gives, told_by}
use Rattle.lesson.specs.Calls.{shelf_of, truths_of, nonfalse_of, contradictory_of, GivesVerdict, GivesModel}
use Rattle.lesson.specs.Conditions.{NoBook, verdict_rows}
use Rattle.lesson.specs.declared.Refusal.{Refusal}
use Rattle.lesson.specs.declared.WholeModel.{WholeModel}
use Rattle.lesson.proofs.Order.{given_same}
use Rattle.lesson.proofs.WithBook.{verdict_given}
use Rattle.lesson.proofs.Sound.{heads_in_book}
use Rattle.desk.specs.Calls.{Fresh}
use Rattle.desk.specs.Runs.{Call, verdict, left, Run, AccordDue, BetweenDue}
use Rattle.desk.specs.declared.Desk.{Desk}
use Rattle.desk.proofs.Left.{left_means}
use Rattle.desk.proofs.Exists.{left_sound}
use Rattle.desk.proofs.Demand1.{demand1}
use Rattle.desk.proofs.Demand2.{demand2}
use Rattle.desk.proofs.Answers.{model_due}

module _ (cs : List Call) (S : Set) (a : AnswerSet (program_in (left cs)) S) where
  abbrev P : Program
  P = program_in (left cs)

  abbrev base : Set
  base = in_book (left cs).book

  pub never_contradictory : ContradictoryOver base (left cs) → ⊥
  never_contradictory = answer_set_consistent P S a base (heads_in_book (left cs) (left_sound cs))

  no_name : (n : ℕ) → ContradictoryName P n → ⊥
  no_name n (k, reached, both) = a.consistent k (M⊆answer_set P S a (2 * k) both.0, M⊆answer_set P S a (2 * k + 1) both.1)

  -- 24 stands behind 20 and 21, and its condition is not met
  not_first : (A : ℕ) → First 24 (verdict_rows (left cs) A) → ⊥
  not_first A (inl by-20) = let e = by-20.0 in omega arith
  not_first A (inr past-20) = ⊎_elim (λ by-21. let e = by-21.0 in omega arith) (λ past-21. ⊎_elim (λ by-24. no_name (name_of A) by-24.1) (λ past-24. past-24.1) past-21.1) past-20.1

  module _ (start k : Desk) (f : Fresh start) (run : Run start cs k) where
    pub accord_due : (A : ℕ) (r : Result Verdict Refusal) → GivesVerdict k.shelf k.lesson A r → AccordDue P A (told_by verdict_is r)
    accord_due A r h =
        record { not_24 = λ e. not_first A (((demand1 cs start k f run (verdict A) r h).exactly 24 0).0 e); accords = accords }
      where
        accords : (v : wfsx.Verdict) → told_by verdict_is r ≡ gives v → Accords P A v
        accords v e =
            let given = verdict_given (shelf_of k.shelf) (truths_of k.lesson) (nonfalse_of k.lesson) (contradictory_of k.lesson) A v (sym h.says ∙ e) in
            let i = rw (ap (λ (d : State). d.book) (left_means cs start k f run)) at given in
            let read = (demand2 cs start k f run A i r h).read (no_name (name_of A)) in
            rw (given_same v (wfsx.verdict P A) (sym e ∙ read)) (verdict_accords P A)

    pub between_due : (NoBook (left cs) → ⊥) → (r : Result WholeModel Refusal) → GivesModel k.shelf k.lesson r → BetweenDue P r
    between_due some r h =
        let due = model_due cs start k f run some r h in
        record {
          consistent = due.consistency.consistent.1 never_contradictory;
          given = due.given;
          is_given = due.is_given;
          between = λ U u. (rw due.model_is.truths (M⊆answer_set P U u), rw due.model_is.nonfalse (answer_set⊆N P U u));
        }
