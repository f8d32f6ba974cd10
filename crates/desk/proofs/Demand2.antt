-- Demand 2: 24 is given exactly where the rules for the names that the literal's name reaches have no partial stable model, and every other verdict is the
-- value in the least one. The marks that stand are those of the list's program, and M of these rules is M of the whole program on the reached names.
use mathlib.Core.Path.{◌≡◌, refl, sym, ap, ◌∙◌}
use mathlib.Core.Bool.{Bool, true, false, cond, true≢false}
use mathlib.Core.List.{List}
use Prim.Native.Nat.{ℕ}
use Rattle.wfsx.specs.Sets.{Set, ◌∈◌}
use Rattle.wfsx.specs.Program.{Program}
use Rattle.wfsx.specs.Model.{Heads⊆}
use Rattle.wfsx.specs.Model as wfsx
use Rattle.wfsx.specs.Reach.{name_of, reached_rules}
use Rattle.wfsx.specs.ContradictoryNames.{ContradictoryName, contradictory_names}
use Rattle.wfsx.proofs.Contradiction.{contradiction, least_partial_stable, partial_stable_above, verdict_value_lem}
use Rattle.wfsx.proofs.ContradictoryNames.{contradictory_is, reached_contradiction, reached_stable, reached_value, some_contradictory}
use Rattle.fixpoint.proofs.Published.{verdict_same}
use Rattle.std.specs.Prelude.{Result}
use Rattle.fixpoint.specs.Result.{verdict_is}
use Rattle.fixpoint.specs.declared.Verdict.{Verdict}
use Rattle.lesson.specs.State.{State, in_book, program_in, ContradictoryOver, Said, gives, refused, told_by, verdict_says}
use Rattle.lesson.specs.Calls.{truths_of, nonfalse_of, contradictory_of, GivesVerdict}
use Rattle.lesson.specs.declared.Refusal.{Refusal}
use Rattle.lesson.proofs.Order.{given_refused}
use Rattle.lesson.proofs.WithBook.{verdict_inside}
use Rattle.lesson.proofs.Marks.{contradictory_at}
use Rattle.lesson.proofs.Sound.{Sound, heads_in_book}
use Rattle.desk.specs.Calls.{Fresh}
use Rattle.desk.specs.Runs.{Call, left, Run, ModelVerdict, VerdictDue}
use Rattle.desk.specs.declared.Desk.{Desk}
use Rattle.desk.proofs.Left.{left_means, marks_left}
use Rattle.desk.proofs.Exists.{left_sound}

-- what is said of a literal of the book, by its program alone
abbrev pub due_of : Program → ℕ → Said wfsx.Verdict
due_of P A = cond (contradictory_names P (name_of A)) (refused 24) (gives (wfsx.verdict P A))

module _ (d : State) (s : Sound d) (A : ℕ) (i : A ∈ in_book d.book) where
  abbrev P : Program
  P = program_in d

  abbrev base : Set
  base = in_book d.book

  over : Heads⊆ P base
  over = heads_in_book d s

  reached_verdict : (ContradictoryName P (name_of A) → ⊥) → ModelVerdict base (reached_rules P (name_of A)) A (wfsx.verdict P A)
  reached_verdict never =
      record {
        stable = reached_stable P (name_of A) base over never;
        least = partial_stable_above (reached_rules P (name_of A)) base;
        value = reached_value P (name_of A) base over A refl i;
      }

  whole_verdict : (ContradictoryOver base d → ⊥) → ModelVerdict base P A (wfsx.verdict P A)
  whole_verdict never =
      record {
        stable = least_partial_stable P base over (λ n b. never ((contradiction P base over).1 (n, b)));
        least = partial_stable_above P base;
        value = verdict_value_lem P base A i;
      }

  verdict_due : VerdictDue d A (due_of P A)
  verdict_due = go (contradictory_names P (name_of A)) refl
    where
      go : (t : Bool) → contradictory_names P (name_of A) ≡ t → VerdictDue d A (cond t (refused 24) (gives (wfsx.verdict P A)))
      go true e =
          let name = (contradictory_is P (name_of A)).0 e in
          let none = (reached_contradiction P (name_of A) base over).1 name in
          record {
            refused_24 = (λ q. name, λ q. refl);
            read = λ never. absurd (never name);
            without_model = (λ q. none, λ q. refl);
            with_model = λ never. absurd (never none);
            whole = λ never. absurd (never ((some_contradictory P base over).1 (name_of A, name)));
          }
      go false e =
          let never : ContradictoryName P (name_of A) → ⊥ = λ name. true≢false (sym ((contradictory_is P (name_of A)).1 name) ∙ e) in
          record {
            refused_24 = (λ q. absurd (given_refused (wfsx.verdict P A) 24 q), λ name. absurd (never name));
            read = λ never. refl;
            without_model = (λ q. absurd (given_refused (wfsx.verdict P A) 24 q), λ none. absurd (never ((reached_contradiction P (name_of A) base over).0 none)));
            with_model = λ some. (wfsx.verdict P A, refl, reached_verdict never);
            whole = λ some. (wfsx.verdict P A, refl, whole_verdict some);
          }

module _ (cs : List Call) (start k : Desk) (f : Fresh start) (run : Run start cs k) (A : ℕ) (i : A ∈ in_book (left cs).book) (r : Result Verdict Refusal)
    (h : GivesVerdict k.shelf k.lesson A r) where
  pub verdict_said_lem : told_by verdict_is r ≡ due_of (program_in (left cs)) A
  verdict_said_lem =
      let P = program_in (left cs) in
      let b = (left cs).book in
      let T = truths_of k.lesson in
      let U = nonfalse_of k.lesson in
      let C = contradictory_of k.lesson in
      let marks = marks_left cs start k f run in
      let there = contradictory_at b P C marks.contradictory_are A i in
      h.says ∙ ap (λ (d : State). verdict_says d.book T U C A) (left_means cs start k f run) ∙ verdict_inside b T U C A i
      ∙ rw (there, verdict_same P T U marks.model_is.truths marks.model_is.nonfalse A) refl

  pub demand2 : VerdictDue (left cs) A (told_by verdict_is r)
  demand2 = rw verdict_said_lem (verdict_due (left cs) (left_sound cs) A i)
