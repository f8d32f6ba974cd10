-- What a model, a step of the model by groups, and a verdict are (document 01, "From rules to a model"; 001, definition 2; document 02, A.5 and A.10).
use Rattle.std.specs.Prelude.{◌≡◌, cond, ℕ}
use Rattle.wfsx.specs.Sets.{Set}
use Rattle.wfsx.specs.Program.{Program}
use Rattle.wfsx.specs.Model.{M, N, is_true, is_false, is-undefined}
use Rattle.wfsx.specs.Model as wfsx
use Rattle.wfsx.specs.Rounds.{rounds}
use Rattle.wfsx.specs.Groups.{step}
use Rattle.wfsx.specs.Groups as groups
use Rattle.litset.specs.Words.{capacity, set_of}
use Rattle.fixpoint.specs.declared.Verdict.{Verdict}
use Rattle.fixpoint.specs.declared.Verdict.TheVariants.{True, False, Undefined}
use Rattle.fixpoint.specs.declared.Model.{Model}
use Rattle.fixpoint.specs.declared.Values.{Values}

-- the model of P: M, N, and how many rounds M takes
pub record ModelOf (P : Program) (m : Model) : Type 0 where
  pub truths : set_of m.truths.words ≡ M P
  pub nonfalse : set_of m.nonfalse.words ≡ N P
  pub rounds : m.rounds ≡ rounds P

-- what `Values` of the code say
abbrev pub values_of : Values → groups.Values
values_of v = record { truths = set_of v.truths.words; nonfalse = set_of v.nonfalse.words }

-- the values after the step with the group's rules G, facts too, whatever the values before
pub record StepOf (G : Program) (before after : Values) : Type 0 where
  pub truths : set_of after.truths.words ≡ (step capacity G (values_of before)).truths
  pub nonfalse : set_of after.nonfalse.words ≡ (step capacity G (values_of before)).nonfalse

-- the words of a verdict
abbrev pub verdict_is : Verdict → wfsx.Verdict
verdict_is True = is_true
verdict_is False = is_false
verdict_is Undefined = is-undefined

-- the verdict that two sets give: true if in the first, false if not in the second
abbrev pub verdict_in : Set → Set → ℕ → wfsx.Verdict
verdict_in T U A = cond (T A) is_true (cond (U A) is-undefined is_false)
