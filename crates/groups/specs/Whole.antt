-- The model worked out group by group is the model (document 02, A.5).
use Rattle.std.specs.Prelude.{◌≡◌}
use Rattle.wfsx.specs.Program.{Program}
use Rattle.wfsx.specs.Model.{M, N}
use Rattle.litset.specs.Words.{set_of}
use Rattle.fixpoint.specs.declared.Values.{Values}

-- the values are M and N of the program
pub record WholeOf (P : Program) (v : Values) : Type 0 where
  pub truths : set_of v.truths.words ≡ M P
  pub nonfalse : set_of v.nonfalse.words ≡ N P
