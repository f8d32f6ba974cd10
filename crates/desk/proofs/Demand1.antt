-- Demand 1: in a run a call is turned down by a number exactly under its condition, read over what the list before it leaves, and then it leaves book,
-- facts and every lent byte as they were. The number that decides is the first of the call's conditions that is met.
use mathlib.Core.List.{List}
use Rattle.calls.specs.Lists.{Refusals}
use Rattle.calls.proofs.Lists.{run_refusals}
use Rattle.desk.specs.Calls.{state_of, Fresh}
use Rattle.desk.specs.Runs.{Call, spec_of, left, Run}
use Rattle.desk.specs.declared.Desk.{Desk}
use Rattle.desk.proofs.Laws.{Good}
use Rattle.desk.proofs.LoadLaws.{fresh_means, fresh_good}
use Rattle.desk.proofs.Left.{laws_of}

-- each refusal in a run: `c` is called on the desk that the list `cs` left
pub demand1 : (cs : List Call) (start k : Desk) → Fresh start → Run start cs k → (c : Call) (r : (spec_of c).Reply) → (spec_of c).Meets k r → Refusals (spec_of c) k (left cs) r
demand1 cs start k f run c r h = rw (fresh_means start f) at (run_refusals state_of Good spec_of laws_of cs start k (fresh_good start f) run c r h)
