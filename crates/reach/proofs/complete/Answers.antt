-- `complete`: a row that stays changes nothing, and a row that is found is whole.
use mathlib.Core.Path.{sym, ◌∙◌}
use borrow.Author.Tests.{not-true}
use Rattle.truth.proofs.Truth.{clash, and_l}
use Rattle.reach.proofs.Closure.{swept_none, completed}
use native.Mathlib.Omega.{arith}
use Rattle.reach.proofs.Rows.{row_put}
use Rattle.reach.proofs.complete.Goals as goal

pub returns-then-contains : goal.returns-then-contains
returns-then-contains c = record { swept = swept_none _ _; has = λ e. sym c.contains.ensures ∙ c.if-contains.true }

pub returns-then-all-is_soon_found : goal.returns-then-all-is_soon_found
returns-then-all-is_soon_found c = record { swept = swept_none _ _; has = λ e. absurd (clash e (not-true _ (and_l _ _ c.if-all-is_soon_found.true))) }

pub returns : goal.returns
returns c = completed _ _ _ _ _ _ _ c.reached-row.ensures (row_put _ _ _ (omega (arith, c.told-table, c.requires))) c.with_name.ensures
