-- `put_verdict`: each arm writes the word of its verdict.
use mathlib.Core.Path.{sym, ap, ◌∙◌}
use Rattle.fixpoint.specs.Result.{verdict_is}
use native.Mathlib.Omega.{arith}
use Rattle.lister.proofs.put_verdict.Goals as goal

pub put_word-requires : goal.put_word-requires
put_word-requires c = let room = rw (sym c.verdict_of.ensures ∙ ap verdict_is c.in-True.is) at c.requires in record { fits = omega arith }

pub returns-in-True : goal.returns-in-True
returns-in-True c = rw (sym c.verdict_of.ensures ∙ ap verdict_is c.in-True.is) c.put_word.ensures

pub put_word-requires-in-False : goal.put_word-requires-in-False
put_word-requires-in-False c = let room = rw (sym c.verdict_of.ensures ∙ ap verdict_is c.in-False.is) at c.requires in record { fits = omega arith }

pub returns-in-False : goal.returns-in-False
returns-in-False c = rw (sym c.verdict_of.ensures ∙ ap verdict_is c.in-False.is) c.put_word-in-False.ensures

pub put_word-requires-in-Undefined : goal.put_word-requires-in-Undefined
put_word-requires-in-Undefined c = let room = rw (sym c.verdict_of.ensures ∙ ap verdict_is c.in-Undefined.is) at c.requires in record { fits = omega arith }

pub returns-in-Undefined : goal.returns-in-Undefined
returns-in-Undefined c = rw (sym c.verdict_of.ensures ∙ ap verdict_is c.in-Undefined.is) c.put_word-in-Undefined.ensures
