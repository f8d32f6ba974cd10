-- `put_mark`: the test of the set says which word it is.
use mathlib.Core.Path.{◌≡◌, sym, ap, ◌∙◌}
use mathlib.Core.Bool.{Bool, cond}
use native.Mathlib.Omega.{arith}
use Rattle.lister.specs.Listing.{contradictory_word, verdict_word, verdicts_by, words_by}
use Rattle.lister.proofs.put_mark.Goals as goal
use Rattle.lister.proofs.put_mark.Goals.{After-contains}

word : (c : After-contains) (b : Bool) → c.contains.result ≡ b
    → let a = c.args in words_by a.marks a.l ≡ cond b contradictory_word (verdict_word (verdicts_by a.marks.model a.l))
word c b e = let a = c.args in ap (λ (t : Bool). cond t contradictory_word (verdict_word (verdicts_by a.marks.model a.l))) (sym c.contains.ensures ∙ e)

pub put_word-requires : goal.put_word-requires
put_word-requires c =
    let room = rw (word (goal.at.put_word-requires c).After-contains _ c.if-contains.true) at c.requires in
    record { fits = omega arith }

pub returns-then-contains : goal.returns-then-contains
returns-then-contains c =
    rw (word (goal.at.returns-then-contains c).After-contains _ c.if-contains.true) c.put_word.ensures

pub put_verdict-requires : goal.put_verdict-requires
put_verdict-requires c =
    rw (word (goal.at.put_verdict-requires c).After-contains _ c.if-contains.false) at c.requires

pub returns : goal.returns
returns c =
    rw (word (goal.at.returns c).After-contains _ c.if-contains.false) c.put_verdict.ensures
