use Rattle.std.proofs.Common.{arith}
use Rattle.sheet.proofs.Turns.{single_fails, single_goes}
use Rattle.sheet.proofs.Check.turn.Goals as goal

pub returns-then-not-true_follows : goal.returns-then-not-true_follows
returns-then-not-true_follows c =
    (c.requires, single_fails _ _ _ _ _ _ _ _ c.requires c.entry_of-e.ensures c.if-e-eq0.false c.true_follows.ensures c.if-not-true_follows.true)

pub returns : goal.returns
returns c =
    (omega arith, omega arith, single_goes _ _ _ _ _ _ _ _ c.requires c.entry_of-e.ensures c.if-e-eq0.false c.true_follows.ensures c.args.self.now.small c.if-not-true_follows.false c.from.ensures c.insert-truths.ensures)
