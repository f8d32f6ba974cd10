use Rattle.std.proofs.Common.{arith, refl, ◌%◌}
use borrow.Author.Tests.{eq-eqb, ne_eqb}
use Rattle.litset.proofs.Bit.{one_shl}
use Rattle.nameset.proofs.word_with.Goals as goal

pub returns-then-i-k : goal.returns-then-i-k
returns-then-i-k c = rw (eq-eqb _ _ c.if-i-k.true, one_shl (c.args.k % 64) (omega arith)) refl

pub returns : goal.returns
returns c = rw (ne_eqb _ _ c.if-i-k.false) refl
