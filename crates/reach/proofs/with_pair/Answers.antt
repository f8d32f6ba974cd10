-- `with_pair`: the test is the definition's, and a bit is a power of two.
use native.Mathlib.Omega.{arith}
use mathlib.Core.Path.{refl}
use Prim.Native.Nat.{◌+◌, ◌*◌, ◌%◌, ◌<◌}
use borrow.Author.Tests.{eq-eqb, ne_eqb}
use Rattle.litset.proofs.Bit.{one_shl}
use Rattle.reach.proofs.with_pair.Goals as goal

pub returns-then-i-k : goal.returns-then-i-k
returns-then-i-k c =
    let at : 2 * (c.args.k % 32) < 63 = omega arith in
    rw (eq-eqb _ _ c.if-i-k.true) (simp (one_shl (2 * (c.args.k % 32)) (omega arith), one_shl (2 * (c.args.k % 32) + 1) (omega arith)))

pub returns : goal.returns
returns c = rw (ne_eqb _ _ c.if-i-k.false) refl
