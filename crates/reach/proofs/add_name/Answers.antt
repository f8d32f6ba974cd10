-- `add_name`: both literals of a name are in one word, and a bit is a power of two.
use native.Mathlib.Omega.{arith}
use Prim.Native.Nat.{◌+◌, ◌*◌, ◌%◌, ◌<◌}
use Rattle.litset.proofs.Bit.{one_shl}
use Rattle.reach.proofs.Rows.{pair_set}
use Rattle.reach.proofs.add_name.Goals as goal

pub returns : goal.returns
returns c =
    let at : 2 * (c.args.j % 32) < 63 = omega arith in
    rw (one_shl (2 * (c.args.j % 32)) (omega arith)) (rw (one_shl (2 * (c.args.j % 32) + 1) (omega arith)) (pair_set _ c.told-words _ c.requires))
