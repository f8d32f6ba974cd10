use mathlib.Core.Path.{◌≡◌, refl, ◌∙◌}
use Prim.Native.Nat.{◌+◌, ◌-◌, ◌<◌}
use native.Mathlib.Omega.{arith}
use lib.ListN.{length, length-set}
use Rattle.groups.proofs.Runs.{copying_more, copying_end}
use Rattle.std.proofs.Common.{◌≡◌, ◌<◌, ◌+◌, ◌-◌}
use Rattle.groups.proofs.copy_run.Goals as goal

pub loop-j-init : goal.loop-j-init
loop-j-init c =
    let none : c.args.at + (c.args.from - c.args.from) ≡ c.args.at = omega arith in
    (refl, omega arith, rw none (record { same = refl }))

pub loop-j-preserved : goal.loop-j-preserved
loop-j-preserved c =
    let j = c.loop-j.j in
    let p = c.args.at + (j - c.args.from) in
    let room : p < length c.loop-j.numbers = omega (arith, c.loop-j.invariant.0, c.requires.1) in
    let next : c.args.at + (j + 1 - c.args.from) ≡ p + 1 = omega arith in
    (length-set c.loop-j.numbers p _ ∙ c.loop-j.invariant.0, omega arith, rw next (copying_more _ _ c.loop-j-test.true c.requires.0 room c.loop-j.invariant.2))

pub returns : goal.returns
returns c =
    let behind : c.args.at + (c.loop-j.j - c.args.from) ≡ c.args.at + c.saturating_sub.result = omega arith in
    record { size = c.loop-j.invariant.0; count = omega arith; whole = rw (← behind) (copying_end _ _ c.loop-j-test.false c.loop-j.invariant.2) }
