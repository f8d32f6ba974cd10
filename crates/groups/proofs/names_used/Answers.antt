use Rattle.groups.proofs.Names.{used_start, used_fewer}
use mathlib.Core.Path.{◌≡◌, sym, ◌∙◌}
use Prim.Native.Nat.{◌+◌, ◌-◌}
use native.Mathlib.Omega.{arith}
use Rattle.groups.proofs.names_used.Goals as goal

pub loop-k-init : goal.loop-k-init
loop-k-init c = (omega arith, used_start _ _)

pub returns-then-is_used : goal.returns-then-is_used
returns-then-is_used c =
    let one : c.loop-k.k - 1 + 1 ≡ c.loop-k.k = omega arith in
    rw one c.loop-k.invariant.1

pub loop-k-preserved : goal.loop-k-preserved
loop-k-preserved c =
    let one : c.loop-k.k - 1 + 1 ≡ c.loop-k.k = omega arith in
    (omega arith, used_fewer (rw one c.loop-k.invariant.1) (sym c.is_used.ensures ∙ c.if-is_used.false))

pub returns : goal.returns
returns c =
    let all : c.min.result ≡ c.loop-k.k = omega arith in
    rw all c.loop-k.invariant.1
