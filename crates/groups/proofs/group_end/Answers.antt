use mathlib.Core.Path.{◌≡◌, refl}
use Prim.Native.Nat.{◌+◌, ◌≤◌}
use native.Mathlib.Omega.{arith}
use lib.ListN.{length, get_or, drop}
use Rattle.groups.specs.Parts.{alike}
use Rattle.groups.proofs.Names.{alike_past, alike_here, alike_ends}
use borrow.Author.Rules.{rules}
use native.Mathlib.Decide.{dec_le}
use Rattle.std.proofs.Common.{◌≡◌, ◌≤◌, ◌+◌, length, drop}
use Rattle.groups.specs.Parts.{alike}
use Rattle.groups.proofs.group_end.Goals as goal

pub loop-end-init : goal.loop-end-init
loop-end-init c = refl

pub returns-then-group-end : goal.returns-then-group-end
returns-then-group-end c =
    let numbers = c.args.group.now in
    omega (arith, alike_ends numbers (get_or numbers c.args.p 0) c.loop-end.end (search rules) c.if-group-end.true)

pub loop-end-preserved : goal.loop-end-preserved
loop-end-preserved c =
    let numbers = c.args.group.now in
    omega (arith, alike_here numbers (get_or numbers c.args.p 0) c.loop-end.end (search rules) c.if-group-end.false)

pub returns : goal.returns
returns c = go (dec_le c.args.p (length c.args.group.now))
  where
    go : Dec (c.args.p ≤ length c.args.group.now) → c.max.result ≡ c.args.p + alike (get_or c.args.group.now c.args.p 0) (drop c.args.p c.args.group.now)
    go (yes h) = omega (arith, alike_past c.args.group.now (get_or c.args.group.now c.args.p 0) c.loop-end.end c.loop-end-test.false)
    go (no n) = omega (arith, alike_past c.args.group.now (get_or c.args.group.now c.args.p 0) c.args.p (omega arith))
