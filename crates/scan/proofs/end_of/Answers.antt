use Rattle.std.proofs.Common.{arith, ◌≡◌, ◌≤◌, ◌+◌, length, drop}
use native.Mathlib.Decide.{dec_le}
use Rattle.scan.specs.Text.{len_to}
use Rattle.scan.proofs.Places.{len_to_here, len_to_more, len_to_end}
use Rattle.scan.proofs.end_of.Goals as goal

pub returns-then-s-i : goal.returns-then-s-i
returns-then-s-i c =
    let found = len_to_here c.args.stop c.args.s.now c.loop-i.i (omega arith) c.if-s-i.true in
    (omega arith, omega arith, λ h. omega arith)

pub loop-i-preserved : goal.loop-i-preserved
loop-i-preserved c =
    let next = len_to_more c.args.stop c.args.s.now c.loop-i.i (omega arith) c.if-s-i.false in
    omega arith

pub returns : goal.returns
returns c =
    (go (dec_le c.args.from (length c.args.s.now)), omega arith, λ h. omega arith)
  where
    go : Dec (c.args.from ≤ length c.args.s.now) → c.max.result ≡ c.args.from + len_to c.args.stop (drop c.args.from c.args.s.now)
    go (yes h) = omega (arith, len_to_end c.args.stop c.args.s.now c.loop-i.i c.loop-i-test.false)
    go (no n) = omega (arith, len_to_end c.args.stop c.args.s.now c.args.from (omega arith))
