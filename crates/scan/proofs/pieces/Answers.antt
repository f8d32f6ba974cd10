use Rattle.std.proofs.Common.{arith}
use Rattle.scan.proofs.Places.{split_here, split_more, split_end}
use Rattle.scan.proofs.pieces.Goals as goal
use Rattle.scan.proofs.pieces.Goals.{then-b-stop, else-b-stop}

pub loop-b-preserved : goal.loop-b-preserved
loop-b-preserved c =
    let a = c.args in
    elim c.if-b-stop.branch [
      | then-b-stop w ↦ omega (arith, split_here a.stop a.s.now c.loop-b.b-index c.loop-b-test.true w.if-b-stop.true)
      | else-b-stop w ↦ omega (arith, split_more a.stop a.s.now c.loop-b.b-index c.loop-b-test.true w.if-b-stop.false)
    ]

pub returns : goal.returns
returns c = omega (arith, split_end c.args.stop c.args.s.now c.loop-b.b-index (omega arith))
