use Rattle.std.proofs.Common.{◌∙◌, ap, refl, arith}
use Rattle.std.proofs.Math.ListN.{length-map}
use Rattle.search.specs.declared.Mark.TheVariants.{Unknown}
use Rattle.search.specs.Marks.{turned_mark}
use Rattle.search.proofs.Marks.{filled_more, filled_is}
use Rattle.search.proofs.Codes.{map_at}
use Rattle.search.proofs.turn.Goals as goal

pub loop-i-init : goal.loop-i-init
loop-i-init c = record { room = refl; done = λ A h. absurd (omega arith); left = λ A h. refl }

pub loop-i-preserved : goal.loop-i-preserved
loop-i-preserved c =
    let inv = c.loop-i.invariant in
    filled_more _ _ _ _ _ inv (omega (arith, c.told-marks, inv.room)) _ (c.turned.ensures ∙ ap (turned_mark _ _) (inv.left c.loop-i.i (omega arith)))

pub returns : goal.returns
returns c =
    let g = turned_mark c.args.from c.args.to in
    filled_is _ _ _ _ _ c.loop-i.invariant (omega (arith, c.told-marks)) _ (length-map c.args.marks.now g) (map_at Unknown g c.args.marks.now)
