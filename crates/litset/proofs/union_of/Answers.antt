use Rattle.std.proofs.Common.{rules, arith, ◌≡◌, length, ◌≤◌}
use mathlib.Core.Path.{refl}
use mathlib.Core.Bool.{◌||◌}
use lib.Bits.{bit_or}
use Rattle.litset.proofs.Bit.{or_bit}
use Rattle.litset.proofs.Words.{joined_none, joined_more, joined_all}
use Rattle.litset.proofs.union_of.Goals as goal

pub loop-i-init : goal.loop-i-init
loop-i-init g c = joined_none _ _ _

pub loop-i-preserved : goal.loop-i-preserved
loop-i-preserved g c = joined_more _ _ _ _ _ (search rules) c.loop-i.invariant

pub returns : goal.returns
returns g c =
    let first : length c.args.a ≡ g.row.N = search rules in
    let second : length c.args.b ≡ g.row.N = search rules in
    let i = c.loop-i.i in
    let past_first : length c.args.a ≤ i = omega arith in
    let past_second : length c.args.b ≤ i = omega arith in
    joined_all bit_or _ _ ◌||◌ or_bit refl _ _ past_first past_second c.loop-i.invariant
