use Rattle.std.proofs.Common.{arith, ◌∙◌}
use Rattle.scan.specs.declared.Alphabet.TheVariants.{SmallOnly}
use Rattle.scan.proofs.Names.{spelled_same}
use Rattle.scan.proofs.Keys.{keys_tell}
use Rattle.scan.proofs.spells.Goals as goal

pub returns : goal.returns
returns c short =
    let one = c.key_of-key in
    let two = c.key_of-other in
    let a = c.args in
    c.eq.ensures ∙ keys_tell SmallOnly a.s.now a.word.now one.result two.result one.ensures two.ensures (λ e. omega (arith, short, e))
    ∙ spelled_same a.s.now a.word.now
