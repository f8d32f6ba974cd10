use Rattle.std.proofs.Common.{ap, ◌∙◌}
use Rattle.std.specs.Option.{is_some}
use Rattle.scan.specs.declared.Alphabet.TheVariants.{EitherCase}
use Rattle.scan.proofs.Forms.{form_some}
use Rattle.reader.proofs.is_literal.Goals as goal

pub returns : goal.returns
returns c = c.is_some.ensures ∙ ap is_some c.form_of.ensures ∙ form_some EitherCase c.args.f.now
