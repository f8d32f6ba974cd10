-- `read_file`: each test of the whole file that fails settles its number, in the definition's order; where there are no bytes nothing is left, else the lines.
use mathlib.Core.Path.{sym, ◌∙◌}
use native.Mathlib.Omega.{arith}
use Rattle.scan.specs.declared.Alphabet.TheVariants.{EitherCase}
use Rattle.reader.proofs.Answers.{nothing_read}
use Rattle.reader.proofs.NoBytes.{no_bytes}
use Rattle.reader.proofs.Whole.{file_long, file_bytes, file_unended, file_lines}
use Rattle.reader.proofs.read_file.Goals as goal

pub returns-then-long : goal.returns-then-long
returns-then-long g c = file_long c.args.file.now (omega (arith, c.if-long.true))

pub returns-then-not-all_text : goal.returns-then-not-all_text
returns-then-not-all_text g c = file_bytes c.args.file.now (omega (arith, c.if-long.false)) (sym c.all_text.ensures ∙ c.if-not-all_text.true)

pub returns-then-bare : goal.returns-then-bare
returns-then-bare g c = nothing_read c.none_yet.ensures (no_bytes EitherCase c.args.file.now (omega (arith, c.if-bare.true)))

pub returns-then-file-n-ne10 : goal.returns-then-file-n-ne10
returns-then-file-n-ne10 g c =
    file_unended c.args.file.now (omega (arith, c.if-long.false)) (sym c.all_text.ensures ∙ c.if-not-all_text.false) c.if-bare.false c.if-file-n-ne10.true

pub returns : goal.returns
returns g c =
    let file = c.args.file.now in
    let lines = file_lines file (omega (arith, c.if-long.false)) (sym c.all_text.ensures ∙ c.if-not-all_text.false) c.if-bare.false c.if-file-n-ne10.false in
    rw lines c.read_lines.ensures
